-- What a disk in memory promises beyond what each disk does (profile).
use Rattle.std.specs.Prelude.{◌≡◌, ℕ, ◌+◌, ◌-◌, ◌^◌, min, List, Result, OnOk, OnErr}
use Rattle.disk_model.specs.declared.DiskFault.{DiskFault}
use Rattle.disk_model.specs.declared.memory.MemDisk.{MemDisk}
use Rattle.disk_model.specs.Disk.{Event}
use Rattle.disk_model.specs.Memory.{log_of}

-- what has happened to it
abbrev pub events : MemDisk → List Event
events disk = log_of disk.history.items

-- what it holds
abbrev pub held : MemDisk → List ℕ
held disk = disk.octets.items

-- how many faults it has reported
abbrev pub faults_in : MemDisk → ℕ
faults_in disk = disk.faults

-- One call that may be refused memory. If it is refused, it changes nothing and is counted; no other call is counted.
pub record IsRefusedWhole (old new : MemDisk) (result : Result (Unit {0}) DiskFault) : Type 0 where
  pub ok : OnOk result (faults_in new ≡ faults_in old)
  pub err : OnErr result (faults_in new ≡ min (faults_in old + 1) (2 ^ 64 - 1))
  pub unchanged : OnErr result (events new ≡ events old)
