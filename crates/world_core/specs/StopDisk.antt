-- What a call of a disk that may be stopped does (profile).
use Rattle.std.specs.Prelude.{◌≡◌, ◌⊎◌, ℕ, ◌+◌, ◌-◌, ◌^◌, min, List, ◌∷◌, Result, IsErr}
use Rattle.disk_model.specs.Disk.{Event}
use Rattle.disk_model.specs.InMemory.{events, faults_in, IsRefusedWhole}
use Rattle.disk_model.specs.declared.DiskFault.{DiskFault}
use Rattle.disk_model.specs.declared.memory.MemDisk.{MemDisk}
use Rattle.world_core.specs.declared.stop.StopDisk.{StopDisk}

-- the disk beneath
abbrev pub beneath : StopDisk → MemDisk
beneath disk = disk.disk

-- what has happened to the disk beneath
abbrev pub happened : StopDisk → List Event
happened disk = events (beneath disk)

-- the rank of its tape: a peer's rank; the intake's comes after all peers'
abbrev pub rank_at : StopDisk → ℕ
rank_at disk = disk.rank

-- how many faults it reported by itself
abbrev pub own_faults : StopDisk → ℕ
own_faults disk = disk.faults

-- how many faults it reported in all
abbrev pub all_faults : StopDisk → ℕ
all_faults disk = min (own_faults disk + faults_in (beneath disk)) (2 ^ 64 - 1)

-- the call is passed on: it fails only if memory is refused to the disk beneath, and then changes nothing
pub record PassesOn (old new : StopDisk) (result : Result (Unit {0}) DiskFault) : Type 0 where
  pub whole : IsRefusedWhole (beneath old) (beneath new) result
  pub own : own_faults new ≡ own_faults old

-- The call fails, but has reached the disk beneath, and no sync follows it. If memory was refused to that disk, nothing
-- has happened.
pub record Reaches (event : Event) (old new : StopDisk) (result : Result (Unit {0}) DiskFault) : Type 0 where
  pub fails : IsErr result
  pub reached : (happened new ≡ event ∷ happened old)
      ⊎ ((happened new ≡ happened old) × (faults_in (beneath new) ≡ min (faults_in (beneath old) + 1) (2 ^ 64 - 1)))

-- the call fails, and the disk beneath is as it was
pub record RefusesCall (old new : StopDisk) (result : Result (Unit {0}) DiskFault) : Type 0 where
  pub fails : IsErr result
  pub same : beneath new ≡ beneath old
  pub own : own_faults new ≡ min (own_faults old + 1) (2 ^ 64 - 1)
