-- What a call of a fuse does (profile).
use Rattle.std.specs.Prelude.{◌≡◌, ℕ, ◌+◌, ◌-◌, ◌^◌, ◌<◌, min, Result, IsErr}
use Rattle.disk_model.specs.declared.Disk.{Ghosts}
use Rattle.disk_model.specs.declared.DiskFault.{DiskFault}
use Rattle.disk_model.specs.declared.fuse.FuseDisk.{FuseDisk}
use Rattle.disk_model.specs.Disk.{CountsFaults}

-- how many more calls it passes on
abbrev pub calls_left : {D : Type 0} {g : Ghosts D} → FuseDisk D g → ℕ
calls_left fuse = fuse.left

-- the inner disk
abbrev pub inner : {D : Type 0} {g : Ghosts D} → FuseDisk D g → D
inner fuse = fuse.disk

-- how many faults it has reported by itself
abbrev pub own_faults : {D : Type 0} {g : Ghosts D} → FuseDisk D g → ℕ
own_faults fuse = fuse.faults

-- how many faults it has reported in all
abbrev pub all_faults : {D : Type 0} {g : Ghosts D} → FuseDisk D g → ℕ
all_faults {g = g} fuse = min (own_faults fuse + g.faults_of (inner fuse)) (2 ^ 64 - 1)

-- One call of read_at, write_at, cut or sync. With a call left it uses that and asks the inner disk, and fails only if
-- that does. With none left it fails and is counted, and the inner disk is not asked.
pub record Burns {D T : Type 0} {g : Ghosts D} (old new : FuseDisk D g) (result : Result T DiskFault) : Type 0 where
  pub spends : 0 < calls_left old → calls_left new + 1 ≡ calls_left old
  pub passes : 0 < calls_left old → CountsFaults (g.faults_of (inner old)) (g.faults_of (inner new)) result
  pub own : 0 < calls_left old → own_faults new ≡ own_faults old
  pub fails : calls_left old ≡ 0 → IsErr result
  pub counts : calls_left old ≡ 0 → own_faults new ≡ min (own_faults old + 1) (2 ^ 64 - 1)
  pub asks_not : calls_left old ≡ 0 → inner new ≡ inner old
  pub stays : calls_left old ≡ 0 → calls_left new ≡ 0
