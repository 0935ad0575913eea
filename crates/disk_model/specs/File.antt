-- A file as a disk, as contracts see it (profile).
use Rattle.std.specs.Prelude.{◌≡◌, ℕ, Bool, true, Result, IsErr}
use Rattle.disk_model.specs.declared.raw_file.RawFile.{Ghosts}
use Rattle.disk_model.specs.declared.DiskFault.{DiskFault}
use Rattle.disk_model.specs.declared.file.FileDisk.{FileDisk}

-- the file itself
abbrev pub file_of : {F : Type 0} {g : Ghosts F} → FileDisk F g → F
file_of disk = disk.file

-- its length, as it keeps it
abbrev pub length_kept : {F : Type 0} {g : Ghosts F} → FileDisk F g → ℕ
length_kept disk = disk.len

-- how many faults it has reported
abbrev pub faults_of : {F : Type 0} {g : Ghosts F} → FileDisk F g → ℕ
faults_of disk = disk.faults

-- whether a sync of it has failed
abbrev pub has_lost : {F : Type 0} {g : Ghosts F} → FileDisk F g → Bool
has_lost disk = disk.lost

-- How a sync depends on earlier ones: once one has failed, every later one fails too, and the file is not asked again.
pub record LosesOnce {F T : Type 0} {g : Ghosts F} (old new : FileDisk F g) (result : Result T DiskFault) : Type 0 where
  pub fails : has_lost old ≡ true → IsErr result
  pub asks_not : has_lost old ≡ true → file_of new ≡ file_of old
  pub stays : has_lost old ≡ true → has_lost new ≡ true
  pub first : IsErr result → has_lost new ≡ true
