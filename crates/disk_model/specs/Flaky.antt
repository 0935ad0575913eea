-- What a call of a flaky disk does (profile).
use Rattle.std.specs.Prelude.{◌≡◌, ℕ, ◌+◌, ◌-◌, ◌^◌, ◌==◌, if◌then◌else◌, min, Bool, true, false, Option, None, Some}
use Rattle.std.specs.Prelude.{Result, IsErr}
use Rattle.disk_model.specs.declared.DiskFault.{DiskFault}
use Rattle.disk_model.specs.declared.flaky.FlakyDisk.{FlakyDisk}
use Rattle.disk_model.specs.Disk.{CountsFaults}

-- how many more calls it passes on before the one that fails, or none once that has come
abbrev pub calls_before : {D : Type 0} → FlakyDisk D → Option ℕ
calls_before disk = disk.left

-- the inner disk
abbrev pub inner : {D : Type 0} → FlakyDisk D → D
inner disk = disk.disk

-- how many faults it has reported by itself
abbrev pub own_faults : {D : Type 0} → FlakyDisk D → ℕ
own_faults disk = disk.faults

-- how many faults it has reported in all, over a disk that counts its own so
abbrev pub all_faults : {D : Type 0} → (faults_of : D → ℕ) → FlakyDisk D → ℕ
all_faults faults_of disk = min (own_faults disk + faults_of (inner disk)) (2 ^ 64 - 1)

-- whether the next call is the one that fails
abbrev pub is_due : Option ℕ → Bool
is_due None = false
is_due (Some left) = left == 0

-- how many are left after a call
abbrev pub left_after : Option ℕ → Option ℕ
left_after None = None
left_after (Some left) = if left == 0 then None else Some (left - 1)

-- One call of read_at, write_at, cut or sync. The one that is due fails and is counted, and the inner disk is not
-- asked. Any other asks the inner disk, and fails only if that does.
pub record FailsOnce {D T : Type 0} (faults_of : D → ℕ) (old new : FlakyDisk D) (result : Result T DiskFault) : Type
    0 where
  pub counts_down : calls_before new ≡ left_after (calls_before old)
  pub passes : is_due (calls_before old) ≡ false → CountsFaults (faults_of (inner old)) (faults_of (inner new)) result
  pub own : is_due (calls_before old) ≡ false → own_faults new ≡ own_faults old
  pub fails : is_due (calls_before old) ≡ true → IsErr result
  pub counts : is_due (calls_before old) ≡ true → own_faults new ≡ min (own_faults old + 1) (2 ^ 64 - 1)
  pub asks_not : is_due (calls_before old) ≡ true → inner new ≡ inner old
