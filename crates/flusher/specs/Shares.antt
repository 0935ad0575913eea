-- What the workers' shares have counted.
use Rattle.std.specs.Prelude.{◌≡◌, ℕ, List}

-- how many debts the intake counted as taken, the mark of each station as the intake knows it, and the number of the
-- last line that was taken
pub record IntakeCount : Type 0 where
  pub taken : ℕ
  pub marks : List ℕ
  pub last : ℕ

-- how many debts a feeder counted as answered, and as dropped
pub record FeederCount : Type 0 where
  pub answered : ℕ
  pub dropped : ℕ

-- nothing is counted
abbrev pub IsUnused : FeederCount → Type 0
IsUnused share = (share.answered ≡ 0) × (share.dropped ≡ 0)
