-- What the check switch keeps.
use Rattle.std.specs.Prelude.{ℕ, Bool, List}

-- the number of answers over which the share is taken, the last of them, newest first, and whether checks are off
-- (innfeed.conf(5))
pub record Switch : Type 0 where
  pub filter : ℕ
  pub recent : List Bool
  pub off : Bool
