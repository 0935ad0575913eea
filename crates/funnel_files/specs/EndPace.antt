-- How often the end of the last segment is looked past (profile).
use Rattle.std.specs.Prelude.{ℕ, Bool, true, Option, None, Some, nat_le}

-- whether it is time to look, by how many milliseconds have passed since the last look, if that is known
abbrev pub is_time : (passed : Option ℕ) → Bool
is_time None = true
is_time (Some passed) = nat_le 200 passed
