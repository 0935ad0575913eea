-- How soon more lines are looked for at the end of a funnel that is followed, and how long a batch waits (profile).
use Rattle.std.specs.Prelude.{ℕ, Bool, true, false, nat_le}

-- the pause in milliseconds, by whether lines came within the last second, and whether batches are not acknowledged
-- yet, or that is not printed yet
abbrev pub pause_ms : (is_busy is_awaited : Bool) → ℕ
pause_ms true is_awaited = 5
pause_ms false true = 20
pause_ms false false = 50

-- whether a batch ends with the line that came, by how many milliseconds ago its first one did
abbrev pub ends_batch : (passed : ℕ) → Bool
ends_batch passed = nat_le 5 passed
