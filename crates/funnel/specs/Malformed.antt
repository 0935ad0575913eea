-- How malformed lines are counted.
use Rattle.std.specs.Prelude.{◌+◌, ◌-◌, ◌^◌, ℕ, min, Option, None, Some}
use Rattle.funnel.specs.declared.line.LineFault.{LineFault}
use Rattle.funnel.specs.declared.malformed.Malformed.{Malformed}

-- one more, at most the greatest u64
abbrev pub one_more : ℕ → ℕ
one_more count = min (count + 1) (2 ^ 64 - 1)

-- one more malformed line, with this number; the first of them stays
abbrev pub first_of : Option Malformed → ℕ → LineFault → Malformed
first_of None number fault = record { lines = 1; number = number; fault = fault }
first_of (Some before) number fault = record before { lines = one_more before.lines }
