-- What one call of a link did with octets.
use Rattle.std.specs.Prelude.{◌≡◌, ℕ, Bool, true, false, List, ◌++◌, Option, None, Some}
use Rattle.event_loop.specs.declared.moved.Moved.{Moved}
use Rattle.event_loop.specs.declared.moved.Moved.TheVariants.{Done, Later, Closed, Fault}

-- how many octets were moved
abbrev pub moved : Moved → ℕ
moved (Done n) = n
moved Later = 0
moved Closed = 0
moved Fault = 0

-- whether it is to be tried later
abbrev pub is_wait : Moved → Bool
is_wait (Done n) = false
is_wait Later = true
is_wait Closed = false
is_wait Fault = false

-- if the octets are reported, those that came follow those that were there
abbrev pub Tells : Option (List ℕ) → List ℕ → Option (List ℕ) → Type 0
Tells None more new = new ≡ None
Tells (Some old) more new = new ≡ Some (old ++ more)
