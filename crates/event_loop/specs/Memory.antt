-- A link in memory: what it gives and takes, few octets at a time, up to the end of each direction (profile).
use Rattle.std.specs.Prelude.{◌≡◌, ◌⊎◌, ℕ, ◌-◌, nat_le, min, List, [], ◌∷◌, ◌++◌, length, take, drop}
use Rattle.std.specs.Prelude.{Option, None, Some, unwrap_or, if◌then◌else◌}
use Rattle.event_loop.specs.Link.{moved}
use Rattle.event_loop.specs.declared.memory.End.{End}
use Rattle.event_loop.specs.declared.memory.End.TheVariants.{Never, Closes, Fails}
use Rattle.event_loop.specs.declared.moved.Moved.{Moved}
use Rattle.event_loop.specs.declared.moved.Moved.TheVariants.{Done, Later, Closed, Fault}

-- what a link in memory holds
pub record Memory : Type 0 where
  pub gave : List ℕ  -- the octets that it gave, oldest first
  pub waiting : List ℕ  -- those that it has still to give
  pub taken : List ℕ  -- the octets that it took, oldest first
  pub piece : ℕ  -- the most octets that a call moves
  pub gives : End  -- where it gives no more
  pub takes : End  -- where it takes no more

-- the end in place of a move, after `count` octets
abbrev pub met : End → ℕ → Option Moved
met Never count = None
met (Closes at) count = if nat_le at count then Some Closed else None
met (Fails at) count = if nat_le at count then Some Fault else None

-- how many of the octets wanted go before the end, after `count` octets
abbrev pub cut : End → (count wanted : ℕ) → ℕ
cut Never count wanted = wanted
cut (Closes at) count wanted = min wanted (at - count)
cut (Fails at) count wanted = min wanted (at - count)

-- the move of `count` octets, or that none waits
abbrev pub move_of : List ℕ → ℕ → Moved
move_of [] count = Later
move_of (octet ∷ waiting) count = Done count

-- what it returns if there is room for `room` octets: its end, if that is reached; otherwise the number of those that
-- wait, up to a piece and up to the end
abbrev pub gives_now : Memory → (room : ℕ) → Moved
gives_now link room =
    unwrap_or (met link.gives (length link.gave))
    (move_of link.waiting (cut link.gives (length link.gave) (min (min link.piece room) (length link.waiting))))

-- `count` more octets were given
abbrev pub after_giving : Memory → ℕ → Memory
after_giving link count = record link { gave = link.gave ++ take count link.waiting; waiting = drop count link.waiting }

-- what it returns if `offered` octets are offered: its end, if that is reached; otherwise their number, up to a piece
-- and up to the end
abbrev pub takes_now : Memory → (offered : ℕ) → Moved
takes_now link offered =
    unwrap_or (met link.takes (length link.taken)) (Done (cut link.takes (length link.taken) (min link.piece offered)))

-- these more were taken
abbrev pub after_taking : Memory → List ℕ → Memory
after_taking link octets = record link { taken = link.taken ++ octets }

-- a call with room for `room` octets: it returns exactly what `gives_now` says, and gives that many
abbrev pub Gives : Memory → (room : ℕ) → Moved → Memory → Type 0
Gives link room made new = (made ≡ gives_now link room) × (new ≡ after_giving link (moved made))

-- a call that is offered these octets: it returns exactly what `takes_now` says, or that it failed if memory was
-- refused, and takes that many
abbrev pub Takes : Memory → (octets : List ℕ) → Moved → Memory → Type 0
Takes link octets made new =
    ((made ≡ takes_now link (length octets)) ⊎ (made ≡ Fault)) × (new ≡ after_taking link (take (moved made) octets))
