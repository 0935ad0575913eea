-- Where the debts of a peer are (profile). Moments are seconds of the caller's clock, connections are known by their
-- numbers. A debt is known by its key, which is one number (`ledger_core`, `specs/Keys.antt`).
use Rattle.std.specs.Prelude.{◌≡◌, ◌==◌, ◌+◌, ◌<◌, ◌^◌, ◌-◌, ℕ, zero, suc, Bool, true, false, nat_le, min, Option, Some, option_map, if◌then◌else◌, List, [], ◌∷◌, length, map, find, filter}
use Rattle.std.specs.BTreeMap.{insert_entry}
use Rattle.std.specs.Map.{lookup}
use Rattle.std.specs.Ordering.{nat_cmp}

-- a debt waits to be claimed, is held by one connection, or waits until a moment
pub data DebtPlace : Type 0 where
  Ready : DebtPlace
  Held : (connection : ℕ) → DebtPlace
  Later : (moment : ℕ) → DebtPlace

-- the place of a debt that waits until this moment: until 0 is no wait
abbrev pub place_until : ℕ → DebtPlace
place_until zero = Ready
place_until (suc moment) = Later (suc moment)

-- the place of each number that is owed, in rising order of the numbers
abbrev pub Places : Type 0
Places = List (ℕ × DebtPlace)

-- the numbers that have a place
abbrev pub placed : Places → List ℕ
placed places = map (λ (entry : ℕ × DebtPlace). entry.0) places

-- the place of this number
abbrev pub place_at : Places → ℕ → Option DebtPlace
place_at places number = lookup (λ other. other == number) places

-- this connection holds this number
abbrev pub IsHeldBy : Places → ℕ → ℕ → Type 0
IsHeldBy places connection number = place_at places number ≡ Some (Held connection)

-- all of these are ready
abbrev pub all_ready : List ℕ → Places
all_ready numbers = map (λ (number : ℕ). (number, Ready)) numbers

-- the places and one more, inserted by its key
abbrev pub with_place : Places → ℕ → DebtPlace → Places
with_place places key place = insert_entry nat_cmp places key place

-- the number has this place now, and every other keeps its own
abbrev pub moved : Places → ℕ → DebtPlace → Places
moved places number place =
    map (λ (entry : ℕ × DebtPlace). if entry.0 == number then (number, place) else entry) places

-- the number has no place any more
abbrev pub gone : Places → ℕ → Places
gone places number = filter (λ (entry : ℕ × DebtPlace). if entry.0 == number then false else true) places

-- none of these has a place any more
abbrev pub all_gone : Places → List ℕ → Places
all_gone places [] = places
all_gone places (number ∷ numbers) = all_gone (gone places number) numbers

-- a debt at this place may be claimed at this moment
abbrev pub is_candidate : ℕ → DebtPlace → Bool
is_candidate now Ready = true
is_candidate now (Held connection) = false
is_candidate now (Later moment) = nat_le moment now

-- the least number that may be claimed at this moment: the first, since they rise
abbrev pub least_candidate : ℕ → Places → Option ℕ
least_candidate now places =
    option_map (λ (entry : ℕ × DebtPlace). entry.0)
    (find (λ (entry : ℕ × DebtPlace). is_candidate now entry.1) places)

-- held by this connection
abbrev pub is_held_by : ℕ → DebtPlace → Bool
is_held_by connection Ready = false
is_held_by connection (Held other) = other == connection
is_held_by connection (Later moment) = false

-- all that this connection held is ready
abbrev pub released : ℕ → Places → Places
released connection places =
    map (λ (entry : ℕ × DebtPlace). if is_held_by connection entry.1 then (entry.0, Ready) else entry) places

-- how many numbers this connection holds
abbrev pub held_count : ℕ → Places → ℕ
held_count connection places = length (filter (λ (entry : ℕ × DebtPlace). is_held_by connection entry.1) places)

-- the moment until which a deferred debt waits: 60 seconds later, or the last moment there is
abbrev pub deferred_until : ℕ → ℕ
deferred_until now = min (now + 60) (2 ^ 64 - 1)

-- held by some connection
abbrev pub is_held : DebtPlace → Bool
is_held Ready = false
is_held (Held connection) = true
is_held (Later moment) = false

-- neither ready nor held: it waits for a moment
abbrev pub IsLater : DebtPlace → Type 0
IsLater Ready = ⊥
IsLater (Held connection) = ⊥
IsLater (Later moment) = Unit {0}

-- the number has a place, and no connection holds it
abbrev pub IsUnheld : Places → ℕ → Type 0
IsUnheld places number = option_map is_held (place_at places number) ≡ Some false

-- each of these in turn, once those before it are gone, has a place, and no connection holds it
abbrev pub AreUnheld : Places → List ℕ → Type 0
AreUnheld places [] = Unit {0}
AreUnheld places (number ∷ numbers) = IsUnheld places number × AreUnheld (gone places number) numbers

-- the numbers that no connection holds, rising
abbrev pub unheld : Places → List ℕ
unheld places =
    map (λ (entry : ℕ × DebtPlace). entry.0)
    (filter (λ (entry : ℕ × DebtPlace). if is_held entry.1 then false else true) places)

-- each number is above this one
abbrev pub AreAbove : ℕ → Places → Type 0
AreAbove number [] = Unit {0}
AreAbove number (entry ∷ rest) = (number < entry.0) × AreAbove number rest

-- each number is below all later ones, so none is there twice
abbrev pub AreRising : Places → Type 0
AreRising [] = Unit {0}
AreRising (entry ∷ rest) = AreAbove entry.0 rest × AreRising rest
