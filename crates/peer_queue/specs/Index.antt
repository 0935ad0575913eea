-- What an index of places holds: the moment at which each number is due, if any, and who holds what.
use Rattle.std.specs.Prelude.{◌≡◌, ◌==◌, ◌↔◌, ◌<◌, ◌^◌, ℕ, Bool, true, List}
use Rattle.std.specs.Prelude.{Option, Some, None, IsSome, find, map, option_map, unwrap_or}
use Rattle.std.specs.BTreeSet.{BTreeSet, contains}
use Rattle.std.specs.Ordering.{nat_cmp, ordering_then}
use Rattle.std.specs.declared.cmp.Ordering.{Ordering}
use Rattle.deferral.specs.Due.{Waiting, IsRising, due_of}
use Rattle.peer_queue.specs.DebtPlace.{DebtPlace, Places, Ready, Held, place_until}
use Rattle.peer_queue.specs.declared.wait.Readiness.{Readiness}
use Rattle.peer_queue.specs.declared.wait.Readiness.TheVariants.{Ready as ReadyNow, Until}

-- the order of pairs of a connection and a number
abbrev pub pair_cmp : ℕ × ℕ → ℕ × ℕ → Ordering
pair_cmp one other = ordering_then (nat_cmp one.0 other.0) (nat_cmp one.1 other.1)

-- who holds a number, if one does
abbrev pub Holders : Type 0
Holders = ℕ → Option ℕ

-- who holds a number, by pairs of a connection and a number that it holds
abbrev pub holder_in : List (ℕ × ℕ) → Holders
holder_in pairs number =
    option_map (λ (pair : ℕ × ℕ). pair.0) (find (λ (pair : ℕ × ℕ). pair.1 == number) pairs)

-- whether a connection holds a number, by such pairs
abbrev pub holds : BTreeSet (ℕ × ℕ) → ℕ → ℕ → Bool
holds held connection number = contains pair_cmp held (connection, number)

-- the place of a number that waits for this
abbrev pub place_for : Readiness → DebtPlace
place_for ReadyNow = Ready
place_for (Until moment) = place_until moment

-- the moment from which on it may be claimed
abbrev pub due_at : Readiness → ℕ
due_at ReadyNow = 0
due_at (Until moment) = moment

-- the place of a number that is due at this moment, or at none because this connection holds it
abbrev pub place_by : Option ℕ → Option ℕ → DebtPlace
place_by holder None = Held (unwrap_or holder 0)
place_by holder (Some moment) = place_for (Until moment)

-- the place of each number
abbrev pub places_by : Holders → Waiting → Places
places_by holders agenda = map (λ (entry : ℕ × Option ℕ). (entry.0, place_by (holders entry.0) entry.1)) agenda

-- what an index keeps
pub record IsKept (agenda : Waiting) (holders : Holders) (holds : ℕ → ℕ → Bool) : Type 0 where
  pub rising : IsRising agenda
  -- a number is due at no moment exactly if a connection holds it
  pub held : (number : ℕ) → (due_of agenda number ≡ Some None) ↔ IsSome (holders number)
  -- no number is held twice
  pub told : (connection number : ℕ) → (holds connection number ≡ true) ↔ (holders number ≡ Some connection)
  -- each moment is one of 64 bits
  pub moments : (number moment : ℕ) → due_of agenda number ≡ Some (Some moment) → moment < 2 ^ 64
