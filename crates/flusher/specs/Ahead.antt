-- Debts that are read from a tape before they are claimed.
use Rattle.std.specs.Prelude.{ℕ, ◌+◌, ◌&&◌, Bool, if◌then◌else◌, List, [], ◌∷◌, ◌++◌, length, nat_le, nat_lt}
use Rattle.std.specs.List.{list_all}
use Rattle.ledger_core.specs.State.{Owing}

-- so many are kept at most
abbrev pub most_ahead : ℕ
most_ahead = 1024

-- so many are read in a row
abbrev pub step_ahead : ℕ
step_ahead = 128

-- how many are read next, if these are kept
abbrev pub wanted_behind : List Owing → ℕ
wanted_behind kept = if nat_le (length kept + step_ahead) most_ahead then step_ahead else 0

-- where the reading goes on, once the debt of this key was read by itself: behind it, if nothing is kept
abbrev pub begun : ℕ → List Owing → ℕ → ℕ
begun key [] end = key
begun key (debt ∷ kept) end = end

-- where it goes on, once the debts of these keys were read
abbrev pub gone_on : ℕ → List ℕ → ℕ
gone_on end [] = end
gone_on end (key ∷ keys) = gone_on key keys

-- whether this key is above those of these debts
abbrev pub is_above : List Owing → ℕ → Bool
is_above kept key = list_all (λ (debt : Owing). nat_lt debt.0 key) kept

-- there is room for one more debt, and this key is above those that are kept
abbrev pub has_room_for : List Owing → ℕ → Bool
has_room_for kept key = nat_lt (length kept) most_ahead && is_above kept key

-- what is kept of these debts, behind those that were kept before
abbrev pub kept_with : List Owing → List Owing → List Owing
kept_with kept [] = kept
kept_with kept (debt ∷ debts) = kept_with (if has_room_for kept debt.0 then kept ++ debt ∷ [] else kept) debts
