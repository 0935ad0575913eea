-- What a peer's backlog sheds above its limit (profile; innfeed.conf(5), backlog-limit).
use Rattle.std.specs.Prelude.{◌≡◌, ◌⊎◌, ◌==◌, ◌<◌, ◌≤◌, ℕ, true, false, if◌then◌else◌, List, [], length, take, filter}
use Rattle.std.specs.List.{list_any}
use Rattle.ledger_core.specs.declared.note.Note.{Note}
use Rattle.ledger_core.specs.declared.note.Cause.TheVariants.{Limit}
use Rattle.recovery.specs.Notes.{drops}
use Rattle.ledger_core.specs.Shape.{Shape, Size, octets_sized}
use Rattle.ledger_core.specs.State.{State, Owing, octets_of_debts, owed_bytes}
use Rattle.peer_queue.specs.declared.limits.Limits.{Limits}
use Rattle.peer_queue.specs.DebtPlace.{Places, unheld}

-- the octets that are owed without the debts of these numbers
abbrev pub owed_without : State → List ℕ → ℕ
owed_without state numbers = octets_of_debts (filter (λ (debt : Owing). if list_any (λ (number : ℕ). number == debt.0) numbers then false else true) state.debts)

-- nothing is to be shed if that many octets are owed: there is no limit, or they are not above the high water
abbrev pub AreWithin : Limits → ℕ → Type 0
AreWithin limits octets = (limits.backlog_limit ≡ 0) ⊎ (octets ≤ limits.backlog_high)

-- nothing is to be shed of this ledger
abbrev pub IsWithin : Limits → State → Type 0
IsWithin limits state = AreWithin limits (owed_bytes state)

-- ys is the shortest prefix of xs that passes, or all of xs if none does
pub record IsShortestPrefix {A : Type 0} (Passes : List A → Type 0) (xs ys : List A) : Type 0 where
  pub prefix : ys ≡ take (length ys) xs
  pub passes : Passes ys ⊎ (ys ≡ xs)
  pub shortest : (fewer : ℕ) → fewer < length ys → Passes (take fewer xs) → ⊥

-- The numbers to shed, given how many octets are owed, and how many without the debts of some numbers. Within the
-- limit there are none. Otherwise it is, of the debts that no connection holds, oldest first, the shortest prefix
-- without which the octets owed are at or below the limit.
abbrev pub IsShedOf : Limits → ℕ → (List ℕ → ℕ) → Places → List ℕ → Type 0
IsShedOf limits octets octets_without places numbers =
    (AreWithin limits octets × (numbers ≡ []))
    ⊎ ((AreWithin limits octets → ⊥)
    × IsShortestPrefix (λ prefix. octets_without prefix ≤ limits.backlog_limit) (unheld places) numbers)

-- the numbers to shed of this ledger
abbrev pub IsShedSet : Limits → State → Places → List ℕ → Type 0
IsShedSet limits state places numbers = IsShedOf limits (owed_bytes state) (owed_without state) places numbers

-- the octets of these debts without those of these numbers
abbrev pub sized_without : List Size → List ℕ → ℕ
sized_without sizes numbers = octets_sized (filter (λ (size : Size). if list_any
    (λ (number : ℕ). number == size.0) numbers then false else true) sizes)

-- the numbers to shed of a ledger of this shape
abbrev pub IsShedByShape : Limits → Shape → Places → List ℕ → Type 0
IsShedByShape limits shape places numbers =
    IsShedOf limits (octets_sized shape.sizes) (sized_without shape.sizes) places numbers

-- the notes that drop these
abbrev pub dropped : List ℕ → List Note
dropped numbers = drops Limit numbers
