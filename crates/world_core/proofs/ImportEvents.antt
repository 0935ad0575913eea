-- The events of an import.
use Rattle.std.proofs.Common.{ℕ, Bool, true, false, List, [], ◌∷◌, ◌++◌}
use Rattle.std.specs.Prelude.{◌==◌, if◌then◌else◌, nat_lt}
use Rattle.std.specs.List.{AllByRecursion}
use Rattle.recovery.specs.Notes.{most_pending}
use Rattle.sections.specs.ListLaws.{both_all}
use Rattle.world_core.specs.Events.{Closes, Event, Imports, Spills}
use Rattle.world_core.specs.Imports.{Good, import_events, good_events, mark_behind, pending_behind}
use Rattle.world_core.specs.Imports.{room_events}

-- what holds of each kind of them holds of all
module _ (P : Event → Type 0) (rank : ℕ) (spills : P (Spills rank)) (closes : P (Closes rank))
    (imports : (number : ℕ) (token id : List ℕ) → P (Imports rank number token id)) where
  room_step : (b : Bool) → AllByRecursion P (if b then Spills rank ∷ [] else [])
  room_step true = (spills, tt)
  room_step false = tt

  pub all_room : (pending : ℕ) → AllByRecursion P (room_events rank pending)
  all_room pending = room_step (pending == most_pending)

  line_step : (b : Bool) (pending : ℕ) (event : Event) → P event
      → AllByRecursion P ((if b then room_events rank pending else []) ++ event ∷ [])
  line_step true pending event one = both_all P (room_events rank pending) (event ∷ []) (all_room pending) (one, tt)
  line_step false pending event one = (one, tt)

  pub all_import : (pending mark : ℕ) (lines : List Good) → AllByRecursion P (import_events rank pending mark lines)
  all_import pending mark [] =
      both_all P (room_events rank pending) (Closes rank ∷ Spills rank ∷ []) (all_room pending) (closes, (spills, tt))
  all_import pending mark (line ∷ lines) =
      both_all P (good_events rank pending mark line)
      (import_events rank (pending_behind pending mark line) (mark_behind mark line) lines)
      (line_step (nat_lt mark line.0) pending (Imports rank line.0 line.1.0 line.1.1)
      (imports line.0 line.1.0 line.1.1))
      (all_import (pending_behind pending mark line) (mark_behind mark line) lines)
