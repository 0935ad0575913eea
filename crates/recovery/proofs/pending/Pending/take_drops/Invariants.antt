use Rattle.std.proofs.Common.{◌≡◌, ◌+◌, ◌≤◌, ◌++◌, ℕ, List, length, take}
use Rattle.ledger_core.specs.declared.ledger.Ledger.{Ledger}
use Rattle.ledger_core.specs.declared.note.Note.{Note}
use Rattle.ledger_core.specs.Index.{Indexes}
use Rattle.ledger_core.specs.Note.{AreNotes}
use Rattle.recovery.specs.Notes.{drops}
use Rattle.recovery.specs.Pending.{EndsAt, Holds, payloads_in}
use Rattle.recovery.proofs.pending.Pending.take_drops.Given as goal

abbrev pub invariant-loop-key : goal.invariant-loop-key
invariant-loop-key l = record {
  holds : (notes : List Note) → Holds l.fn.self notes → Holds l.self (notes ++ drops l.cause (take l.key-index l.keys));
  ends : (kept : List (List ℕ)) (notes : List Note) → Holds l.fn.self notes
      → EndsAt kept (payloads_in l.fn.self) l.fn.last l.fn.next → EndsAt kept (payloads_in l.self) l.last l.next;
  indexes : (kept : ℕ) (prefix : List (List ℕ)) (ledger : Ledger) (notes : List Note) → Holds l.fn.self notes
      → Indexes kept (prefix ++ payloads_in l.fn.self) ledger → Indexes kept (prefix ++ payloads_in l.self) ledger;
  notes : AreNotes (drops l.cause (take l.key-index l.keys));
  count : l.self.count ≡ l.fn.self.count + l.key-index;
  more : length l.fn.self.payloads.items ≤ length l.self.payloads.items;
  len : length l.self.payloads.items ≤ length l.fn.self.payloads.items + l.key-index;
}
