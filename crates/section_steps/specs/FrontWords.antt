-- What a front's lock keeps, and which notes its calls make.
use Rattle.std.specs.Prelude.{ℕ, List, [], ◌∷◌, Result, Ok, Err, if◌then◌else◌, nat_lt}
use Rattle.ledger_core.specs.declared.note.Note.{Note}
use Rattle.ledger_core.specs.declared.note.Note.TheVariants.{Drop, Final}
use Rattle.peer_queue.specs.Front.{sent_of, settled_of, unsent_of}
use Rattle.peer_queue.specs.Shed.{dropped}
use Rattle.peer_queue.specs.declared.front.Front.{Front}
use Rattle.peer_queue.specs.declared.limits.Shed.{Shed}
use Rattle.peer_queue.specs.declared.settled.Settled.{Settled}
use Rattle.peer_queue.specs.declared.settled.Settled.TheVariants.{Answered, Dropped, Later, Ready}
use Rattle.section_steps.specs.Stands.{FrontSeen}

-- a front whose pass has sent these notes
abbrev pub seen_with : List Note → Front → FrontSeen
seen_with sent front =
    record {
      sent = sent;
      unsent = unsent_of front;
      settled = settled_of front;
      pending = sent_of front;
      broken = front.outbox.broken;
    }

-- the notes that a front of this mark makes of a line of this number, if it answers this
abbrev pub taken_notes : {A E : Type 0} → (mark number : ℕ) → Note → Result A E → List Note
taken_notes mark number note (Ok answer) = if nat_lt mark number then note ∷ [] else []
taken_notes mark number note (Err fault) = []

-- the note by which a debt ends that became this
abbrev pub end_notes : ℕ → Settled → List Note
end_notes key (Answered code) = Final key code ∷ []
end_notes key (Dropped cause) = Drop key cause ∷ []
end_notes key (Later moment) = []
end_notes key Ready = []

-- the notes that a front makes of an outcome, if it answers this
abbrev pub ended_notes : {E : Type 0} → ℕ → Result Settled E → List Note
ended_notes key (Ok settled) = end_notes key settled
ended_notes key (Err fault) = []

-- the notes by which debts are shed
abbrev pub shed_notes : {E : Type 0} → Result Shed E → List Note
shed_notes (Ok shed) = dropped shed.keys.items
shed_notes (Err fault) = []
