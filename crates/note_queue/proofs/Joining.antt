-- What two ends of a queue make once they are joined.
use Rattle.std.proofs.Common.{◌≡◌, List, ◌++◌, sym, ap, ◌∙◌, append_assoc}
use Rattle.ledger_core.specs.State.{State, after}
use Rattle.ledger_core.specs.StateLaws.{after-append}
use Rattle.ledger_core.specs.declared.note.Note.{Note}

-- the ledger of the tape with the notes that were sent, and then those that were not, is that of all notes
pub folded-ledger : (tape on : State) (sent kept queued unsent : List Note)
    → after tape (kept ++ queued) ≡ after on sent
    → after tape (kept ++ (queued ++ unsent)) ≡ after on (sent ++ unsent)
folded-ledger tape on sent kept queued unsent folds =
    ap (λ (l : List Note). after tape l) (sym (append_assoc kept queued unsent))
    ∙ after-append tape (kept ++ queued) unsent
    ∙ ap (λ (s : State). after s unsent) folds
    ∙ sym (after-append on sent unsent)
