use Rattle.std.proofs.Common.{◌≡◌, ◌++◌, ◌∷◌, [], sym, subst}
use Rattle.ledger_core.specs.State.{after}
use Rattle.recovery.specs.DiskLaws.{honest-along}
use Rattle.recovery.specs.Words.{ledger_of}
use Rattle.note_queue.specs.Owns.{IsOwner, put_on}
use Rattle.note_queue.proofs.Owning.{but_last, owner_takes, owner_stays, stepped}
use Rattle.note_queue.proofs.Refusing.{refused_for}
use Rattle.note_queue.proofs.side.put.Goals as goal

pub returns-in-Ok-clause-ledger : goal.returns-in-Ok-clause-ledger
returns-in-Ok-clause-ledger g c base notes is =
    subst (λ k. ledger_of c.note.new.self ≡ after base (put_on (notes ++ c.args.note ∷ []) k)) (sym c.requires.none)
    (stepped base (ledger_of c.args.tape.now) (ledger_of c.note.new.self) notes c.args.note c.in-Ok.ensures.ledger.1 is)

pub returns-in-Ok-clause-owner : goal.returns-in-Ok-clause-owner
returns-in-Ok-clause-owner g c base since notes is =
    subst (λ k. ∥ IsOwner c.note.new.self base since (put_on (notes ++ c.args.note ∷ []) k) ∥₁) (sym c.requires.none)
    (owner_takes c.args.tape.now c.note.new.self base since notes c.args.note c.in-Ok.ensures.disks
    (λ h s. (c.in-Ok.ensures.takes h s).ok) is)

pub returns-in-Err-clause-owner : goal.returns-in-Err-clause-owner
returns-in-Err-clause-owner g c base since notes is =
    subst (λ l. ∥ IsOwner c.note.new.self base since l ∥₁) (sym (but_last notes c.args.note))
    (owner_stays c.args.tape.now c.note.new.self base since notes
    (honest-along c.note.new.self c.args.tape.now c.in-Err.ensures.disks)
    (λ h s. (c.in-Err.ensures.takes h s).stays) is)

pub returns-in-Err-clause-refused : goal.returns-in-Err-clause-refused
returns-in-Err-clause-refused g c =
    refused_for c.args.tape.now c.note.new.self c.args.note _ _ c.in-Err.ensures.refuses c.in-Err.ensures.works
