-- The number was noted before, or is noted now.
use Rattle.std.proofs.Common.{refl, arith}
use Rattle.world_core.proofs.IntakeSees.{did_see, did_see_old, failed_see}
use Rattle.world_core.proofs.stations.Stations.see.Goals as goal

pub returns-then-number-mark-clause-ok : goal.returns-then-number-mark-clause-ok
returns-then-number-mark-clause-ok g c =
    λ past stands sealable. did_see_old c.args.self.now past c.args.number stands (omega (arith, c.mark.ensures))

pub returns-in-Err-clause-err : goal.returns-in-Err-clause-err
returns-in-Err-clause-err g c = λ past stands.
    let is = c.in-Err.ensures in
    failed_see c.args.self.now _ past c.args.number c.note.new.self stands
    (record { peers = refl; intake = refl; last = refl; begun = refl }) (omega (arith, c.mark.ensures))
    c.in-Err.fault c.from_tape.result c.from_tape.ensures is.refuses.broken (λ f e. ((is.refuses.note f).0 e).1)
    (λ e. (is.refuses.pending_full.0 e).2)
    (λ e. (is.refuses.no_memory e).2) is.refuses.kinds ((is.takes past.intake.history stands.intake.stands).stays)
    is.disks is.works

pub returns-clause-ok : goal.returns-clause-ok
returns-clause-ok g c = λ past stands sealable.
    let is = c.in_default.ensures in
    did_see c.args.self.now _ past c.args.number c.note.new.self stands
    (record { peers = refl; intake = refl; last = refl; begun = refl }) (omega (arith, c.mark.ensures)) sealable
    (λ b. is.refuses.broken.1 b) (λ full. is.refuses.pending_full.1 ((λ b. is.refuses.broken.1 b), is.ledger.0, full))
    ((is.takes past.intake.history stands.intake.stands).ok) is.disks is.works
