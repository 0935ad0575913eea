-- The intake's tape is opened after those of all peers, or one tape was refused.
use Rattle.std.proofs.Common.{[], refl, ◌∙◌}
use Rattle.world_core.proofs.OpeningsEnd.{closes, intake_there, opens_intake, refuses_intake, tries_none, tries_some}
use Rattle.world_core.proofs.restart.Opening.end.Goals as goal

pub returns-in-Some-clause-err : goal.returns-in-Some-clause-err
returns-in-Some-clause-err c = λ past tries stands.
    let me = c.args.self in
    closes past c.in-Some.halt me.stopped.items c.args.intake
    (tries_some past me.opened.items me.stopped.items [] me.refused c.in-Some.halt c.in-Some.is tries) stands

pub returns-in-Ok-clause-ok : goal.returns-in-Ok-clause-ok
returns-in-Ok-clause-ok c = λ past tries stands.
    let me = c.args.self in
    let is = c.in-Ok.ensures in
    opens_intake past me.opened.items _ _
    (tries_none past me.opened.items me.stopped.items [] me.refused c.in_default.not-Some tries) stands.legal
    stands.log
    ((is.recovers past.intake.history tt tt (intake_there past c.args.intake stands)).recovers) ((is.opens tt tt).ok)
    is.fresh.works (is.quiet ∙ stands.faults)
    refl c.mark-last.ensures refl c.mark-last.type_inv

pub returns-in-Err-clause-err : goal.returns-in-Err-clause-err
returns-in-Err-clause-err c = λ past tries stands.
    let me = c.args.self in
    let is = c.in-Err.ensures in
    let there = intake_there past c.args.intake stands in
    refuses_intake past me.opened.items _ _ c.halt_each.result.items (c.in-Err.refused.a, c.in-Err.refused.b)
    c.in-Err.refused.fault c.from_tape-fault.result
    (tries_none past me.opened.items me.stopped.items [] me.refused c.in_default.not-Some tries) stands.legal
    stands.log stands.faults c.halt_each.ensures.stops
    ((is.recovers past.intake.history tt tt there).survives) c.from_tape-fault.ensures is.kinds
    ((is.recovers past.intake.history tt tt there).undamaged) ((is.causes tt tt).cause)
