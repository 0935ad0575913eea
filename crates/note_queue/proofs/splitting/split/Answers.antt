use Rattle.std.proofs.Common.{sym, ◌∙◌}
use Rattle.note_queue.proofs.Beginning.{kept-placed}
use Rattle.note_queue.proofs.splitting.split.Goals as goal

pub new-side-requires-clause-kept : goal.new-side-requires-clause-kept
new-side-requires-clause-kept g c =
    kept-placed c.args.place c.args.station.tape _ c.in_ok-front.ensures.tape c.requires.kept

pub returns-clause-since : goal.returns-clause-since
returns-clause-since g c =
    let parts = c.in_ok-front.ensures in
    c.new-side.ensures.since ∙ (parts.tape.same.flushed ∙ sym parts.front.settled)
