use Rattle.flusher.proofs.Looking.{added_there}
use Rattle.flusher.proofs.post.Post.flush_next.Goals as goal

pub returns-clause-done : goal.returns-clause-done
returns-clause-done g c =
    added_there c.args.sealing.now.places.items c.due.new.sealing.places.items c.add.new.self.places.items c.args.peer
    c.in_ok-settlement.settlement.place c.in_ok-due.due c.in_ok-due.ensures.due c.in_ok-settlement.ensures.settled.0
    c.add.ensures.done
