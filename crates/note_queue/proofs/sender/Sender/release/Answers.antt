use Rattle.crossbeam_queue.specs.Passes.{view}
use Rattle.note_queue.specs.SenderLaws.{noted-places}
use Rattle.note_queue.proofs.sender.Sender.release.Goals as goal

pub invariant_of-self : goal.invariant_of-self
invariant_of-self c =
    let old = c.args.self.now in
    record {
      role = old.role;
      noted = noted-places (view old.pass) old.front c.release.new.self c.release.ensures.keeps old.noted;
    }
