use Rattle.crossbeam_queue.specs.Passes.{view}
use Rattle.note_queue.specs.SenderLaws.{noted-places}
use Rattle.note_queue.proofs.sender.Sender.claim_key.Goals as goal

pub invariant_of-self : goal.invariant_of-self
invariant_of-self c =
    let old = c.args.self.now in
    record {
      role = old.role;
      noted = noted-places (view old.pass) old.front c.claim_key.new.self c.claim_key.ensures.keeps old.noted;
    }
