use Rattle.crossbeam_queue.specs.Passes.{view}
use Rattle.note_queue.specs.SenderLaws.{noted-broken}
use Rattle.note_queue.proofs.sender.Sender.broke.Goals as goal

pub invariant_of-self : goal.invariant_of-self
invariant_of-self c =
    let old = c.args.self.now in
    record {
      role = old.role;
      noted = noted-broken (view old.pass) old.front c.broke.new.self c.broke.ensures.breaks old.noted;
    }
