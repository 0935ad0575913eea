use Rattle.crossbeam_queue.specs.Passes.{view}
use Rattle.note_queue.specs.SenderLaws.{noted-done}
use Rattle.note_queue.proofs.sender.Sender.finish.Goals as goal

pub invariant_of-self : goal.invariant_of-self
invariant_of-self c =
    let old = c.args.self.now in
    record {
      role = old.role;
      noted = noted-done (view old.pass) old.front c.finish.new.self
          c.finish.result _ _ _ c.finish.ensures.ok c.finish.ensures.unchanged old.noted;
    }
