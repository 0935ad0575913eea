use Rattle.crossbeam_queue.specs.Passes.{view}
use Rattle.note_queue.specs.SenderLaws.{noted-owed}
use Rattle.note_queue.proofs.sender.Sender.owe.Goals as goal

pub invariant_of-self : goal.invariant_of-self
invariant_of-self c =
    let old = c.args.self.now in
    record {
      role = old.role;
      noted = noted-owed (view old.pass) old.front c.owe.new.self
          c.owe.result _ c.owe.ensures.new c.owe.ensures.unchanged c.owe.ensures.refuses.unchanged old.noted;
    }
