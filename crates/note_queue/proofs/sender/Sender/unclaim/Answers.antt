use Rattle.crossbeam_queue.specs.Passes.{view}
use Rattle.note_queue.specs.SenderLaws.{noted-moved}
use Rattle.note_queue.proofs.sender.Sender.unclaim.Goals as goal

pub invariant_of-self : goal.invariant_of-self
invariant_of-self c =
    let old = c.args.self.now in
    record {
      role = old.role;
      noted = noted-moved (view old.pass) old.front c.unclaim.new.self
          c.unclaim.result (λ p. p.0) c.unclaim.ensures.ok c.unclaim.ensures.unchanged old.noted;
    }
