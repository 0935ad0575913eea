use Rattle.crossbeam_queue.specs.Passes.{view}
use Rattle.note_queue.specs.SenderLaws.{noted-moved}
use Rattle.note_queue.proofs.sender.Sender.put_off.Goals as goal

pub invariant_of-self : goal.invariant_of-self
invariant_of-self c =
    let old = c.args.self.now in
    record {
      role = old.role;
      noted = noted-moved (view old.pass) old.front c.put_off.new.self
          c.put_off.result (λ p. p.0) c.put_off.ensures.ok c.put_off.ensures.unchanged old.noted;
    }
