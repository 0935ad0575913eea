use Rattle.std.proofs.Common.{arith}
use Rattle.crossbeam_queue.specs.Passes.{view}
use Rattle.note_queue.specs.SenderLaws.{noted-answered}
use Rattle.note_queue.proofs.sender.Sender.settled.Goals as goal

pub invariant_of-self : goal.invariant_of-self
invariant_of-self c =
    let old = c.args.self.now in
    let settled = c.settled.ensures in
    record {
      role = old.role;
      noted = noted-answered (view old.pass) old.front c.settled.new.self c.settled.result _ settled.learns
          (λ yes. omega (arith, (settled.answer.0 yes).1)) settled.unchanged old.noted;
    }
