use Rattle.crossbeam_queue.specs.Passes.{view}
use Rattle.note_queue.specs.SenderLaws.{noted-shed}
use Rattle.note_queue.proofs.sender.Sender.shed.Goals as goal

pub invariant_of-self : goal.invariant_of-self
invariant_of-self c =
    let old = c.args.self.now in
    record {
      role = old.role;
      noted = noted-shed (view old.pass) old.front c.shed.new.self
          c.shed.result c.shed.ensures.ok c.shed.ensures.unchanged old.noted;
    }
