use Rattle.std.proofs.Common.{◌∙◌, refl}
use Rattle.disk_model.specs.Asks.{None_yet, Once_more}
use Rattle.disk_model.proofs.file.sync_once.Goals as goal

pub loop-try-init : goal.loop-try-init
loop-try-init g c = record { honest = (λ x. x, λ x. x); log = λ _. refl; interrupted = None_yet }

pub loop-try-preserved : goal.loop-try-preserved
loop-try-preserved g c =
    let before = c.loop-try.invariant in
    record {
      honest = (
        λ is. c.in-Err-Interrupted.ensures.honest.0 (before.honest.0 is),
        λ is. before.honest.1 (c.in-Err-Interrupted.ensures.honest.1 is),
      );
      log = λ is. c.in-Err-Interrupted.ensures.log (before.honest.0 is) ∙ before.log is;
      interrupted = Once_more c.loop-try._try c.loop-try.file c.sync.new.self before.interrupted
          (rw c.in-Err-Interrupted.field-0-is at c.in-Err-Interrupted.ensures.syncs);
    }
