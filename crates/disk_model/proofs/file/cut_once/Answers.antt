use Rattle.std.proofs.Common.{◌∙◌, List, Err, refl, subst}
use Rattle.disk_model.specs.Asks.{None_yet, Once_more}
use Rattle.disk_model.specs.Disk.{Event, Cuts}
use Rattle.disk_model.specs.declared.DiskFault.{DiskFault}
use Rattle.disk_model.proofs.file.cut_once.Goals as goal

pub loop-try-init : goal.loop-try-init
loop-try-init g c = record { honest = (λ x. x, λ x. x); log = λ _. refl; interrupted = None_yet }

pub loop-try-preserved : goal.loop-try-preserved
loop-try-preserved g c =
    let before = c.loop-try.invariant in
    let log = λ (is : g.F.RawFile.honest c.args.file.now).
    c.in-Err-Interrupted.ensures.log (before.honest.0 is) in
    record {
      honest = (
        λ is. c.in-Err-Interrupted.ensures.honest.0 (before.honest.0 is),
        λ is. before.honest.1 (c.in-Err-Interrupted.ensures.honest.1 is),
      );
      log = λ is. (rw c.in-Err-Interrupted.field-0-is at (log is)) ∙ before.log is;
      interrupted = Once_more c.loop-try._try c.loop-try.file c.truncate.new.self before.interrupted
          (rw c.in-Err-Interrupted.field-0-is at c.in-Err-Interrupted.ensures.truncates);
    }

pub returns-in-Err-Failed-clause-log : goal.returns-in-Err-Failed-clause-log
returns-in-Err-Failed-clause-log g c = λ is.
    let failed : DiskFault = record {} in
    let now = g.F.RawFile.log c.truncate.new.self in
    let stops = rw c.in-Err-Failed.field-0-is at (c.in-Err-Failed.ensures.log (c.loop-try.invariant.honest.0 is)) in
    subst (λ (log : List Event). Cuts c.args.len log (Err failed) now) (c.loop-try.invariant.log is) (stops failed)
