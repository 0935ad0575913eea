use Rattle.std.proofs.Common.{◌≡◌, ◌+◌, List, sym, subst, arith}
use Rattle.std.proofs.lemmas.Grind.{common_steps}
use Rattle.disk_model.specs.Asks.{Moved_some, Moved_none, Failed_then, Moved_nothing, Too_many}
use Rattle.disk_model.specs.Disk.{Event}
use Rattle.disk_model.specs.RawFile.{UnderWay}
use Rattle.disk_model.specs.declared.DiskFault.{DiskFault}
use Rattle.disk_model.proofs.Pieces.{given_up, goes_no_further, stopped}
use Rattle.disk_model.proofs.file.write_whole.Goals.{in-Ok-2, in-Err-Interrupted}
use Rattle.disk_model.proofs.file.write_whole.Goals as goal

pub returns-in-Ok-eq0-clause-log : goal.returns-in-Ok-eq0-clause-log
returns-in-Ok-eq0-clause-log g c = λ is.
    let failed : DiskFault = record {} in
    let before = g.F.RawFile.log c.args.file.now in
    let so_far = c.loop-call.invariant in
    stopped c.args.at c.args.from.now (c.loop-call.done + c.in-Ok.count) before (g.F.RawFile.log c.pwrite.new.self)
    failed c.in-Ok.ensures.within (c.in-Ok.ensures.log (so_far.honest.0 is) before (so_far.log is))

pub returns-in-Err-Failed-clause-log : goal.returns-in-Err-Failed-clause-log
returns-in-Err-Failed-clause-log g c = λ is.
    let failed : DiskFault = record {} in
    let before = g.F.RawFile.log c.args.file.now in
    let so_far = c.loop-call.invariant in
    let goes_on = c.in-Err-Failed.ensures.log (so_far.honest.0 is) before (so_far.log is) in
    let stops = rw c.in-Err-Failed.field-0-is at goes_on in
    stops failed

pub returns-clause-log : goal.returns-clause-log
returns-clause-log g c = λ is.
    let failed : DiskFault = record {} in
    given_up c.args.at c.args.from.now c.loop-call.done (g.F.RawFile.log c.args.file.now)
    (g.F.RawFile.log c.loop-call.file) failed c.loop-call.invariant.within (c.loop-call.invariant.log is)

pub loop-call-preserved : goal.loop-call-preserved
loop-call-preserved g c =
    let before = c.loop-call.invariant in
    let begun = g.F.RawFile.log c.args.file.now in
    elim c.match-pwrite.branch [
      | in-Ok-2 w ↦ record {
        within = omega (arith, w.done-is, w.in-Ok.ensures.within);
        honest = (
          λ is. w.in-Ok.ensures.honest.0 (before.honest.0 is),
          λ is. before.honest.1 (w.in-Ok.ensures.honest.1 is),
        );
        log = λ is.
            let goes_on = w.in-Ok.ensures.log (before.honest.0 is) begun (before.log is) in
            rw w.done-is (goes_on.part (omega (arith, w.in-Ok.ensures.within, w.if-done-count.false)));
        went = rw w.done-is
            (Moved_some c.loop-call._call c.loop-call.done w.in-Ok.count c.loop-call.file c.pwrite.new.self
            before.went (omega (arith, w.in-Ok-2.count-test.1)) w.in-Ok.ensures.writes);
      }
      | in-Err-Interrupted w ↦ record {
        within = omega (arith, w.done-is, before.within);
        honest = (
          λ is. w.in-Err-Interrupted.ensures.honest.0 (before.honest.0 is),
          λ is. before.honest.1 (w.in-Err-Interrupted.ensures.honest.1 is),
        );
        log = λ is.
            let told = w.in-Err-Interrupted.ensures.log (before.honest.0 is) begun (before.log is) in
            let same = rw w.in-Err-Interrupted.field-0-is at told in
            rw w.done-is
            (subst (λ (log : List Event). UnderWay c.args.at c.args.from.now c.loop-call.done begun log)
            (sym same) (before.log is));
        went = rw w.done-is (Moved_none c.loop-call._call c.loop-call.done c.loop-call.file c.pwrite.new.self
            before.went (rw w.in-Err-Interrupted.field-0-is at w.in-Err-Interrupted.ensures.writes));
      }
    ]

pub returns-clause-asks : goal.returns-clause-asks
returns-clause-asks g c =
    let all = c.saturating_add-turns.ensures in
    goes_no_further c.loop-call.invariant.went
    (Too_many _ _ _ (grind (arith, common_steps, c.loop-call.auto._call-end, c.loop-call-test.false, all)))

pub returns-in-Ok-eq0-clause-asks : goal.returns-in-Ok-eq0-clause-asks
returns-in-Ok-eq0-clause-asks g c =
    let none : c.in-Ok.count ≡ 0 = omega (arith, c.in-Ok-eq0.field-0-test, c.in-Ok-eq0.field-0-is) in
    goes_no_further c.loop-call.invariant.went (Moved_nothing _ _ _ _ (rw none at c.in-Ok.ensures.writes))

pub returns-in-Err-Failed-clause-asks : goal.returns-in-Err-Failed-clause-asks
returns-in-Err-Failed-clause-asks g c =
    goes_no_further c.loop-call.invariant.went
    (Failed_then _ _ _ _ (rw c.in-Err-Failed.field-0-is at c.in-Err-Failed.ensures.writes))
