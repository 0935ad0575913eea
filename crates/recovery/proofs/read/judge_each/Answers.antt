use Rattle.std.proofs.Common.{[], ◌≡◌, ◌∷◌, ◌++◌, ◌∙◌, List, ap, sym, subst, arith}
use Rattle.std.specs.Prelude.{Option, Result, Ok, Err, None, Some}
use Rattle.disk_model.specs.Disk.{Event, content}
use Rattle.tape_journal.specs.Records.{KeepsDisk, ReadsNext}
use Rattle.tape_journal.specs.Segment.{IsDamagedAt}
use Rattle.tape_journal.specs.declared.fault.OpenFault.{OpenFault}
use Rattle.tape_journal.specs.declared.fault.OpenFault.TheVariants.{Damaged}
use Rattle.tape_journal.specs.declared.records.ReadPayload.{ReadPayload}
use Rattle.ledger_core.specs.declared.restoring.Restoring.{Restoring}
use Rattle.recovery.proofs.Judging.{fault_kept, same_kept, same_start, same_then}
use Rattle.recovery.proofs.read.judge_each.Goals as goal

pub loop-restoring-init : goal.loop-restoring-init
loop-restoring-init g c = record {
  come = λ begun. ([], begun, c.new-restoring.ensures);
  same = same_start c.args.reader.now;
}

pub loop-restoring-preserved : goal.loop-restoring-preserved
loop-restoring-preserved g c =
    let rested = c.next.follows.lender-at-none in
    let is : c.next.result ≡ Ok (Some c.in-Some.given) = c.in_ok-given.was ∙ ap Ok c.in-Some.is in
    let reads = subst (λ (r : Result (Option ReadPayload) OpenFault). ReadsNext c.loop-restoring.reader rested r) is
    c.next.follows.holds-at-none in
    record {
      come = λ begun.
          let so_far = c.loop-restoring.invariant.come begun in
          let gives = reads.next so_far.0 so_far.1 in (
            so_far.0 ++ gives.payload ∷ [],
            gives.come,
            c.judge-judged.ensures so_far.0 gives.payload so_far.2 gives.is,
          );
      same = same_then c.args.reader.now c.loop-restoring.reader rested (Some c.in-Some.given)
          c.loop-restoring.invariant.same reads.keeps;
    }

pub returns-in_err-given-clause-damaged : goal.returns-in_err-given-clause-damaged
returns-in_err-given-clause-damaged g c = λ begun at told.
    let so_far = c.loop-restoring.invariant.come begun in
    let failed : c.from_residual.result ≡ Err c.in_err-given.field-0.0 = grind arith in
    let damaged : c.in_err-given.field-0.0 ≡ Damaged at = cc (failed, told) in
    subst (λ (log : List Event). IsDamagedAt (content log) at) (c.loop-restoring.invariant.same.log begun.honest)
    (c.in_err-given.ensures.damaged so_far.0 so_far.1 at (ap Err damaged))

pub returns-in_err-given-clause-keeps : goal.returns-in_err-given-clause-keeps
returns-in_err-given-clause-keeps g c =
    let rested = c.next.follows.lender-at-none in
    let reads = subst (λ (r : Result (Option ReadPayload) OpenFault). ReadsNext c.loop-restoring.reader rested r)
    c.in_err-given.was c.next.follows.holds-at-none in
    let failed : c.from_residual.result ≡ Err c.in_err-given.field-0.0 = grind arith in
    subst (λ (r : Result (Option Restoring) OpenFault). KeepsDisk c.args.reader.now rested r) (sym failed)
    (fault_kept c.args.reader.now c.loop-restoring.reader rested c.in_err-given.field-0.0
    c.loop-restoring.invariant.same reads.keeps)

pub returns-in-Ok-clause-ok : goal.returns-in-Ok-clause-ok
returns-in-Ok-clause-ok g c = λ begun.
    let rested = c.next.follows.lender-at-none in
    let is : c.next.result ≡ Ok None = c.in_ok-given.was ∙ ap Ok c.in_default.is in
    let reads = subst (λ (r : Result (Option ReadPayload) OpenFault). ReadsNext c.loop-restoring.reader rested r) is
    c.next.follows.holds-at-none in
    let so_far = c.loop-restoring.invariant.come begun in
    record {
      payloads = so_far.0;
      ended = reads.next so_far.0 so_far.1;
      taken = rw c.in-Ok.is at so_far.2;
    }

pub returns-in-Ok-clause-keeps : goal.returns-in-Ok-clause-keeps
returns-in-Ok-clause-keeps g c =
    let rested = c.next.follows.lender-at-none in
    let is : c.next.result ≡ Ok None = c.in_ok-given.was ∙ ap Ok c.in_default.is in
    let reads = subst (λ (r : Result (Option ReadPayload) OpenFault). ReadsNext c.loop-restoring.reader rested r) is
    c.next.follows.holds-at-none in
    same_kept c.args.reader.now rested _
    (same_then c.args.reader.now c.loop-restoring.reader rested None c.loop-restoring.invariant.same reads.keeps)

pub returns-in-Err-clause-keeps : goal.returns-in-Err-clause-keeps
returns-in-Err-clause-keeps g c =
    let rested = c.next.follows.lender-at-none in
    let is : c.next.result ≡ Ok None = c.in_ok-given.was ∙ ap Ok c.in_default.is in
    let reads = subst (λ (r : Result (Option ReadPayload) OpenFault). ReadsNext c.loop-restoring.reader rested r) is
    c.next.follows.holds-at-none in
    same_kept c.args.reader.now rested _
    (same_then c.args.reader.now c.loop-restoring.reader rested None c.loop-restoring.invariant.same reads.keeps)
