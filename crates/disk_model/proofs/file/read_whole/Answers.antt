use Rattle.std.proofs.Common.{◌∙◌, ◌+◌, ◌≤◌, ℕ, List, length, refl, sym, subst, arith}
use Rattle.disk_model.specs.Disk.{Event, content}
use Rattle.disk_model.specs.RawFile.{IsRead}
use Rattle.std.proofs.lemmas.Grind.{common_steps}
use Rattle.disk_model.specs.Asks.{Moved_some, Moved_none, Failed_then, Moved_nothing, Too_many}
use Rattle.disk_model.proofs.Pieces.{goes_no_further}
use Rattle.disk_model.proofs.file.read_whole.Goals.{in-Ok, in-Err-Interrupted}
use Rattle.disk_model.proofs.file.read_whole.Goals as goal

pub loop-call-preserved : goal.loop-call-preserved
loop-call-preserved g c =
    let before = c.loop-call.invariant in
    let log_of = g.F.RawFile.log in
    elim c.match-pread.branch [
      | in-Ok w ↦ record {
        within = subst (λ (n : ℕ). n ≤ length c.pread.new.into) (sym w.done-is) w.in-Ok.ensures.within;
        honest = (
          λ is. w.in-Ok.ensures.honest.0 (before.honest.0 is),
          λ is. before.honest.1 (w.in-Ok.ensures.honest.1 is),
        );
        log = λ is. w.in-Ok.ensures.log (before.honest.0 is) ∙ before.log is;
        read = λ is.
            let here = subst (λ (log : List Event). IsRead (content log) c.args.at c.loop-call.done c.loop-call.into)
            (sym (before.log is)) (before.read is) in
            let more = w.in-Ok.ensures.read (before.honest.0 is) here in
            let now = subst (λ (log : List Event).
            IsRead (content log) c.args.at (c.loop-call.done + w.in-Ok.count) c.pread.new.into) (before.log is) more in
            subst (λ (n : ℕ). IsRead (content (log_of c.args.file.now)) c.args.at n c.pread.new.into)
            (sym w.done-is) now;
        went = rw w.done-is
            (Moved_some c.loop-call._call c.loop-call.done w.in-Ok.count (c.loop-call.file, c.loop-call.into)
            (c.pread.new.self, c.pread.new.into) before.went (omega (arith, w.in-Ok.count-is)) w.in-Ok.ensures.reads);
      }
      | in-Err-Interrupted w ↦ record {
        within = omega (arith, w.done-is, before.within, c.pread.auto.into);
        honest = (
          λ is. w.in-Err-Interrupted.ensures.honest.0 (before.honest.0 is),
          λ is. before.honest.1 (w.in-Err-Interrupted.ensures.honest.1 is),
        );
        log = λ is. w.in-Err-Interrupted.ensures.log (before.honest.0 is) ∙ before.log is;
        read = λ is.
            let here = subst (λ (log : List Event). IsRead (content log) c.args.at c.loop-call.done c.loop-call.into)
            (sym (before.log is)) (before.read is) in
            let still = w.in-Err-Interrupted.ensures.err (before.honest.0 is) here in
            let now = subst (λ (log : List Event). IsRead (content log) c.args.at c.loop-call.done c.pread.new.into)
            (before.log is) still in
            subst (λ (n : ℕ). IsRead (content (log_of c.args.file.now)) c.args.at n c.pread.new.into)
            (sym w.done-is) now;
        went = rw w.done-is (Moved_none c.loop-call._call c.loop-call.done (c.loop-call.file, c.loop-call.into)
            (c.pread.new.self, c.pread.new.into) before.went
            (rw w.in-Err-Interrupted.field-0-is at w.in-Err-Interrupted.ensures.reads));
      }
    ]

pub returns-then-done-into-clause-asks : goal.returns-then-done-into-clause-asks
returns-then-done-into-clause-asks g c = record {
  calls = c.loop-call._call;
  done = c.loop-call.done;
  between = (c.loop-call.file, c.loop-call.into);
  went = c.loop-call.invariant.went;
  last = (c.if-done-into.true ∙ c.loop-call.auto.into, refl);
}

pub returns-in-Ok-eq0-clause-asks : goal.returns-in-Ok-eq0-clause-asks
returns-in-Ok-eq0-clause-asks g c =
    goes_no_further c.loop-call.invariant.went
    (Moved_nothing _ _ _ _ (rw c.in-Ok-eq0.field-0-test at c.in-Ok-eq0.ensures.reads))

pub returns-in-Err-Failed-clause-asks : goal.returns-in-Err-Failed-clause-asks
returns-in-Err-Failed-clause-asks g c =
    goes_no_further c.loop-call.invariant.went
    (Failed_then _ _ _ _ (rw c.in-Err-Failed.field-0-is at c.in-Err-Failed.ensures.reads))

pub returns-clause-asks : goal.returns-clause-asks
returns-clause-asks g c =
    let all = c.saturating_add-turns.ensures in
    goes_no_further c.loop-call.invariant.went
    (Too_many _ _ _ (grind (arith, common_steps, c.loop-call.auto._call-end, c.loop-call-test.false, all)))
