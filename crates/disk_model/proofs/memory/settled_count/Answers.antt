use Rattle.std.proofs.Common.{◌≡◌, ◌+◌, ◌<◌, ℕ, false, [], take, get_or, length, sym, subst, arith}
use Rattle.std.proofs.lemmas.List.Elements.{AllWithin-more, at_read}
use Rattle.disk_model.specs.declared.disk_event.DiskEvent.{DiskEvent}
use Rattle.disk_model.specs.Memory.{log_of, is_settling, IsSettled}
use Rattle.disk_model.proofs.Kept.{logged_more, settled_by}
use Rattle.disk_model.proofs.memory.settled_count.Goals as goal
use Rattle.disk_model.proofs.memory.settled_count.Goals.{then-is_settling, else-is_settling}

pub loop-i-preserved : goal.loop-i-preserved
loop-i-preserved c =
    let ms = c.args.history.now in
    let i = c.loop-i.i in
    let m = c.index-history-i.result in
    let inside : i < length ms = omega arith in
    let is : m ≡ get_or ms i m = c.index-history-i.is in
    let waits = λ (event : DiskEvent). is_settling event ≡ false in
    elim c.if-is_settling.branch [
      | then-is_settling w ↦
          let settled : IsSettled (log_of (take (i + 1) ms)) =
          subst IsSettled (sym (logged_more [] ms i m inside is)) (settled_by (log_of (take i ms)) m (sym w.if-is_settling.ensures)) in
          record {
            within = omega arith;
            settled = subst (λ (n : ℕ). IsSettled (log_of (take n ms))) (sym w.count-is) settled;
            rest = λ k d low high. absurd (omega arith);
          }
      | else-is_settling w ↦
          record {
            within = omega arith;
            settled = subst (λ (n : ℕ). IsSettled (log_of (take n ms))) (sym w.count-is) c.loop-i.invariant.settled;
            rest = λ k d low high. AllWithin-more waits ms c.loop-i.count i c.loop-i.invariant.rest (at_read ms waits i m inside is (sym w.if-is_settling.ensures)) k d (omega arith) high;
          }
    ]
