use Rattle.std.proofs.Common.{◌≡◌, ◌+◌, ◌<◌, ℕ, false, ◌∷◌, take, get_or, length, ap, sym, ◌∙◌, subst, arith}
use Rattle.disk_model.specs.declared.disk_event.DiskEvent.{DiskEvent}
use Rattle.disk_model.specs.Choice.{chosen_image, pending}
use Rattle.disk_model.specs.Memory.{event_of, logged, is_settling}
use Rattle.disk_model.proofs.Kept.{logged_more, pending_more}
use Rattle.disk_model.proofs.memory.leave_each.Goals as goal

pub loop-number-preserved : goal.loop-number-preserved
loop-number-preserved c = λ log none same.
    let ms = c.args.waiting.now in
    let i = c.loop-number.number in
    let m = c.index-waiting-number.result in
    let choice = c.args.choice in
    let now = logged log (take i ms) in
    let inside : i < length ms = omega arith in
    let is : m ≡ get_or ms i m = c.index-waiting-number.is in
    let more : logged log (take (i + 1) ms) ≡ event_of m ∷ now = logged_more log ms i m inside is in
    let so_far = c.loop-number.invariant log none same in
    let operation : is_settling m ≡ false = subst (λ (x : DiskEvent). is_settling x ≡ false) (sym is) (c.requires i m inside) in (
      ap (λ (n : ℕ). n + 1) so_far.0 ∙ sym (pending_more now m operation) ∙ ap pending (sym more),
      c.in_ok-leave.ensures now so_far.0 so_far.1 ∙ ap (chosen_image choice) (sym more),
    )
