use Rattle.std.proofs.Common.{◌≡◌, ◌+◌, ◌<◌, ◌++◌, ℕ, false, List, [], take, drop, get_or, length, ap, sym, ◌∙◌, subst, arith}
use Rattle.std.proofs.lemmas.List.{get_or-drop, length-drop, take-append-drop}
use Rattle.disk_model.specs.declared.disk_event.DiskEvent.{DiskEvent}
use Rattle.disk_model.specs.Choice.{chosen_image}
use Rattle.disk_model.specs.Memory.{logged, log_of, is_settling, IsSettled}
use Rattle.disk_model.proofs.Kept.{logged_append}
use Rattle.disk_model.proofs.memory.image_after.Goals as goal

pub leave_each-requires : goal.leave_each-requires
leave_each-requires c =
    let ms = c.args.history.now in
    let count = c.settled_count.result in
    let each : (k : ℕ) (d : DiskEvent) → k < length (drop count ms) → is_settling (get_or (drop count ms) k d) ≡ false = λ k d inside. rw get_or-drop (c.settled_count.ensures.rest (count + k) d (omega arith) (omega (arith, length-drop count ms))) in
    subst (λ (waiting : List DiskEvent). (k : ℕ) (d : DiskEvent) → k < length waiting → is_settling (get_or waiting k d) ≡ false) (sym c.split_at.ensures.back) each

pub returns : goal.returns
returns c =
    let ms = c.args.history.now in
    let choice = c.args.choice in
    let prefix = c.split_at.result.0.now in
    let back = c.split_at.result.1.now in
    let settled : IsSettled (log_of prefix) = subst (λ (l : List DiskEvent). IsSettled (log_of l)) (sym c.split_at.ensures.front) c.settled_count.ensures.settled in
    let all : prefix ++ back ≡ ms = ap (λ (l : List DiskEvent). l ++ back) c.split_at.ensures.front ∙ ap (λ (l : List DiskEvent). take c.settled_count.result ms ++ l) c.split_at.ensures.back ∙ take-append-drop c.settled_count.result ms in
    let whole : logged (log_of prefix) back ≡ log_of ms = sym (logged_append [] prefix back) ∙ ap log_of all in
    c.in_ok-leave_each.ensures (log_of prefix) settled.none (c.in_ok-image.ensures ∙ sym (settled.whole choice)) ∙ ap (chosen_image choice) whole
