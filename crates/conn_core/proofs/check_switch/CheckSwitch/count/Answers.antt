use Rattle.std.proofs.Common.{◌≡◌, ◌≤◌, ◌∷◌, length, take, sym, ap, ◌∙◌, arith}
use Rattle.conn_core.specs.Checks.{accepted_among}
use Rattle.conn_core.specs.Machine.{are_off_with}
use Rattle.conn_core.proofs.AcceptedLately.{accepted_among-le, gone-le, left-is, off-is}
use Rattle.conn_core.proofs.check_switch.CheckSwitch.count.Goals as goal

pub accepted_after-self-inside-requires-clause-few : goal.accepted_after-self-inside-requires-clause-few
accepted_after-self-inside-requires-clause-few c =
    let same : c.push_front-gone.new.self.capacity ≡ c.self.inside.recent.capacity = ap (λ b. b.capacity) c.push_front-gone.ensures.items in
    omega (arith, accepted_among-le c.self.inside.recent.items, same)

pub accepted_after-self-inside-requires-clause-among : goal.accepted_after-self-inside-requires-clause-among
accepted_after-self-inside-requires-clause-among c =
    gone-le c.args.accepts c.self.inside.recent.items c.self.inside.recent.capacity c.self.inside.accepted c.push_front-gone.result c.push_front-gone.ensures.value
    c.self.invariant.0 c.self.invariant.1

pub invariant_of-self : goal.invariant_of-self
invariant_of-self c =
    let items : c.push_front-gone.new.self.items ≡ take c.self.inside.recent.capacity (c.args.accepts ∷ c.self.inside.recent.items) = ap (λ b. b.items) c.push_front-gone.ensures.items in
    let count = left-is c.args.accepts c.self.inside.recent.items c.self.inside.recent.capacity c.self.inside.accepted c.push_front-gone.result c.push_front-gone.ensures.value
    c.self.invariant.0 c.self.invariant.1 c.accepted_after-self-inside.result c.accepted_after-self-inside.ensures in
    (count ∙ ap accepted_among (sym items), omega (arith, c.len-answers.ensures.within))

pub returns-clause-off : goal.returns-clause-off
returns-clause-off c =
    let items : c.push_front-gone.new.self.items ≡ take c.self.inside.recent.capacity (c.args.accepts ∷ c.self.inside.recent.items) = ap (λ b. b.items) c.push_front-gone.ensures.items in
    let filter : c.self.inside.recent.capacity ≡ c.args.options.now.check_filter = ap (λ v. v.filter) c.self.view_is ∙ c.requires in
    let capacity : c.push_front-gone.new.self.capacity ≡ c.args.options.now.check_filter = ap (λ b. b.capacity) c.push_front-gone.ensures.items ∙ filter in
    let recent : c.push_front-gone.new.self.items ≡ take c.args.options.now.check_filter (c.args.accepts ∷ c.args.self.now.recent) =
    items ∙ ap (λ n. take n (c.args.accepts ∷ c.self.inside.recent.items)) filter
    ∙ ap (λ xs. take c.args.options.now.check_filter (c.args.accepts ∷ xs)) (ap (λ v. v.recent) c.self.view_is) in
    let count = left-is c.args.accepts c.self.inside.recent.items c.self.inside.recent.capacity c.self.inside.accepted c.push_front-gone.result c.push_front-gone.ensures.value
    c.self.invariant.0 c.self.invariant.1 c.accepted_after-self-inside.result c.accepted_after-self-inside.ensures in
    let few : length c.push_front-gone.new.self.items ≤ c.args.options.now.check_filter = omega (arith, c.len-answers.ensures.within, capacity) in
    let is = off-is c.args.options.now c.self.inside.off c.push_front-gone.new.self.items c.len-answers.result c.accepted_after-self-inside.result c.len-answers.ensures.len few
    (count ∙ ap accepted_among (sym items)) in
    let first : c.is_off-self-inside.result ≡ are_off_with c.args.options.now c.self.inside.off c.push_front-gone.new.self.items =
    c.is_off-self-inside.ensures ∙ rw (c.is_at_least-high.ensures, c.is_at_least-kept.ensures) is in
    first ∙ ap (λ o. are_off_with c.args.options.now o c.push_front-gone.new.self.items) (ap (λ v. v.off) c.self.view_is) ∙ ap (are_off_with c.args.options.now c.args.self.now.off) recent
