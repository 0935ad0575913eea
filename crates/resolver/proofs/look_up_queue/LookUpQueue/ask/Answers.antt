use Rattle.std.proofs.Common.{◌≡◌, ℕ, ap, length, List, subst}
use Rattle.std.specs.Prelude.{is_ok, vec_len, vec_capacity}
use Rattle.resolver.specs.LookUpQueue.{IsFree, State, joined}
use Rattle.resolver.proofs.Room.{pushed}
use Rattle.resolver.proofs.look_up_queue.LookUpQueue.ask.Goals as goal

pub returns-clause-new : goal.returns-clause-new
returns-clause-new c =
    let asked = c.self.inside.asked in
    let latest = c.self.inside.latest.items in
    let made : List ℕ → State = λ ys. record { asked = ys; latest = latest } in
    let P : State → Type 0 = λ s. IsFree s c.args.host → made c.push.new.self.items ≡ joined s c.args.host in
    let L : List ℕ → Type 0 = λ ys. length ys ≡ vec_len asked in
    let is_len = subst L c.deref.ensures.value c.deref.ensures.len in
    subst P c.self.view_is (λ free. ap made (pushed asked.items c.push.new.self.items (length latest) (vec_capacity asked)
    (vec_len asked) c.args.host (is_ok c.push.result) c.self.invariant.0 free.0 free.1 c.self.invariant.1 is_len
    c.push.ensures.succeeds c.push.ensures.items))
