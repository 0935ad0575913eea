use Rattle.std.proofs.Common.{ℕ, List, subst, sym}
use Rattle.resolver.specs.LookUpQueue.{Answers, IsRunning, IsRunningIn, State}
use Rattle.resolver.proofs.Answered.{clash, meets}
use Rattle.resolver.proofs.look_up_queue.LookUpQueue.answered.Goals as goal

pub returns-in-Some-clause-ok : goal.returns-in-Some-clause-ok
returns-in-Some-clause-ok c =
    let asked = c.self.inside.asked.items in
    let latest = c.self.inside.latest.items in
    let new : State = record { asked = c.remove.new.self.items; latest = c.put_answer.new.latest.items } in
    let P : State → Type 0 = λ s. (at : ℕ) → IsRunning s c.args.host at
    → Answers s new c.args.host at c.args.answer c.last_running.result in
    subst P c.self.view_is (λ at runs.
    let In : List ℕ → Type 0 = λ ys. IsRunningIn ys c.args.host at in
    let is = c.running_place.ensures.some at (subst In (sym c.deref.ensures.value) runs) in
    meets asked c.remove.new.self.items c.deref-in-Some.result.now latest c.put_answer.new.latest.items c.args.host at
    c.in-Some.at
    c.args.answer c.last_running.result c.running_place.result runs is c.in-Some.is c.remove.ensures.items
    c.put_answer.ensures.latest c.deref-in-Some.ensures.value c.last_running.ensures)

pub returns-in-None-clause-ok : goal.returns-in-None-clause-ok
returns-in-None-clause-ok c at runs =
    let P : State → Type 0 = λ s. IsRunning s c.args.host at in
    let In : List ℕ → Type 0 = λ ys. IsRunningIn ys c.args.host at in
    let here = subst P (sym c.self.view_is) runs in
    let is = c.running_place.ensures.some at (subst In (sym c.deref.ensures.value) here) in
    absurd (clash c.running_place.result at is c.in-None.is)

pub returns-in-Some-clause-none : goal.returns-in-Some-clause-none
returns-in-Some-clause-none c never =
    let P : State → Type 0 = λ s. IsRunning s c.args.host c.in-Some.at in
    let In : List ℕ → Type 0 = λ ys. IsRunningIn ys c.args.host c.in-Some.at in
    absurd (never c.in-Some.at (subst P c.self.view_is (subst In c.deref.ensures.value c.in-Some.ensures.runs)))

pub returns-in-Some-clause-unchanged : goal.returns-in-Some-clause-unchanged
returns-in-Some-clause-unchanged c never =
    let P : State → Type 0 = λ s. IsRunning s c.args.host c.in-Some.at in
    let In : List ℕ → Type 0 = λ ys. IsRunningIn ys c.args.host c.in-Some.at in
    absurd (never c.in-Some.at (subst P c.self.view_is (subst In c.deref.ensures.value c.in-Some.ensures.runs)))
