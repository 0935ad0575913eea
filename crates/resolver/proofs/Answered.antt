-- What an answer changes.
use Rattle.std.proofs.Common.{◌≡◌, ◌∙◌, ℕ, ◌<◌, ◌≤◌, ◌==◌, List, length, take, ◌++◌, ap, refl, subst, sym, arith}
use Rattle.std.specs.Prelude.{remove, slice_get, option_to_list, unwrap_or, Option, Some, None, position}
use Rattle.std.proofs.lemmas.List.Quantifiers.{position-Some}
use Rattle.resolver.specs.LookUpQueue.{Answers, IsRunning, IsRunningIn, State, latest_with}
use Rattle.resolver.specs.declared.host.Answer.{Answer}
use Rattle.resolver.specs.declared.latest_answer.LatestAnswer.{LatestAnswer}
use Rattle.resolver.proofs.Places.{drop-remove, slice_get-remove, take-remove}

-- a host at an index below 8 is in the list
inside : (asked : List ℕ) (host at : ℕ) → position (λ one. one == host) asked ≡ Some at → at < length asked
inside asked host at is = (position-Some (λ one. one == host) asked at 0 is).0

pub answers : (old : State) (host at : ℕ) (answer : Answer) → IsRunning old host at
    → Answers old (record { asked = remove old.asked at; latest = latest_with old.latest host answer }) host at answer
    (slice_get (remove old.asked at) 7)
answers old host at answer (is, runs) =
    let h = inside old.asked host at is in
    let within : at ≤ 7 = omega (arith, runs) in
    let next = slice_get-remove old.asked at 7 within h in
    record {
      next = next;
      running = subst (λ after. take 8 (remove old.asked at) ≡ remove (take 8 old.asked) at ++ option_to_list after)
          (sym next) (take-remove old.asked at 7 within h);
      waiting = drop-remove old.asked at 7 within h;
      latest = refl;
    }

-- an option holds only one number
one : (place : Option ℕ) (at at' : ℕ) → place ≡ Some at → place ≡ Some at' → at' ≡ at
one place at at' is is' = ap (λ o. unwrap_or o 0) (sym is' ∙ is)

-- an option that has a number is not empty
pub clash : (place : Option ℕ) (at : ℕ) → place ≡ Some at → place ≡ None → ⊥
clash place at is empty = cc

-- what the calls make of a host that is being looked up
pub meets : (asked after behind : List ℕ) (latest after_latest : List LatestAnswer) (host at at' : ℕ) (answer : Answer)
    (result place : Option ℕ) → IsRunningIn asked host at → place ≡ Some at → place ≡ Some at'
    → after ≡ remove asked at' → after_latest ≡ latest_with latest host answer → behind ≡ after → result ≡ slice_get behind 7
    → Answers (record { asked = asked; latest = latest }) (record { asked = after; latest = after_latest })
    host at answer result
meets asked after behind latest after_latest host at at' answer result place runs is is' removed tells sees last =
    let old : State = record { asked = asked; latest = latest } in
    let e1 : remove asked at ≡ after = ap (λ i. remove asked i) (sym (one place at at' is is')) ∙ sym removed in
    let e2 : slice_get (remove asked at) 7 ≡ result = ap (λ ys. slice_get ys 7) (e1 ∙ sym sees) ∙ sym last in
    let A : List ℕ → Type 0 = λ ys. Answers old (record { asked = ys; latest = latest_with latest host answer })
    host at answer
    (slice_get (remove asked at) 7) in
    let B : List LatestAnswer → Type 0 = λ ts. Answers old (record { asked = after; latest = ts }) host at answer
    (slice_get (remove asked at) 7) in
    let C : Option ℕ → Type 0 = λ r. Answers old (record { asked = after; latest = after_latest }) host at answer r in
    subst C e2 (subst B (sym tells) (subst A e1 (answers old host at answer runs)))
