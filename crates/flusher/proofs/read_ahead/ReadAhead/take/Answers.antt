use Rattle.std.proofs.Common.{◌≡◌, ◌<◌, ℕ, List, Some, None, length, true≢false, sym, ap}
use Rattle.std.proofs.Common.{◌∙◌, subst, arith}
use Rattle.std.specs.Prelude.{IsSome}
use Rattle.std.specs.List.Sorted.{IsStrictlyIncreasing}
use Rattle.std.proofs.lemmas.Bool.{eq-eqb, eqb-true}
use Rattle.ledger_core.specs.State.{Owing, keys_in}
use Rattle.flusher.specs.ReadAhead.{TakesOut}
use Rattle.flusher.proofs.Ahead.{left_above, left_first, left_none, length_rest, rising_rest}
use Rattle.flusher.proofs.read_ahead.ReadAhead.take.Goals as goal
use Rattle.flusher.proofs.read_ahead.ReadAhead.take.Goals.{in-None-1, in-Some+else-is_below}
use Rattle.flusher.proofs.read_ahead.ReadAhead.take.Goals.{in_default-via-in-Some-front+else-eq}
use Rattle.flusher.proofs.read_ahead.ReadAhead.take.Goals.{in_default-via-in_default}

pub invariant_of-self : goal.invariant_of-self
invariant_of-self c =
    let debts = c.loop-first.self.debts.items in
    let rest = c.pop_front.ensures.rest in
    record {
      few = omega (arith, c.loop-first.self.few, ap (λ (l : List Owing). length l) rest, length_rest debts);
      rising = subst (λ (l : List Owing). IsStrictlyIncreasing (keys_in l)) (sym rest)
          (rising_rest debts c.loop-first.self.rising);
    }

pub invariant_of-self-then-eq : goal.invariant_of-self-then-eq
invariant_of-self-then-eq c =
    let debts = c.loop-first.self.debts.items in
    let rest = c.pop_front-in-Some-front.ensures.rest in
    record {
      few = omega (arith, c.loop-first.self.few, ap (λ (l : List Owing). length l) rest, length_rest debts);
      rising = subst (λ (l : List Owing). IsStrictlyIncreasing (keys_in l)) (sym rest)
          (rising_rest debts c.loop-first.self.rising);
    }

pub returns-in-Some-front-clause-takes : goal.returns-in-Some-front-clause-takes
returns-in-Some-front-clause-takes c =
    let debts = c.loop-first.self.debts.items in
    let first = c.in-Some-front.first.now in
    let is = c.in-Some-front.ensures.item in
    let read = c.key-in-Some-front-2 in
    let same : first.0 ≡ c.args.key = sym read.ensures ∙ eqb-true read.result c.args.key
    (sym c.eq.ensures ∙ c.if-eq.true) in
    let took = left_first c.args.key c.args.self.now.debts.items debts first c.loop-first.invariant.left is.3.0 is.1
    same in
    let popped = c.pop_front-in-Some-front.ensures in
    record {
      found = popped.value first (omega (arith, is.3.0, c.loop-first.self.debts.ok.0))
          ∙ (ap (λ (d : Owing). Some d) (sym is.1) ∙ took.0);
      rest = popped.rest ∙ took.1;
    }

pub returns-in_default-clause-takes : goal.returns-in_default-clause-takes
returns-in_default-clause-takes c =
    let key = c.args.key in
    let old = c.args.self.now.debts.items in
    let debts = c.loop-first.self.debts.items in
    let left = c.loop-first.invariant.left in
    elim c.in_default.branch as
    (λ _. TakesOut key c.args.self.now c.loop-first.self None) [
      | in_default-via-in-Some-front+else-eq w ↦
          let same = w.in-Some-front.first.now in
          let is = w.in-Some-front.ensures.item in
          let read = w.key-in-Some-front-2 in
          let apart : same.0 ≡ key → ⊥ = λ here. absurd (true≢false
          (sym (eq-eqb read.result key (read.ensures ∙ here)) ∙ (sym w.eq.ensures ∙ w.if-eq.false))) in
          elim c.match-front.branch as (λ _. TakesOut key c.args.self.now c.loop-first.self None) [
            | in-None-1 none ↦
                let none : c.front.result ≡ None = cc in
                let some = subst IsSome none
                (c.front.ensures.variant.1 (omega (arith, is.3.0, c.loop-first.self.debts.ok.0))) in
                absurd (cc some)
            | in-Some+else-is_below some ↦
                let first = some.in-Some.first.now in
                let high : first.0 < key → ⊥ = λ below. true≢false
                (sym (some.is_below.ensures.1 (subst (λ (k : ℕ). k < key) (sym some.key.ensures) below))
                ∙ some.if-is_below.false) in
                let all = left_above key old debts first same left is.3.0 some.in-Some.ensures.item.1 is.1 high apart in
                record { found = all.0; rest = all.1 }
          ]
      | in_default-via-in_default w ↦
          let all = left_none key old debts left (omega (arith, w.in_default.ensures.item.3)) in
          record { found = all.0; rest = all.1 }
    ]
