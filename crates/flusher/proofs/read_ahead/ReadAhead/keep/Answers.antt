use Rattle.std.proofs.Common.{◌≡◌, ℕ, List, length, true, sym, ap, ◌∙◌, subst, arith}
use Rattle.std.proofs.lemmas.List.{length_push}
use Rattle.std.specs.List.Sorted.{IsStrictlyIncreasing}
use Rattle.ledger_core.specs.State.{Owing, keys_in}
use Rattle.flusher.specs.Ahead.{has_room_for}
use Rattle.flusher.proofs.Ahead.{more_kept}
use Rattle.flusher.proofs.read_ahead.ReadAhead.keep.Goals as goal

pub invariant_of-self-then-has_room_for : goal.invariant_of-self-then-has_room_for
invariant_of-self-then-has_room_for c =
    let kept = c.loop-debt.self.debts.items in
    let debt : Owing = c.in-Some.debt in
    let room = subst (λ (key : ℕ). has_room_for kept key ≡ true) c.key.ensures
    (sym c.has_room_for.ensures ∙ c.if-has_room_for.true) in
    let more = more_kept kept debt c.loop-debt.self.rising room in
    let items = c.push_back_reserved.ensures.items in
    record {
      few = omega (arith, more.0, ap (λ (l : List Owing). length l) items, length_push kept debt);
      rising = subst (λ (l : List Owing). IsStrictlyIncreasing (keys_in l)) (sym items) more.1;
    }
