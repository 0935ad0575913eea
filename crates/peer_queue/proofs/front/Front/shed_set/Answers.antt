use Rattle.std.proofs.Common.{◌≡◌, ℕ, ◌+◌, ◌-◌, List, [], length, Option, refl, sym, ap, ◌∙◌, subst, inl, inr, arith}
use Rattle.std.specs.Prelude.{find, nat_le, unwrap_or}
use Rattle.std.proofs.lemmas.List.{length_push, take_all}
use Rattle.ledger_core.specs.Shape.{octets_sized}
use Rattle.ledger_core.specs.declared.ledger.Totals.{Totals}
use Rattle.peer_queue.specs.DebtPlace.{unheld}
use Rattle.peer_queue.specs.Shed.{AreWithin, sized_without}
use Rattle.peer_queue.specs.Front.{front_shape, places_of}
use Rattle.peer_queue.proofs.Cuts.{prefix_cut}
use Rattle.peer_queue.proofs.Prefixes.{at_some}
use Rattle.peer_queue.proofs.Sheds.{IsPrefix, prefix_more, prefix_none, sized_at, sized_fall, sized_first}
use Rattle.peer_queue.proofs.front.Front.shed_set.Goals as goal
use Rattle.peer_queue.proofs.front.Front.shed_set.Goals.{in-None-1, in-Some+else-owed-limit}
use Rattle.peer_queue.proofs.front.Front.shed_set.Goals.{in-Some+then-owed-limit+else-len-room}
use Rattle.peer_queue.proofs.front.Front.shed_set.Goals.{then-limit-eq0-via-then-limit-eq0}
use Rattle.peer_queue.proofs.front.Front.shed_set.Goals.{then-limit-eq0-via-else-limit-eq0+then-owed-self}

pub loop-next-init : goal.loop-next-init
loop-next-init c =
    let front = c.args.self.now in
    let limit = front.limits.backlog_limit in
    let next = c.unheld_from-next.result in
    let owed = c.totals-owed.result.owed_bytes in
    let shape = front_shape front in
    let places = places_of front in
    let found = subst (λ (z : ℕ). next ≡ find (λ m. nat_le z m) (unheld places)) c.new.ensures.key
    c.unheld_from-next.ensures.first in
    let counted : owed ≡ octets_sized shape.sizes = ap (λ (totals : Totals). totals.owed_bytes)
    c.totals-owed.ensures.counts in
    record {
      front =
          subst (λ (set : List ℕ). IsPrefix limit (sized_without shape.sizes) places set next owed)
          (sym c.new-set.ensures.items)
          (prefix_none limit (sized_without shape.sizes) places next owed found (counted ∙ sym (sized_first shape)));
      few = omega (arith, ap (λ (l : List ℕ). length l) c.new-set.ensures.items);
    }

pub loop-next-smaller : goal.loop-next-smaller
loop-next-smaller c =
    let U = unheld (places_of c.args.self.now) in
    let set = c.loop-next.set.items in
    let at = at_some U (length set) c.in-Some.key (sym c.loop-next.invariant.front.next ∙ c.in-Some.is) in
    let more : length c.push.new.self.items ≡ length set + 1 =
    ap (λ (l : List ℕ). length l) c.in_ok-push.ensures.items ∙ length_push set c.in-Some.key in
    omega (arith, at.0, more)

pub loop-next-preserved : goal.loop-next-preserved
loop-next-preserved c =
    let front = c.args.self.now in
    let limit = front.limits.backlog_limit in
    let shape = front_shape front in
    let places = places_of front in
    let n = c.in-Some.key in
    let set = c.loop-next.set.items in
    let owed = c.loop-next.owed in
    let next = c.next_unheld-next.result in
    let owed' = c.saturating_sub-owed.result in
    let more : length c.push.new.self.items ≡ length set + 1 =
    ap (λ (l : List ℕ). length l) c.in_ok-push.ensures.items ∙ length_push set n in
    let rising = c.unheld_from-next.ensures.rising in
    let found = c.next_unheld-next.ensures.next in
    let is = subst (λ (o : Option ℕ). IsPrefix limit (sized_without shape.sizes) places set o owed) c.in-Some.is
    c.loop-next.invariant.front in
    let fall = c.saturating_sub-owed.ensures ∙ ap (λ (k : ℕ). owed - k) (c.unwrap_or.ensures ∙
    ap (λ (o : Option ℕ). unwrap_or o 0) c.octets.ensures) in
    record {
      front =
          subst (λ (l : List ℕ). IsPrefix limit (sized_without shape.sizes) places l next owed')
          (sym c.in_ok-push.ensures.items)
          (prefix_more limit (sized_without shape.sizes) places set n next owed owed' (sized_at shape n) rising is
          c.if-owed-limit.true found fall (sized_fall shape places set n rising front.all_placed));
      few = omega (arith, more, c.len.ensures, c.if-len-room.true);
    }

pub returns-clause-set : goal.returns-clause-set
returns-clause-set c =
    let front = c.args.self.now in
    let over : AreWithin front.limits (octets_sized (front_shape front).sizes) → ⊥ = λ within. elim within [
      | inl none ↦ c.if-limit-eq0.false none
      | inr low ↦ omega (
        arith,
        low,
        c.if-owed-self.false,
        ap (λ (totals : Totals). totals.owed_bytes) c.totals-owed.ensures.counts,
      )
    ] in
    let loop = c.loop-next in
    prefix_cut front.limits (octets_sized (front_shape front).sizes) (sized_without (front_shape front).sizes)
    (places_of front)
    loop.set.items loop.next loop.owed c.args.room over loop.invariant.front loop.invariant.few
    (elim c.match-next.branch [
      | in-None-1 w ↦ inl (inl cc)
      | in-Some+else-owed-limit w ↦ inl (inr w.if-owed-limit.false)
      | in-Some+then-owed-limit+else-len-room w ↦ inr (omega (arith, w.len.ensures, w.if-len-room.false))
    ])

pub returns-then-limit-eq0-clause-set : goal.returns-then-limit-eq0-clause-set
returns-then-limit-eq0-clause-set c =
    let front = c.args.self.now in
    let within : AreWithin front.limits (octets_sized (front_shape front).sizes) = elim c.then-limit-eq0.branch [
      | then-limit-eq0-via-then-limit-eq0 w ↦ inl w.if-limit-eq0.true
      | then-limit-eq0-via-else-limit-eq0+then-owed-self w ↦
          inr (omega (
            arith,
            w.if-owed-self.true,
            ap (λ (totals : Totals). totals.owed_bytes)
                c.totals-owed.ensures.counts,
          ))
    ] in
    ([], inl (within, refl), c.new-set.ensures.items ∙ sym (take_all (c.args.room + 1) [] (omega arith)))
