use Rattle.std.proofs.Common.{◌≡◌, ℕ, ◌+◌, ◌-◌, List, [], length, Option, refl, sym, ap, ◌∙◌, subst, inl, inr, arith}
use Rattle.std.specs.Prelude.{find, nat_le, unwrap_or}
use Rattle.std.proofs.lemmas.List.{length_push, take_all}
use Rattle.ledger_core.specs.State.{owed_bytes}
use Rattle.ledger_core.specs.declared.ledger.Totals.{Totals}
use Rattle.peer_queue.specs.DebtPlace.{unheld}
use Rattle.peer_queue.specs.Shed.{IsWithin, owed_without}
use Rattle.peer_queue.specs.Words.{ledger_of, places_of}
use Rattle.peer_queue.proofs.Cuts.{prefix_cut}
use Rattle.peer_queue.proofs.Prefixes.{at_some}
use Rattle.peer_queue.proofs.Sheds.{IsPrefix, prefix_more, prefix_none, owed_at, owed_fall, owed_first}
use Rattle.peer_queue.proofs.station.Station.shed_set.Goals as goal
use Rattle.peer_queue.proofs.station.Station.shed_set.Goals.{in-None-1, in-Some+else-owed-limit}
use Rattle.peer_queue.proofs.station.Station.shed_set.Goals.{in-Some+then-owed-limit+else-len-room}
use Rattle.peer_queue.proofs.station.Station.shed_set.Goals.{then-limit-eq0-via-then-limit-eq0}
use Rattle.peer_queue.proofs.station.Station.shed_set.Goals.{then-limit-eq0-via-else-limit-eq0+then-owed-self}

pub loop-next-init : goal.loop-next-init
loop-next-init g c =
    let station = c.args.self.now in
    let limit = station.limits.backlog_limit in
    let next = c.unheld_from-next.result in
    let owed = c.totals-owed.result.owed_bytes in
    let state = ledger_of station in
    let places = places_of station in
    let found = subst (λ (z : ℕ). next ≡ find (λ m. nat_le z m) (unheld places)) c.new.ensures.key
    c.unheld_from-next.ensures.first in
    let counted : owed ≡ owed_bytes state = ap (λ (totals : Totals). totals.owed_bytes) c.totals-owed.ensures.counts in
    record {
      prefix =
          subst (λ (set : List ℕ). IsPrefix limit (owed_without state) places set next owed)
          (sym c.new-set.ensures.items)
          (prefix_none limit (owed_without state) places next owed found (counted ∙ sym (owed_first state)));
      few = omega (arith, ap (λ (l : List ℕ). length l) c.new-set.ensures.items);
    }

pub loop-next-smaller : goal.loop-next-smaller
loop-next-smaller g c =
    let U = unheld (places_of c.args.self.now) in
    let set = c.loop-next.set.items in
    let at = at_some U (length set) c.in-Some.key (sym c.loop-next.invariant.prefix.next ∙ c.in-Some.is) in
    let more : length c.push.new.self.items ≡ length set + 1 = ap (λ (l : List ℕ). length l) c.in_ok-push.ensures.items ∙ length_push set c.in-Some.key in
    omega (arith, at.0, more)

pub loop-next-preserved : goal.loop-next-preserved
loop-next-preserved g c =
    let station = c.args.self.now in
    let limit = station.limits.backlog_limit in
    let state = ledger_of station in
    let places = places_of station in
    let n = c.in-Some.key in
    let set = c.loop-next.set.items in
    let owed = c.loop-next.owed in
    let next = c.next_unheld-next.result in
    let owed' = c.saturating_sub-owed.result in
    let more : length c.push.new.self.items ≡ length set + 1 =
    ap (λ (l : List ℕ). length l) c.in_ok-push.ensures.items ∙ length_push set n in
    let rising = c.unheld_from-next.ensures.rising in
    let found = c.next_unheld-next.ensures in
    let is = subst (λ (o : Option ℕ). IsPrefix limit (owed_without state) places set o owed) c.in-Some.is
    c.loop-next.invariant.prefix in
    let fall = c.saturating_sub-owed.ensures ∙ ap (λ (k : ℕ). owed - k) (c.unwrap_or.ensures ∙ ap (λ (o : Option ℕ). unwrap_or o 0) c.octets.ensures.octets) in
    record {
      prefix =
          subst (λ (l : List ℕ). IsPrefix limit (owed_without state) places l next owed')
          (sym c.in_ok-push.ensures.items)
          (prefix_more limit (owed_without state) places set n next owed owed' (owed_at state n) rising is
          c.if-owed-limit.true found fall (owed_fall state places set n rising station.all_placed));
      few = omega (arith, more, c.len.ensures, c.if-len-room.true);
    }

pub returns-clause-set : goal.returns-clause-set
returns-clause-set g c =
    let station = c.args.self.now in
    let over : IsWithin station.limits (ledger_of station) → ⊥ = λ within. elim within [
      | inl none ↦ c.if-limit-eq0.false none
      | inr low ↦ omega (arith, low, c.if-owed-self.false, ap (λ (totals : Totals). totals.owed_bytes) c.totals-owed.ensures.counts)
    ] in
    let loop = c.loop-next in
    prefix_cut station.limits (owed_bytes (ledger_of station)) (owed_without (ledger_of station)) (places_of station)
    loop.set.items loop.next loop.owed c.args.room over loop.invariant.prefix loop.invariant.few
    (elim c.match-next.branch [
      | in-None-1 w ↦ inl (inl cc)
      | in-Some+else-owed-limit w ↦ inl (inr w.if-owed-limit.false)
      | in-Some+then-owed-limit+else-len-room w ↦ inr (omega (arith, w.len.ensures, w.if-len-room.false))
    ])

pub returns-then-limit-eq0-clause-set : goal.returns-then-limit-eq0-clause-set
returns-then-limit-eq0-clause-set g c =
    let station = c.args.self.now in
    let within : IsWithin station.limits (ledger_of station) = elim c.then-limit-eq0.branch [
      | then-limit-eq0-via-then-limit-eq0 w ↦ inl w.if-limit-eq0.true
      | then-limit-eq0-via-else-limit-eq0+then-owed-self w ↦
          inr (omega (
            arith,
            w.if-owed-self.true,
            ap (λ (totals : Totals). totals.owed_bytes)
                c.totals-owed.ensures.counts,
          ))
    ] in
    ([], inl (within, refl), c.new-set.ensures.items ∙ sym (take_all (c.args.room + 1) [] (omega arith)))
