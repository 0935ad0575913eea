use Rattle.std.proofs.Common.{ap, sym, subst, ◌∙◌, ◌+◌, [], ◌∷◌, refl, arith, ℕ}
use Rattle.std.specs.Prelude.{is_some}
use Rattle.event_loop.specs.Chain.{None_yet, Send, Receipt}
use Rattle.event_loop.proofs.Chains.{turn, rest, behind, none_there}
use Rattle.event_loop.proofs.turn.drive.Goals as goal

pub returns-then-is_some : goal.returns-then-is_some
returns-then-is_some g c = record {
  stands = λ options unread h stands.
      let closed = ap is_some (sym (c.closed.ensures options unread h stands)) ∙ sym c.is_some.ensures in
      (unread, h, [], stands, None_yet, refl, (closed ∙ c.if-is_some.true, omega arith));
  same_id = refl;
}

pub loop-turn-init : goal.loop-turn-init
loop-turn-init g c = (
  λ options unread h stands.
      let closed = ap is_some (sym (c.closed.ensures options unread h stands)) ∙ sym c.is_some.ensures in
      (unread, h, [], stands, None_yet, refl, none_there _ (closed ∙ c.if-is_some.false), refl, refl),
  refl,
)

pub returns-then-is_some-2 : goal.returns-then-is_some-2
returns-then-is_some-2 g c = record {
  stands = λ options unread h stands.
      let a = c.loop-turn.invariant.0 options unread h stands in
      let b = c.put_out-out.ensures.stands options a.0 a.1 a.3 in
      let d = c.take_in-into.ensures.stands options _ _ b.0 in
      let closed = ap is_some (sym (c.closed-in-loop-turn.ensures options _ _ d.2))
      ∙ sym c.is_some-in-loop-turn.ensures in (
        d.0,
        d.1,
        Receipt c.take_in-into.result ∷ Send c.put_out-out.result ∷ a.2,
        d.2,
        turn g.L.Link.took g.L.Link.gave g.L.Link.takes g.L.Link.gives options _ unread h _ _ _ _ a.2 a.0 d.0 a.1 d.1
            c.put_out-out.result c.take_in-into.result c.take_in-into.new.buffer
            a.4 b.1 c.put_out-out.ensures.gave
            (subst (λ (room : ℕ).
            g.L.Link.gives c.put_out-out.new.link room c.take_in-into.result c.take_in-into.new.link)
            c.loop-turn.auto.buffer c.take_in-into.ensures.gives)
            c.take_in-into.ensures.within c.take_in-into.ensures.gave c.take_in-into.ensures.took d.3,
        behind a.2 a.5 a.8,
        (closed ∙ c.if-is_some-2.true, omega (arith, a.7)),
      );
  same_id = c.take_in-into.ensures.same_id ∙ c.put_out-out.ensures.same_id ∙ c.loop-turn.invariant.1;
}

pub returns-then-neither_can_move : goal.returns-then-neither_can_move
returns-then-neither_can_move g c = record {
  stands = λ options unread h stands.
      let a = c.loop-turn.invariant.0 options unread h stands in
      let b = c.put_out-out.ensures.stands options a.0 a.1 a.3 in
      let d = c.take_in-into.ensures.stands options _ _ b.0 in
      let closed = ap is_some (sym (c.closed-in-loop-turn.ensures options _ _ d.2))
      ∙ sym c.is_some-in-loop-turn.ensures in
      let both = sym c.neither_can_move.ensures ∙ c.if-neither_can_move.true in
      let moves = rest options a.1 d.1 a.0 d.0 _ c.put_out-out.result c.take_in-into.result both
      (c.put_out-out.ensures.full options a.0 a.1 a.3) c.take_in-into.ensures.full c.take_in-into.ensures.dry d.3 in (
        d.0,
        d.1,
        Receipt c.take_in-into.result ∷ Send c.put_out-out.result ∷ a.2,
        d.2,
        turn g.L.Link.took g.L.Link.gave g.L.Link.takes g.L.Link.gives options _ unread h _ _ _ _ a.2 a.0 d.0 a.1 d.1
            c.put_out-out.result c.take_in-into.result c.take_in-into.new.buffer
            a.4 b.1 c.put_out-out.ensures.gave
            (subst (λ (room : ℕ).
            g.L.Link.gives c.put_out-out.new.link room c.take_in-into.result c.take_in-into.new.link)
            c.loop-turn.auto.buffer c.take_in-into.ensures.gives)
            c.take_in-into.ensures.within c.take_in-into.ensures.gave c.take_in-into.ensures.took d.3,
        behind a.2 a.5 a.8,
        (none_there _ (closed ∙ c.if-is_some-2.false), omega (arith, a.7), both, moves.0, moves.1),
      );
  same_id = c.take_in-into.ensures.same_id ∙ c.put_out-out.ensures.same_id ∙ c.loop-turn.invariant.1;
}

pub loop-turn-preserved : goal.loop-turn-preserved
loop-turn-preserved g c = (
  λ options unread h stands.
      let a = c.loop-turn.invariant.0 options unread h stands in
      let b = c.put_out-out.ensures.stands options a.0 a.1 a.3 in
      let d = c.take_in-into.ensures.stands options _ _ b.0 in
      let closed = ap is_some (sym (c.closed-in-loop-turn.ensures options _ _ d.2))
      ∙ sym c.is_some-in-loop-turn.ensures in (
        d.0,
        d.1,
        Receipt c.take_in-into.result ∷ Send c.put_out-out.result ∷ a.2,
        d.2,
        turn g.L.Link.took g.L.Link.gave g.L.Link.takes g.L.Link.gives options _ unread h _ _ _ _ a.2 a.0 d.0 a.1 d.1
            c.put_out-out.result c.take_in-into.result c.take_in-into.new.buffer
            a.4 b.1 c.put_out-out.ensures.gave
            (subst (λ (room : ℕ).
            g.L.Link.gives c.put_out-out.new.link room c.take_in-into.result c.take_in-into.new.link)
            c.loop-turn.auto.buffer c.take_in-into.ensures.gives)
            c.take_in-into.ensures.within c.take_in-into.ensures.gave c.take_in-into.ensures.took d.3,
        behind a.2 a.5 a.8,
        none_there _ (closed ∙ c.if-is_some-2.false),
        ap (λ n. n + 1) a.7,
        sym c.neither_can_move.ensures ∙ c.if-neither_can_move.false,
      ),
  c.take_in-into.ensures.same_id ∙ c.put_out-out.ensures.same_id ∙ c.loop-turn.invariant.1,
)
