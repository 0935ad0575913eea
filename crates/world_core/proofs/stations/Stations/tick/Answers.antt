-- One more connection at each turn.
use Rattle.std.proofs.Common.{◌≡◌, ◌∙◌, ℕ, length, arith, refl, subst}
use Rattle.world_core.specs.Exchange.{TicksSome}
use Rattle.world_core.specs.Joined.{MadeOn}
use Rattle.world_core.proofs.Results.{if_err_is}
use Rattle.world_core.proofs.ConnectionsTick.{count_conns, ticks_more, ticks_none, ticks_not}
use Rattle.world_core.proofs.stations.Stations.tick.Goals as goal

pub loop-index-init : goal.loop-index-init
loop-index-init g c = record { ticks = λ life running now_is. ticks_none life _ _ _ running; count = refl }

pub loop-index-preserved : goal.loop-index-preserved
loop-index-preserved g c =
    let loop = c.loop-index in
    record {
      ticks = λ life running now_is.
          let prefix = loop.invariant.ticks life running now_is in
          ticks_more life c.args.outputs.now.items loop.outputs.items loop.self loop.connections.items loop.index prefix
          c.tick_at.new.outputs.items c.tick_at.new.self
          c.tick_at.new.connections.items (c.in_ok-tick_at.ensures.ok prefix.later prefix.stand (prefix.now ∙ now_is));
      count = c.tick_at.ensures.count ∙ loop.invariant.count;
    }

pub returns-in_err-tick_at-clause-err : goal.returns-in_err-tick_at-clause-err
returns-in_err-tick_at-clause-err g c = λ life running now_is.
    let loop = c.loop-index in
    let prefix = loop.invariant.ticks life running now_is in
    if_err_is c.from_residual.result _ _ c.from_residual.ensures.1
    (ticks_not life c.args.outputs.now.items loop.outputs.items loop.self loop.connections.items loop.index prefix _
    c.tick_at.new.self c.tick_at.new.connections.items
    (c.in_err-tick_at.ensures.err prefix.later prefix.stand (prefix.now ∙ now_is)))

pub returns-clause-ok : goal.returns-clause-ok
returns-clause-ok g c = λ life running now_is.
    let loop = c.loop-index in
    let all : loop.index ≡ length life.conns =
    omega (arith, count_conns life c.args.self.now c.args.connections.now.items running) in
    subst (λ (n : ℕ). MadeOn (TicksSome n) life.connected life c.args.outputs.now.items loop.outputs.items loop.self
    loop.connections.items) all
    (loop.invariant.ticks life running now_is)
