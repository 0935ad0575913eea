-- Each outcome in turn, up to the last or one that is refused.
use Rattle.std.proofs.Common.{subst, []}
use Rattle.world_core.specs.Exchange.{all_out}
use Rattle.world_core.specs.Pairs.{SettledNext}
use Rattle.world_core.proofs.Results.{if_err_is}
use Rattle.world_core.proofs.OutcomesSettled.{settled_all, settled_more, settled_refused, settled_start}
use Rattle.world_core.proofs.connection.Connection.settle_all.Goals as goal

pub loop-init : goal.loop-init
loop-init g c = λ id conn past pair.
    ([], past, settled_start id c.args.now conn past c.args.self.now c.args.peer.now c.args.outputs.now.items pair)

pub loop-preserved : goal.loop-preserved
loop-preserved g c = λ id conn past pair.
    let so = c.loop.invariant id conn past pair in
    let at = all_out so.0 conn in
    let one = subst (λ more.
    SettledNext more id c.args.now at so.1 c.loop.outputs.items c.settle_next.new.self c.settle_next.new.peer
    c.settle_next.new.outputs.items)
    c.if-branch.true (c.in_ok-settle_next.ensures.ok id at so.1 so.2.stand) in
    settled_more id c.args.now conn past c.args.outputs.now.items so.0 so.1 c.loop.self c.settle_next.new.self
    c.loop.peer c.settle_next.new.peer
    c.loop.outputs.items c.settle_next.new.outputs.items so.2 one

pub returns-clause-ok : goal.returns-clause-ok
returns-clause-ok g c = λ id conn past pair.
    let so = c.loop.invariant id conn past pair in
    let at = all_out so.0 conn in
    let none = subst (λ more.
    SettledNext more id c.args.now at so.1 c.loop.outputs.items c.settle_next.new.self c.settle_next.new.peer
    c.settle_next.new.outputs.items)
    c.if-branch.false (c.in_ok-settle_next.ensures.ok id at so.1 so.2.stand) in
    settled_all id c.args.now conn past c.args.outputs.now.items so.0 so.1 c.loop.self c.settle_next.new.self
    c.loop.peer
    c.settle_next.new.peer
    c.loop.outputs.items c.settle_next.new.outputs.items so.2 none

pub returns-in_err-settle_next-clause-err : goal.returns-in_err-settle_next-clause-err
returns-in_err-settle_next-clause-err g c = λ id conn past pair.
    let so = c.loop.invariant id conn past pair in
    let at = all_out so.0 conn in
    if_err_is c.from_residual.result _ _ c.from_residual.ensures.1
    (settled_refused id c.args.now conn past c.args.outputs.now.items so.0 so.1 c.loop.self c.settle_next.new.self
    c.loop.peer c.settle_next.new.peer
    c.loop.outputs.items _ so.2 (c.in_err-settle_next.ensures.err id at so.1 so.2.stand))
