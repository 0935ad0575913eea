-- A stop at rest, or one that is armed.
use Rattle.std.proofs.Common.{List, sym, subst, arith}
use Rattle.world_core.specs.Halts.{TakesStop}
use Rattle.world_core.specs.Turn.{Made}
use Rattle.world_core.specs.declared.output.Output.{Output}
use Rattle.world_core.proofs.PeerRanks.{rested, rested_not}
use Rattle.world_core.proofs.Results.{if_err_map, on_ok_map}
use Rattle.world_core.proofs.world.World.stop.Goals as goal

pub returns-then-call-eq0-clause-ok : goal.returns-then-call-eq0-clause-ok
returns-then-call-eq0-clause-ok c = λ life stands.
    on_ok_map c.rest.result _ _ (c.rest.ensures.ok life stands)
    (rested c.args.peer.now c.args.call c.args.choice life _ _ (omega (arith, c.if-call-eq0.true)))

pub returns-then-call-eq0-clause-err : goal.returns-then-call-eq0-clause-err
returns-then-call-eq0-clause-err c = λ life stands.
    if_err_map c.rest.result _ _ (c.rest.ensures.err life stands)
    (λ fault. rested_not c.args.peer.now c.args.call life fault _ (omega (arith, c.if-call-eq0.true)))

pub returns-clause-ok : goal.returns-clause-ok
returns-clause-ok c = λ life stands.
    on_ok_map c.arm.result _ _ (c.arm.ensures.ok life stands)
    (λ made. subst (λ (outputs : List Output).
    Made (TakesStop c.args.peer.now c.args.call c.args.choice) life outputs c.arm.new.self) (sym c.requires) made)
