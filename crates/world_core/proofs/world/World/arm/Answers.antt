-- The tape is the intake's, or that of the peer of this name.
use Rattle.std.proofs.Common.{None, Some, sym, ◌∙◌, subst}
use Rattle.world_core.specs.Halts.{IsTapeOf}
use Rattle.world_core.proofs.world.World.arm.Goals as goal

pub returns-clause-ok : goal.returns-clause-ok
returns-clause-ok c = λ life stands.
    c.arm_at-2.ensures life c.args.peer.now stands
    (subst (λ peer. IsTapeOf life.past peer (Some c.in-Some-rank_of.rank)) (sym c.in-Some.is)
    (sym (c.rank_of.ensures life stands) ∙ c.in-Some-rank_of.is))

pub returns-in_default-clause-ok : goal.returns-in_default-clause-ok
returns-in_default-clause-ok c = λ life stands.
    c.arm_at.ensures life c.args.peer.now stands
    (subst (λ peer. IsTapeOf life.past peer None) (sym c.in_default.is) tt)
