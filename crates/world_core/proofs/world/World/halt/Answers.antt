use Rattle.std.proofs.Common.{refl, sym, ◌∙◌}
use Rattle.world_core.proofs.WorldStopped.{halted_on}
use Rattle.world_core.proofs.world.World.halt.Goals as goal

pub returns-clause-ok : goal.returns-clause-ok
returns-clause-ok c = λ life now under_way goes stands.
    halted_on c.args.self.now _ life now under_way c.in-Running-replace.stations c.in-Running-replace.field-1
    c.halt-peers.result.0 c.halt-peers.result.1 goes stands
    (sym c.replace.ensures.value ∙ c.in-Running-replace.is) (c.halt-peers.ensures under_way) refl refl refl refl
