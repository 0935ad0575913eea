-- The stations keep the number.
use Rattle.std.proofs.Common.{refl}
use Rattle.world_core.proofs.StepsOfWorlds.{began}
use Rattle.world_core.proofs.world.World.begin.Goals as goal

pub returns-clause-ok : goal.returns-clause-ok
returns-clause-ok c = λ life stands.
    began c.args.self.now _ life c.in-Running.stations c.begin.new.self c.in-Running.field-1 stands c.in-Running.is
    refl refl refl refl
    c.args.out.now.items c.requires (λ on. c.begin.ensures life.past on)
