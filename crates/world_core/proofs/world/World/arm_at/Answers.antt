-- A stop is armed in place of any that was.
use Rattle.std.proofs.Common.{refl}
use Rattle.world_core.proofs.PeerRanks.{armed_world}
use Rattle.world_core.proofs.world.World.arm_at.Goals as goal

pub returns : goal.returns
returns c = λ life peer stands is.
    armed_world c.args.self.now _ life peer c.args.call c.args.choice c.args.rank c.requires stands is refl refl refl
    refl
