-- The second disks are empty, and so are the intake's.
use Rattle.world_core.proofs.WorldMade.{disks_apart}
use Rattle.world_core.proofs.world.World.with_tapes.Goals as goal

pub with_disks-requires : goal.with_disks-requires
with_disks-requires c = record {
  distinct = disks_apart c.args.peers.items c.in_ok-given.given.items c.in_ok-given.ensures c.requires.distinct;
}
