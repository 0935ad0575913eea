-- Its disks are those of its tape.
use Rattle.std.proofs.Common.{refl}
use Rattle.recovery.specs.TapeLaws.{logs_of_disks}
use Rattle.world_core.proofs.TapesStopped.{peer_halted}
use Rattle.world_core.proofs.halt.Peer+StopDisk.halt.Goals as goal
use Rattle.peer_queue.specs.Words.{tape_of}

pub returns : goal.returns
returns c = λ past stands.
    peer_halted past c.args.self _ stands refl
    (logs_of_disks (tape_of c.args.self.station) c.into_disks-disks.result c.into_disks-disks.ensures.disks)
    c.into_disks-disks.ensures.faults
