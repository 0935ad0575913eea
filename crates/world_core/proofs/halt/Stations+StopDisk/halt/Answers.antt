-- The peers stop, and so does the intake.
use Rattle.recovery.specs.TapeLaws.{logs_of_disks}
use Rattle.world_core.proofs.TapesStopped.{tapes_halted}
use Rattle.world_core.proofs.halt.Stations+StopDisk.halt.Goals as goal

pub returns : goal.returns
returns c = λ past stands.
    tapes_halted past c.args.self c.halt_each.result.items c.into_disks.result stands
    (c.halt_each.ensures.stops past.peers stands.peers)
    (logs_of_disks c.args.self.intake c.into_disks.result c.into_disks.ensures.disks) c.into_disks.ensures.faults
