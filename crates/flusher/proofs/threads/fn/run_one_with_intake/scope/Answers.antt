use denote.Param.Send.{sendable}
use Rattle.std.proofs.Crossing.{crosses}
use Rattle.flusher.proofs.Crosses.{Post-sync, Signals-sync}
use Rattle.flusher.proofs.threads.fn.run_one_with_intake.scope.Goals as goal

pub spawn-requires-send-F : goal.spawn-requires-send-F
spawn-requires-send-F g c κs within = search (Post-sync, Signals-sync, sendable, crosses) depth 20
