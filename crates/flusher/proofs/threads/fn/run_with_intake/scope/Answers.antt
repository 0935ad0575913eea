use denote.Param.Send.{sendable}
use Rattle.std.proofs.Crossing.{crosses}
use Rattle.flusher.proofs.Crosses.{Post-sync, Signals-sync}
use Rattle.flusher.proofs.threads.fn.run_with_intake.scope.Goals as goal

pub spawn-requires-send-F : goal.spawn-requires-send-F
spawn-requires-send-F g c κs within = search (Post-sync, Signals-sync, sendable, crosses) depth 20

pub run_one_with_intake-ended-requires-send-D : goal.run_one_with_intake-ended-requires-send-D
run_one_with_intake-ended-requires-send-D g c κs within = search (sendable, crosses) depth 20

pub run_one_with_intake-ended-requires-send-N : goal.run_one_with_intake-ended-requires-send-N
run_one_with_intake-ended-requires-send-N g c = search (sendable, crosses) depth 20

pub run_one_with_intake-ended-requires-send-W : goal.run_one_with_intake-ended-requires-send-W
run_one_with_intake-ended-requires-send-W g c = search (sendable) depth 20
