use denote.Param.Send.{sendable}
use Rattle.std.proofs.Crossing.{crosses}
use Rattle.flusher.proofs.Crosses.{Post-sync, Signals-sync}
use Rattle.flusher.proofs.threads.fn.run_threads.scope.Goals as goal

pub spawn-requires-send-F : goal.spawn-requires-send-F
spawn-requires-send-F g c κs within = search (Post-sync, Signals-sync, sendable) depth 20

pub run_with_intake-ended-requires-send-D : goal.run_with_intake-ended-requires-send-D
run_with_intake-ended-requires-send-D g c κs within = search (sendable, crosses) depth 20

pub run_with_intake-ended-requires-send-N : goal.run_with_intake-ended-requires-send-N
run_with_intake-ended-requires-send-N g c = search (sendable, crosses) depth 20

pub run_with_intake-ended-requires-send-W : goal.run_with_intake-ended-requires-send-W
run_with_intake-ended-requires-send-W g c = search (sendable) depth 20
