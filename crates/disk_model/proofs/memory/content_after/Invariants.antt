use Rattle.std.proofs.Common.{◌≡◌, take}
use Rattle.disk_model.specs.Disk.{content}
use Rattle.disk_model.specs.Memory.{log_of}
use Rattle.disk_model.proofs.memory.content_after.Given as goal

abbrev pub invariant-loop-event : goal.invariant-loop-event
invariant-loop-event l = l.octets.items ≡ content (log_of (take l.event-index l.history))
