use Rattle.std.proofs.Common.{◌≡◌, ◌≤◌, false, take}
use Rattle.std.specs.List.{AllWithin}
use Rattle.disk_model.specs.Memory.{log_of, is_settling, IsSettled}
use Rattle.disk_model.proofs.memory.settled_count.Given as goal

abbrev pub invariant-loop-i : goal.invariant-loop-i
invariant-loop-i l = record { within : l.count ≤ l.i; settled : IsSettled (log_of (take l.count l.history)); rest : AllWithin (λ event. is_settling event ≡ false) l.history l.count l.i }
