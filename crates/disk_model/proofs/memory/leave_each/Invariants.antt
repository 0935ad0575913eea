use Rattle.std.proofs.Common.{◌≡◌, List, take}
use Rattle.disk_model.specs.Disk.{Event}
use Rattle.disk_model.specs.Choice.{chosen_image, pending}
use Rattle.disk_model.specs.Memory.{logged}
use Rattle.disk_model.proofs.memory.leave_each.Given as goal

abbrev pub invariant-loop-number : goal.invariant-loop-number
invariant-loop-number l =
    (log : List Event) → pending log ≡ 0 → l.fn.image.items ≡ chosen_image l.choice log
    → (l.number ≡ pending (logged log (take l.number l.waiting))) × (l.image.items ≡ chosen_image l.choice (logged log (take l.number l.waiting)))
