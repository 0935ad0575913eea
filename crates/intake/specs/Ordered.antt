-- Batches of lines that are not acknowledged yet.
use Rattle.std.specs.Prelude.{ℕ, List, map}
use Rattle.intake.specs.declared.ordered.OrderedBatches.{OrderedBatches}

-- the number of each batch's last line, oldest first
abbrev pub lasts_of : OrderedBatches → List ℕ
lasts_of ordered = map (λ batch. batch.last) ordered.batches.items
