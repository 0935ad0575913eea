use Rattle.std.specs.Prelude.{◌≡◌, length}
use Rattle.flusher.proofs.naming.queues.Given as goal

abbrev pub invariant-loop : goal.invariant-loop
invariant-loop l = length l.queues.items ≡ l.counter
