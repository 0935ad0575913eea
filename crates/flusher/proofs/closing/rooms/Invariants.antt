use Rattle.std.specs.Prelude.{◌≡◌, length}
use Rattle.flusher.proofs.closing.rooms.Given as goal

abbrev pub invariant-loop : goal.invariant-loop
invariant-loop g l = length l.rooms.items ≡ l.counter
