use Rattle.std.proofs.Common.{◌≡◌, ◌≤◌, length}
use Rattle.flusher.specs.Ahead.{most_ahead}
use Rattle.flusher.proofs.Ahead.{IsLeftOf}
use Rattle.flusher.proofs.read_ahead.ReadAhead.take.Given as goal

abbrev pub decreases-loop-first : goal.decreases-loop-first
decreases-loop-first l = length l.self.debts.items

abbrev pub invariant-loop-first : goal.invariant-loop-first
invariant-loop-first l = record {
  left : IsLeftOf l.key l.fn.self.debts.items l.self.debts.items;
  few : length l.self.debts.items ≤ most_ahead;
  end : l.self.end ≡ l.fn.self.end;
}
