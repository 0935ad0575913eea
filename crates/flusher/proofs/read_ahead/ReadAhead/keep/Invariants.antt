use Rattle.std.specs.Prelude.{◌≡◌, ◌+◌, ◌≤◌, length}
use Rattle.std.specs.VecDeque.{deque_capacity, deque_len}
use Rattle.flusher.specs.Ahead.{kept_with}
use Rattle.flusher.proofs.read_ahead.ReadAhead.keep.Given as goal

abbrev pub invariant-loop-debt : goal.invariant-loop-debt
invariant-loop-debt l = record {
  can_next : goal.iterator-loop-debt.can_next l.debt-iterator;
  finite : goal.iterator-loop-debt.is_finite l.debt-iterator;
  kept : kept_with l.self.debts.items l.debt-iterator.rest.items
      ≡ kept_with l.fn.self.debts.items l.fn.debts.items;
  room : deque_len l.self.debts + length l.debt-iterator.rest.items ≤ deque_capacity l.self.debts;
  end : l.self.end ≡ l.fn.self.end;
}
