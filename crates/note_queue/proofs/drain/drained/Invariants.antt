use Rattle.std.proofs.Common.{◌≡◌, ◌++◌, ◌≤◌, length, true}
use Rattle.std.specs.Vec.{vec_capacity}
use Rattle.crossbeam_queue.specs.Passes.{view, IsSamePass, IsPassOf, ruled_capacity}
use Rattle.note_queue.proofs.drain.drained.Given as goal

abbrev pub invariant-loop : goal.invariant-loop
invariant-loop g l =
    IsPassOf l.queue l.pass × IsSamePass l.fn.pass l.pass
    × ((view l.pass).pushes ≡ true) × ((view l.pass).pops ≡ true)
    × ((view l.pass).sent ≡ (view l.fn.pass).sent)
    × ((view l.pass).got ≡ (view l.fn.pass).got ++ l.notes.items)
    × (length l.notes.items ≡ l.counter)
    × (ruled_capacity l.queue ≤ vec_capacity l.notes)
