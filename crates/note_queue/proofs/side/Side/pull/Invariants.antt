use Rattle.std.proofs.Common.{◌≡◌, None}
use Rattle.note_queue.specs.Calls.{IsNotCalled, TakesMore}
use Rattle.note_queue.specs.Ends.{PutsMore}
use Rattle.note_queue.proofs.side.Side.pull.Given as goal

abbrev pub invariant-loop : goal.invariant-loop
invariant-loop g l =
    TakesMore l.fn.self.pass l.self.pass × IsNotCalled l.fn.self.tape l.self.tape × (l.self.kept ≡ None)
    × PutsMore l.fn.self l.self
