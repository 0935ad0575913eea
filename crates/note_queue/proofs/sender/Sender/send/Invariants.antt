use Rattle.note_queue.specs.Noted.{IsOnlySent}
use Rattle.note_queue.specs.Sending.{SendsMore}
use Rattle.note_queue.proofs.sender.Sender.send.Given as goal

abbrev pub invariant-loop : goal.invariant-loop
invariant-loop g l = SendsMore l.fn.self l.self × IsOnlySent l.fn.self.front l.self.front
