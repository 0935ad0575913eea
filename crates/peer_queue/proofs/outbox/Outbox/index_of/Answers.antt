use Rattle.std.proofs.Common.{sym, arith}
use Rattle.peer_queue.proofs.Numbering.{stands_at}
use Rattle.peer_queue.proofs.outbox.Outbox.index_of.Goals as goal

pub returns-then-ordinal-before-clause-none : goal.returns-then-ordinal-before-clause-none
returns-then-ordinal-before-clause-none c = λ at owes fits owed.
    let is = stands_at c.args.self.now c.args.key c.in_ok-ordinal.ordinal at (sym c.in_ok-ordinal.ensures.ordinal) owes
    fits in
    omega (arith, is, c.if-ordinal-before.true)

pub returns-clause-some : goal.returns-clause-some
returns-clause-some c = λ at owes fits.
    let is = stands_at c.args.self.now c.args.key c.in_ok-ordinal.ordinal at (sym c.in_ok-ordinal.ensures.ordinal) owes
    fits in
    omega (arith, is)
