use Rattle.std.proofs.Common.{arith}
use Rattle.peer_queue.proofs.Numbering.{texts}
use Rattle.peer_queue.proofs.outbox.Outbox.unsettled.Goals as goal

pub returns-in_default : goal.returns-in_default
returns-in_default c = record {
  some = tt;
  none = λ fits owed token id has. c.in_default.ensures.none has.0 (token, id, has.1, has.2) fits owed;
}

pub returns-in-Some-get : goal.returns-in-Some-get
returns-in-Some-get c =
    texts c.args.self.now c.args.key c.in-Some.index c.in-Some-get.note.now c.debt_of.result c.in-Some.ensures.owed
    c.in-Some.ensures.some c.in-Some-get.ensures.item.3.0 c.in-Some-get.ensures.lookup c.debt_of.ensures.some
    c.debt_of.ensures.none

pub returns-in-None : goal.returns-in-None
returns-in-None c = record {
  some = tt;
  none = λ fits owed token id has.
      let is = c.in-Some.ensures.some has.0 (token, id, has.1, has.2) fits in
      omega (arith, is, has.1, c.in-None.ensures.item.3);
}
