use Rattle.std.proofs.Common.{refl}
use Rattle.peer_queue.specs.Outbox.{unsettled_in}
use Rattle.peer_queue.proofs.Boxes.{sent_next}
use Rattle.peer_queue.proofs.outbox.Outbox.sent_one.Goals as goal

pub returns : goal.returns
returns c = record {
  unsent = λ note rest is. sent_next (unsettled_in c.args.self.now) c.args.self.now.sent note rest is;
  sent = refl;
  unsettled = refl;
  notes = refl;
  shape = refl;
  settled = refl;
  place = refl;
  works = refl;
}
