-- A front's desk that has what it had is the same.
use mathlib.Core.HLevel.{is_prop→PathP}
use Rattle.std.proofs.Common.{◌≡◌, ◌+◌}
use Rattle.std.proofs.Props.{props}
use Rattle.note_queue.specs.Words.{front_of, sending}
use Rattle.note_queue.specs.declared.sender.Sender.{Sender}
use Rattle.peer_queue.specs.Front.{front_shape}
use Rattle.flusher.specs.Names.{IsTableAt}
use Rattle.flusher.specs.declared.front_desk.FrontDesk.{FrontDesk}
use Rattle.flusher.specs.declared.naming.Naming.{Ghosts}

module _ {N : Type 0} {n : Ghosts N} where
  abbrev Tied : FrontDesk N n → Sender → Type 0
  Tied desk sender = IsTableAt n.names.tables desk.seat.place (sending sender).table_id

  abbrev OnePart : FrontDesk N n → Type 0
  OnePart desk = (desk.taken.parts ≡ 1) × (desk.answered.parts ≡ 1) × (desk.dropped.parts ≡ 1)

  abbrev Counted : FrontDesk N n → Sender → Type 0
  Counted desk sender =
      (desk.taken.amount ≡ (front_shape (front_of sender)).taken)
      × (desk.answered.amount ≡ (front_shape (front_of sender)).answered)
      × (desk.dropped.amount ≡ (front_shape (front_of sender)).dropped)

  abbrev Sum : FrontDesk N n → Type 0
  Sum desk =
      desk.acknowledged.taken
      ≡ desk.acknowledged.owed + desk.acknowledged.answered + desk.acknowledged.dropped

  pub same_desk : (desk : FrontDesk N n) (sender : Sender) (tied : Tied desk sender) (one_part : OnePart desk)
      (counted : Counted desk sender) (sum : Sum desk) → sender ≡ desk.seat.sender
      → ◌≡◌ {A = FrontDesk N n} (record {
        seat = record { place = desk.seat.place; sender = sender; of = desk.seat.of; tied = tied };
        taken = desk.taken;
        answered = desk.answered;
        dropped = desk.dropped;
        acknowledged = desk.acknowledged;
        has_failed = desk.has_failed;
        ahead = desk.ahead;
        one_part = one_part;
        counted = counted;
        sum = sum;
      }) desk
  same_desk desk sender tied one_part counted sum same = λ i. record {
    seat = record {
      place = desk.seat.place;
      sender = same i;
      of = desk.seat.of;
      tied = is_prop→PathP (λ j. Tied desk (same j)) (λ j. hlevel props) tied desk.seat.tied i;
    };
    taken = desk.taken;
    answered = desk.answered;
    dropped = desk.dropped;
    acknowledged = desk.acknowledged;
    has_failed = desk.has_failed;
    ahead = desk.ahead;
    one_part = is_prop→PathP (λ j. OnePart desk) (λ j. hlevel props) one_part desk.one_part i;
    counted = is_prop→PathP (λ j. Counted desk (same j)) (λ j. hlevel props) counted desk.counted i;
    sum = is_prop→PathP (λ j. Sum desk) (λ j. hlevel props) sum desk.sum i;
  }
