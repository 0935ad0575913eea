-- The two ends of a station that is split, before they lie under their locks.
use Rattle.std.specs.Prelude.{◌≡◌, ℕ, None, [], false}
use Rattle.disk_model.specs.declared.Disk.{Ghosts as DiskGhosts}
use Rattle.crossbeam_queue.specs.Passes.{view}
use Rattle.flusher.specs.ReadAhead.{kept_in}
use Rattle.flusher.specs.declared.front_desk.FrontDesk.{FrontDesk}
use Rattle.flusher.specs.declared.naming.Naming.{Ghosts}
use Rattle.flusher.specs.declared.tape_desk.TapeDesk.{TapeDesk}
use Rattle.ledger_core.specs.Ledger.{totals_of}
use Rattle.note_queue.specs.Relay.{may_pop, may_push}
use Rattle.note_queue.specs.Words.{front_of, kept_of, sending, taking, tape_of}
use Rattle.peer_queue.specs.Front.{IsFrontOf, IsPlaced}
use Rattle.peer_queue.specs.Words.{ledger_of, tape_of as station_tape}
use Rattle.peer_queue.specs.declared.station.Station.{Station}

module _ {D : Type 0} {g : DiskGhosts D} {N : Type 0} {n : Ghosts N} where
  -- Nothing has been done to them since the split, at this place: the front owes what the station did, each debt at the
  -- place that it had; the tape is the station's; and nothing has passed from one to the other.
  pub record IsSplitOf (place : ℕ) (station : Station D g) (front : FrontDesk N n) (tape : TapeDesk D N g n)
      : Type 0 where
    pub places : (front.seat.place ≡ place) × (tape.place ≡ place)
    pub owes : IsFrontOf place station (front_of front.seat.sender)
    pub writes : IsPlaced place (station_tape station) (tape_of tape.side) × (kept_of tape.side ≡ None)
    pub passes : (view (sending front.seat.sender) ≡ may_push (ledger_of station) [])
        × (view (taking tape.side) ≡ may_pop (ledger_of station) [])
    pub reports : (front.has_failed ≡ false) × (front.acknowledged ≡ totals_of (ledger_of station))
    pub ahead : kept_in front.ahead ≡ []
