-- What was acknowledged stays acknowledged over any steps, taken or refused.
use Rattle.std.proofs.Common.{◌≡◌, ℕ, false, Some, List, refl}
use Rattle.std.specs.List.{slice_get}
use Rattle.sections.specs.ListLaws.{zip_weaker}
use Rattle.sections.specs.TapeLaws.{tape_noted, tape_same}
use Rattle.sections.specs.Tapes.{TapePast}
use Rattle.world_core.specs.Past.{Past, PeerPast, with_intake, with_last, with_peer, with_tape}
use Rattle.world_core.specs.Events.{AllDo, Event}
use Rattle.world_core.specs.Keeping.{PeerStays, PeersStay}
use Rattle.world_core.specs.Laws.{AllStayAcknowledged, OverRuns}
use Rattle.world_core.proofs.AcknowledgedOverEvents.{event_stays, one_changed, stay_same, stay_then}
use Rattle.world_core.proofs.WalkOverSteps.{comes_all, events_all}
use Rattle.world_core.proofs.WalkOverTapes.{HasSameNotes, HaveSameNotes, Keeper}
use Rattle.world_core.proofs.RelatedLists.{zip_made}

-- ---- another tape with the same notes

at_same : (was now : Past) (rank : ℕ) (peer : PeerPast) (tape : TapePast) → slice_get was.peers rank ≡ Some peer
    → now ≡ with_peer was rank (with_tape peer tape) → tape.history ≡ peer.tape.history → PeersStay was now
at_same was now rank peer tape here changed same =
    one_changed was now rank peer (with_tape peer tape) here changed (refl, tape_same peer.tape tape same)

-- ---- all tapes with the same notes, as after a stop

same_all : (was now : Past) → HaveSameNotes was now → PeersStay was now
same_all was now same =
    zip_weaker HasSameNotes PeerStays (λ one other is. (is.0, tape_same one.tape other.tape is.1)) was.peers now.peers
    same

-- ---- any events and any steps

abbrev lasting : Keeper
lasting = record {
  ON = λ event. Unit {0};
  KEEPS = PeersStay;
  alike = λ past. stay_same past past refl;
  joined = stay_then;
  at_same = at_same;
  at_intake = λ was tape same. stay_same was (with_intake was tape) refl;
  event_does = λ event on. event_stays event;
  keeps_begun = λ past.
      zip_made PeerStays (λ (peer : PeerPast). record peer { parted = false })
      (λ peer. (refl, tape_same peer.tape peer.tape refl)) past.peers;
}

numbered : (was : Past) (number : ℕ) → PeersStay was (with_last was number)
numbered was number = stay_same was (with_last was number) refl

pub events_stay : (begun later : Past) (events : List Event) → AllDo begun events later → PeersStay begun later
events_stay begun later events does = events_all lasting (λ event. tt) begun later events does

pub all_stay : OverRuns AllStayAcknowledged
all_stay = λ begun later steps lines comes. record {
  peers = comes_all lasting (λ was now same. same_all was now same.notes)
      (λ past rank id was now here keeps. one_changed past (with_peer past rank now) rank was now here refl
      (keeps.conf, tape_noted was.tape now.tape keeps.more keeps.notes)) (λ event. tt) numbered begun steps lines later
      comes;
}
