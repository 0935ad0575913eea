-- What was acknowledged stays acknowledged over each event.
use Rattle.std.proofs.Common.{◌≡◌, ℕ, ◌+◌, Some, List, [], ◌∷◌, refl, sym, ap, ◌∙◌, subst}
use Rattle.std.specs.List.{AllZip, slice_get}
use Rattle.ledger_core.specs.declared.note.Note.TheVariants.{Drop, Final, Owe}
use Rattle.peer_queue.specs.Shed.{dropped}
use Rattle.peer_queue.specs.declared.limits.Owed.{Owed}
use Rattle.peer_queue.specs.declared.limits.Owed.TheVariants.{New, Already}
use Rattle.recovery.specs.Notes.{History}
use Rattle.sections.specs.ListLaws.{zip_put, zip_same, zip_then}
use Rattle.sections.specs.TapeLaws.{tape_flushed, tape_noted, tape_opened, tape_same, tape_then}
use Rattle.sections.specs.Tapes.{TapePast}
use Rattle.world_core.specs.Past.{Past, PeerPast, with_peer}
use Rattle.world_core.specs.Events.{Acknowledges, Claims, Closes, Does, Event, Imports, Opens, OpensIntake, Owes, Parts}
use Rattle.world_core.specs.Events.{Returns, Rotates, Sees, Settles, Sheds, Spills, closing, import_key, imported_as}
use Rattle.world_core.specs.Events.{owed_as, owing_as, settled_as, settling}
use Rattle.peer_queue.specs.declared.settled.Settled.{Settled}
use Rattle.peer_queue.specs.declared.settled.Settled.TheVariants.{Answered, Dropped, Later, Ready}
use Rattle.peer_queue.specs.Settled.{key_in}
use Rattle.world_core.specs.Keeping.{PeerStays, PeersStay}

-- ---- all peers

pub peer_same : (peer : PeerPast) → PeerStays peer peer
peer_same peer = (refl, tape_same peer.tape peer.tape refl)

peer_then : (was mid now : PeerPast) → PeerStays was mid → PeerStays mid now → PeerStays was now
peer_then was mid now first second =
    (second.0 ∙ first.0, tape_then was.tape mid.tape now.tape first.1 second.1)

pub stay_same : (was now : Past) → now.peers ≡ was.peers → PeersStay was now
stay_same was now same = subst (AllZip PeerStays was.peers) (sym same) (zip_same PeerStays peer_same was.peers)

pub stay_then : (was mid now : Past) → PeersStay was mid → PeersStay mid now → PeersStay was now
stay_then was mid now first second =
    zip_then PeerStays PeerStays PeerStays peer_then was.peers mid.peers now.peers first second

pub one_changed : (was now : Past) (rank : ℕ) (peer new : PeerPast) → slice_get was.peers rank ≡ Some peer
    → now ≡ with_peer was rank new
    → PeerStays peer new → PeersStay was now
one_changed was now rank peer new here changed stays =
    subst (λ (p : Past). PeersStay was p) (sym changed)
    (zip_put PeerStays peer_same was.peers rank peer new here stays)

-- ---- each event

owing_stays : (owed : Owed) (number : ℕ) (token id : List ℕ) (peer : PeerPast)
    → PeerStays peer (owing_as owed number token id peer)
owing_stays New number token id peer =
    (refl, tape_noted peer.tape (owing_as New number token id peer).tape (Owe number token id ∷ []) refl)
owing_stays Already number token id peer = peer_same peer

settled_stays : (settled : Settled) (number : ℕ) (peer : PeerPast) → PeerStays peer (settled_as settled number peer)
settled_stays (Answered code) number peer =
    (refl, tape_noted peer.tape (settled_as (Answered code) number peer).tape (Final number code ∷ []) refl)
settled_stays (Dropped cause) number peer =
    (refl, tape_noted peer.tape (settled_as (Dropped cause) number peer).tape (Drop number cause ∷ []) refl)
settled_stays (Later moment) number peer = (refl, tape_same peer.tape peer.tape refl)
settled_stays Ready number peer = (refl, tape_same peer.tape peer.tape refl)

history_of : (was now : TapePast) → was ≡ now → was.history ≡ now.history
history_of was now same = ap (λ (t : TapePast). t.history) same

pub event_stays : (event : Event) (was now : Past) → Does event was now → PeersStay was now
event_stays (Owes rank token id) was now does =
    one_changed was now rank does.peer _ does.here does.changed
    (owing_stays (owed_as (was.last + 1) does.peer) (was.last + 1) token id does.peer)
event_stays (Imports rank number token id) was now does =
    one_changed was now rank does.peer _ does.here does.changed
    (owing_stays (imported_as number does.peer) (import_key number does.peer) token id does.peer)
event_stays (Closes rank) was now does =
    one_changed was now rank does.peer _ does.here does.changed
    (refl, tape_noted does.peer.tape _ (closing does.peer ∷ []) refl)
event_stays (Spills rank) was now does =
    one_changed was now rank does.peer _ does.here does.changed
    (refl, tape_flushed does.peer.tape does.tape (history_of _ _ does.flushes.all))
event_stays (Parts rank) was now does =
    one_changed was now rank does.peer _ does.here does.changed
    (refl, tape_flushed does.peer.tape does.tape (history_of _ _ does.flushes.all))
event_stays (Rotates rank generation) was now does =
    one_changed was now rank does.peer _ does.here does.changed
    (refl, tape_flushed does.peer.tape does.tape (history_of _ _ does.rotates.all))
event_stays (Sheds rank numbers) was now does =
    one_changed was now rank does.peer _ does.here does.changed
    (refl, tape_noted does.peer.tape _ (dropped numbers) refl)
event_stays (Claims rank id moment) was now does =
    one_changed was now rank does.peer _ does.here does.changed
    (refl, tape_same does.peer.tape does.tape (history_of _ _ does.reads.all))
event_stays (Returns rank id number) was now does =
    one_changed was now rank does.peer _ does.here does.changed (refl, tape_same does.peer.tape does.peer.tape refl)
event_stays (Settles rank id moment outcome) was now does =
    one_changed was now rank does.peer _ does.here does.changed
    (settled_stays (settling does.peer moment outcome) (key_in outcome) does.peer)
event_stays (Sees number) was now does = stay_same was now (ap (λ (p : Past). p.peers) does.changed)
event_stays Acknowledges was now does = stay_same was now (ap (λ (p : Past). p.peers) does.changed)
event_stays (Opens rank) was now does =
    one_changed was now rank does.peer _ does.here does.changed
    (refl, tape_opened does.peer.tape does.tape does.opens.count does.opens.enough (history_of _ _ does.opens.all))
event_stays OpensIntake was now does = stay_same was now (ap (λ (p : Past). p.peers) does.changed)
