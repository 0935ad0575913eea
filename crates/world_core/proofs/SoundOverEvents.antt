-- What holds of all tapes of each world that steps have made is kept by each event.
use Rattle.std.proofs.Common.{◌≡◌, ℕ, ◌^◌, ◌<◌, ◌≤◌, true, false, Some, List, [], ◌∷◌, length, map, refl, sym, ap}
use Rattle.std.proofs.Common.{◌∙◌, subst, arith}
use Rattle.std.specs.List.{AllByRecursion, slice_get}
use Rattle.disk_model.specs.declared.Disk.{Ghosts}
use Rattle.ledger_core.specs.State.{State}
use Rattle.ledger_core.specs.StateLaws.{after-append}
use Rattle.ledger_core.specs.declared.note.Note.TheVariants.{Owe, Seen}
use Rattle.peer_queue.specs.declared.limits.Owed.{Owed}
use Rattle.peer_queue.specs.declared.limits.Owed.TheVariants.{New, Already}
use Rattle.recovery.specs.Image.{EachTape, Log, Survives}
use Rattle.recovery.specs.Leaving.{EachLedger, pending_notes}
use Rattle.recovery.specs.LeavingLaws.{prefix_of_survives}
use Rattle.recovery.specs.Notes.{History, flushed}
use Rattle.recovery.specs.declared.tape.Tape.{Tape}
use Rattle.sections.specs.ListLaws.{all_at, all_set}
use Rattle.sections.specs.Tapes.{TapePast, mark_at, IsAbove}
use Rattle.world_core.specs.Past.{Past, PeerPast, with_intake, with_last, with_peer, with_tape}
use Rattle.world_core.specs.Safe.{HasAcknowledged, IsSafe, KeepsNotes}
use Rattle.world_core.specs.Events.{closing, owing_as, parted}
use Rattle.world_core.specs.Tapes.{noted_at}
use Rattle.world_core.specs.Steps.{IsSealable, begun_at}
use Rattle.world_core.specs.Sound.{HasParted, IsSound, NamesRise, names_of}
use Rattle.world_core.specs.Stands.{PeerStands, Stands, TapeStands}
use Rattle.world_core.specs.declared.stations.Stations.{Stations}
use Rattle.world_core.proofs.MarksAndNotes.{above_flushed, above_noted, keeps_lines, map_set}
use Rattle.peer_queue.specs.Words.{tape_of}
use Rattle.world_core.proofs.RelatedLists.{zip_first}

-- the names stay if the peer's settings do
pub names_set : (past : Past) (rank : ℕ) (was now : PeerPast) → NamesRise (names_of past.peers)
    → slice_get past.peers rank ≡ Some was
    → now.conf ≡ was.conf → NamesRise (names_of (with_peer past rank now).peers)
names_set past rank was now rise here same =
    subst NamesRise (sym (map_set (λ (peer : PeerPast). peer.conf.name) past.peers rank was now here
    (ap (λ conf. conf.name) same))) rise

-- ---- a line

has_owed : (mark number : ℕ) (token id : List ℕ) (peer : PeerPast) (owed : Owed)
    → peer.tape.history.kept ≤ length peer.tape.history.notes
    → mark < number → HasAcknowledged mark peer → HasAcknowledged mark (owing_as owed number token id peer)
has_owed mark number token id peer New within above has =
    above_noted mark peer.tape.history (Owe number token id) within has above
has_owed mark number token id peer Already within above has = has

pub owed_parted : (number : ℕ) (token id : List ℕ) (peer : PeerPast) (owed : Owed)
    → (owing_as owed number token id peer).parted ≡ peer.parted
owed_parted number token id peer New = refl
owed_parted number token id peer Already = refl

pub owed_conf : (number : ℕ) (token id : List ℕ) (peer : PeerPast) (owed : Owed)
    → (owing_as owed number token id peer).conf ≡ peer.conf
owed_conf number token id peer New = refl
owed_conf number token id peer Already = refl

-- A peer becomes another. If none of its pending notes was made by a line up to a mark, none of the other's was.
pub sound_kept : (past : Past) (rank : ℕ) (peer now : PeerPast) → IsSound past → slice_get past.peers rank ≡ Some peer
    → now.conf ≡ peer.conf → now.parted ≡ peer.parted
    → ((mark : ℕ) → mark ≤ past.last → HasAcknowledged mark peer → HasAcknowledged mark now)
    → IsSound (with_peer past rank now)
sound_kept past rank peer now sound here conf parts has = record {
  names = names_set past rank peer now sound.names here conf;
  fits = sound.fits;
  marked = sound.marked;
  acknowledged = all_set (HasAcknowledged (mark_at past.intake)) past.peers rank now sound.acknowledged
      (has (mark_at past.intake) sound.marked
      (all_at (HasAcknowledged (mark_at past.intake)) past.peers rank peer sound.acknowledged here));
  kept = sound.kept;
  parted = λ number is.
      all_set (HasParted number) past.peers rank now (sound.parted number is)
      (λ e. has number (sound.kept number is)
      (all_at (HasParted number) past.peers rank peer (sound.parted number is) here (sym parts ∙ e)));
}

-- a line under a key above the numbers of all lines
pub sound_owed : (past : Past) (rank : ℕ) (peer : PeerPast) (key : ℕ) (token id : List ℕ) (owed : Owed) → IsSound past
    → slice_get past.peers rank ≡ Some peer → peer.tape.history.kept ≤ length peer.tape.history.notes
    → past.last < key → IsSound (with_peer past rank (owing_as owed key token id peer))
sound_owed past rank peer key token id owed sound here within above =
    sound_kept past rank peer _ sound here (owed_conf key token id peer owed) (owed_parted key token id peer owed)
    (λ mark below has. has_owed mark key token id peer owed within (omega (arith, below, above)) has)

-- the close of a source
pub sound_closed : (past : Past) (rank : ℕ) (peer : PeerPast) → IsSound past → slice_get past.peers rank ≡ Some peer
    → peer.tape.history.kept ≤ length peer.tape.history.notes
    → IsSound (with_peer past rank (with_tape peer (noted_at peer.tape (closing peer))))
sound_closed past rank peer sound here within =
    sound_kept past rank peer _ sound here refl refl
    (λ mark below has. above_noted mark peer.tape.history (closing peer) within has tt)

-- ---- a peer with no more pending notes than before, or with none

-- none pends after a flush
flushed_has : (mark : ℕ) (peer : PeerPast) (tape : TapePast) → tape.history ≡ flushed peer.tape.history
    → AllByRecursion (IsAbove mark) (pending_notes tape.history)
flushed_has mark peer tape is = subst (λ (h : History). AllByRecursion (IsAbove mark) (pending_notes h)) (sym is)
    (above_flushed mark peer.tape.history)

pub sound_flushed : (past : Past) (rank : ℕ) (peer : PeerPast) (tape : TapePast) → IsSound past
    → slice_get past.peers rank ≡ Some peer
    → tape.history ≡ flushed peer.tape.history → IsSound (with_peer past rank (parted peer tape))
sound_flushed past rank peer tape sound here is = record {
  names = names_set past rank peer _ sound.names here refl;
  fits = sound.fits;
  marked = sound.marked;
  acknowledged = all_set (HasAcknowledged (mark_at past.intake)) past.peers rank _ sound.acknowledged
      (flushed_has (mark_at past.intake) peer tape is);
  kept = sound.kept;
  parted = λ number e. all_set (HasParted number) past.peers rank _ (sound.parted number e)
      (λ _. flushed_has number peer tape is);
}

-- a flush during an import
pub sound_spilled : (past : Past) (rank : ℕ) (peer : PeerPast) (tape : TapePast) → IsSound past
    → slice_get past.peers rank ≡ Some peer
    → tape.history ≡ flushed peer.tape.history → IsSound (with_peer past rank (with_tape peer tape))
sound_spilled past rank peer tape sound here is =
    sound_kept past rank peer _ sound here refl refl (λ mark below has. flushed_has mark peer tape is)

pub sound_same : (past : Past) (rank : ℕ) (peer : PeerPast) (tape : TapePast) → IsSound past
    → slice_get past.peers rank ≡ Some peer
    → tape.history ≡ peer.tape.history → IsSound (with_peer past rank (with_tape peer tape))
sound_same past rank peer tape sound here same =
    sound_kept past rank peer _ sound here refl refl
    (λ mark below has. subst (λ (h : History). AllByRecursion (IsAbove mark) (pending_notes h)) (sym same) has)

-- ---- the intake

pub sound_intake : (past : Past) (tape : TapePast) → IsSound past → mark_at tape ≡ mark_at past.intake
    → IsSound (with_intake past tape)
sound_intake past tape sound mark = record {
  names = sound.names;
  fits = sound.fits;
  marked = omega (arith, mark, sound.marked);
  acknowledged = subst (λ (m : ℕ). AllByRecursion (HasAcknowledged m) past.peers) (sym mark) sound.acknowledged;
  kept = sound.kept;
  parted = sound.parted;
}

all_parted : (number : ℕ) (peers : List PeerPast) → AllByRecursion (λ (peer : PeerPast). peer.parted ≡ true) peers
    → AllByRecursion (HasParted number) peers → AllByRecursion (HasAcknowledged number) peers
all_parted number [] parted has = tt
all_parted number (peer ∷ peers) parted has = (has.0 parted.0, all_parted number peers parted.1 has.1)

seen_mark : (number : ℕ) (tape : TapePast) → mark_at (noted_at tape (Seen number)) ≡ number
seen_mark number tape = ap (λ (state : State). state.mark)
    (after-append tape.history.base tape.history.notes (Seen number ∷ []))

-- The mark of the intake rises to a kept number, since which each peer was flushed.
pub sound_noted : (past : Past) (number : ℕ) → IsSound past → IsSealable past number
    → IsSound (with_intake past (noted_at past.intake (Seen number)))
sound_noted past number sound sealable =
    let mark = seen_mark number past.intake in
    record {
      names = sound.names;
      fits = sound.fits;
      marked = omega (arith, mark, sound.kept number sealable.0);
      acknowledged = subst (λ (m : ℕ). AllByRecursion (HasAcknowledged m) past.peers) (sym mark)
          (all_parted number past.peers sealable.1 (sound.parted number sealable.0));
      kept = sound.kept;
      parted = sound.parted;
    }

-- ---- numbers

pub sound_last : (past : Past) (number : ℕ) → IsSound past → past.last ≤ number → number < 2 ^ 64
    → IsSound (with_last past number)
sound_last past number sound above fits = record {
  names = sound.names;
  fits = fits;
  marked = omega (arith, sound.marked, above);
  acknowledged = sound.acknowledged;
  kept = λ n is. omega (arith, sound.kept n is, above);
  parted = sound.parted;
}

pub all_begun : (mark : ℕ) (peers : List PeerPast) → AllByRecursion (HasAcknowledged mark) peers
    → AllByRecursion (HasAcknowledged mark) (map (λ (peer : PeerPast). record peer { parted = false }) peers)
all_begun mark [] has = tt
all_begun mark (peer ∷ peers) has = (has.0, all_begun mark peers has.1)

none_parted : (number : ℕ) (peers : List PeerPast)
    → AllByRecursion (HasParted number) (map (λ (peer : PeerPast). record peer { parted = false }) peers)
none_parted number [] = tt
none_parted number (peer ∷ peers) = ((λ e. cc), none_parted number peers)

pub names_begun : (peers : List PeerPast)
    → names_of (map (λ (peer : PeerPast). record peer { parted = false }) peers) ≡ names_of peers
names_begun [] = refl
names_begun (peer ∷ peers) = ap (λ names. peer.conf.name ∷ names) (names_begun peers)

pub sound_begun : (past : Past) → IsSound past → IsSound (begun_at past)
sound_begun past sound = record {
  names = subst NamesRise (sym (names_begun past.peers)) sound.names;
  fits = sound.fits;
  marked = sound.marked;
  acknowledged = all_begun (mark_at past.intake) past.peers sound.acknowledged;
  kept = λ number is. let same : past.last ≡ number = cc in omega (arith, same);
  parted = λ number is. none_parted number past.peers;
}

-- ---- each world that stands for what it has been through is safe

module _ {D : Type 0} {g : Ghosts D} where
  each_survives : (past : TapePast) (tape : Tape D g) → TapeStands past tape → EachTape (Survives past.history) past.log
  each_survives past tape stands =
      subst (λ (log : Log). EachTape (Survives past.history) log) stands.log stands.stands.images

  pub each_prefix : (past : PeerPast) (tape : Tape D g) → TapeStands past.tape tape
      → EachLedger (KeepsNotes past) past.tape.log
  each_prefix past tape stands = λ one other is is'.
      prefix_of_survives past.tape.history (one, other) (each_survives past.tape tape stands one other is is')

  pub safe_of : (stations : Stations D g) (past : Past) → Stands stations past → IsSafe past
  safe_of stations past stands = record {
    peers = zip_first PeerStands (λ (peer : PeerPast). EachLedger (KeepsNotes peer) peer.tape.log)
        (λ past peer is. each_prefix past (tape_of peer.station) is.tape) past.peers stations.peers.items stands.peers;
    intake = λ one other is is'.
        keeps_lines past.intake.history past.peers (one, other) stands.intake.stands.are_legal stands.sound.acknowledged
        (each_survives past.intake stations.intake stands.intake one other is is');
  }
