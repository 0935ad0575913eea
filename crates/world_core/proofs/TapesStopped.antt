-- What stands for tapes that have stopped.
use Rattle.std.proofs.Common.{◌≡◌, ℕ, ◌≤◌, None, List, [], ◌∷◌, ◌++◌, length, append_assoc, append-nil, arith, map}
use Rattle.std.proofs.Common.{refl, sym, ap, ◌∙◌, subst}
use Rattle.std.specs.List.{AllByRecursion, AllZip}
use Rattle.disk_model.specs.declared.Disk.{Ghosts}
use Rattle.disk_model.specs.declared.choice.Choice.{Choice}
use Rattle.ledger_core.specs.State.{State}
use Rattle.recovery.specs.Image.{Log}
use Rattle.recovery.specs.Leaving.{EachLedger, HasLedger, left_by}
use Rattle.recovery.specs.LeavingLaws.{EachLedger-weaker, left_leaves}
use Rattle.recovery.specs.Notes.{History}
use Rattle.recovery.specs.Words.{log_of, faults_of}
use Rattle.sections.specs.Tapes.{TapePast, mark_at}
use Rattle.world_core.specs.Past.{Past, PeerPast}
use Rattle.world_core.specs.Safe.{HasAcknowledged, IsSafe, KeepsLines, KeepsNotes}
use Rattle.world_core.specs.Halts.{AtRest, ByChoice, Manner, left, left_peer, left_tape}
use Rattle.world_core.specs.Halting.{AreLeftBy, HaltsAs, IsLeftOf, TapesStop, with_disks}
use Rattle.world_core.specs.Sound.{IsSound, NamesRise, names_of}
use Rattle.world_core.specs.Stands.{DisksStand, PeerStands, Stands, StoppedStands}
use Rattle.world_core.specs.StopDisk.{all_faults, happened}
use Rattle.world_core.specs.declared.peer.Peer.{Peer}
use Rattle.world_core.specs.declared.peer.StoppedPeer.{StoppedPeer}
use Rattle.world_core.specs.declared.stations.Stations.{Stations}
use Rattle.world_core.specs.declared.stop.StopDisk.{StopDisk}
use Rattle.world_core.proofs.SoundOverEvents.{each_prefix, safe_of}
use Rattle.world_core.proofs.RelatedLists.{zip_push, zip_through, zip_first}
use Rattle.peer_queue.specs.Words.{tape_of}

-- ---- what a stop leaves is sound

has_left : (manner : Manner) (mark : ℕ) (peer : PeerPast) → HasAcknowledged mark peer
    → HasAcknowledged mark (left_peer manner peer)
has_left AtRest mark peer has = has
has_left (ByChoice choice) mark peer has = has

pub all_left : (manner : Manner) (mark : ℕ) (peers : List PeerPast) → AllByRecursion (HasAcknowledged mark) peers
    → AllByRecursion (HasAcknowledged mark) (map (left_peer manner) peers)
all_left manner mark [] has = tt
all_left manner mark (peer ∷ peers) has = (has_left manner mark peer has.0, all_left manner mark peers has.1)

pub names_left : (manner : Manner) (peers : List PeerPast) → names_of (map (left_peer manner) peers) ≡ names_of peers
names_left manner [] = refl
names_left manner (peer ∷ peers) = ap (λ names. peer.conf.name ∷ names) (names_left manner peers)

mark_left : (manner : Manner) (tape : TapePast) → mark_at (left_tape manner tape) ≡ mark_at tape
mark_left AtRest tape = refl
mark_left (ByChoice choice) tape = refl

pub left_sound : (manner : Manner) (past : Past) → IsSound past → IsSound (left manner past)
left_sound manner past sound = record {
  names = subst NamesRise (sym (names_left manner past.peers)) sound.names;
  fits = sound.fits;
  marked = subst (λ (m : ℕ). m ≤ past.last) (sym (mark_left manner past.intake)) sound.marked;
  acknowledged = subst (λ (m : ℕ). AllByRecursion (HasAcknowledged m) (map (left_peer manner) past.peers))
      (sym (mark_left manner past.intake))
      (all_left manner (mark_at past.intake) past.peers sound.acknowledged);
  kept = λ number is. absurd cc;
  parted = λ number is. absurd cc;
}

-- what the intake's ledger says of the peers, it says of them once they have stopped
pub lines_left : (manner : Manner) (h : History) (peers : List PeerPast) (state : State) → KeepsLines h peers state
    → KeepsLines h (map (left_peer manner) peers) state
lines_left manner h peers state keeps =
    record { prefix = keeps.prefix; lines = all_left manner state.mark peers keeps.lines }

-- ---- at rest

module _ {D : Type 0} {g : Ghosts D} where
  -- one more has stopped
  pub halts_more : (peers : List (Peer D g)) (room now : List StoppedPeer) (peer : Peer D g) (stopped : StoppedPeer)
      → now ≡ room ++ stopped ∷ []
      → AllZip HaltsAs peers room → HaltsAs peer stopped → AllZip HaltsAs (peers ++ peer ∷ []) now
  halts_more peers room now peer stopped is all one =
      subst (λ (l : List StoppedPeer). AllZip HaltsAs (peers ++ peer ∷ []) l) (sym is)
      (zip_push HaltsAs peers room peer stopped all one)

  pub halts_all : (peers yielded : List (Peer D g)) (room : List StoppedPeer) → yielded ≡ peers
      → AllZip HaltsAs yielded room
      → (pasts : List PeerPast) → AllZip PeerStands pasts peers
      → AllZip StoppedStands (map (left_peer AtRest) pasts) room
  halts_all peers yielded room is all pasts stands =
      zip_through PeerStands HaltsAs StoppedStands (left_peer AtRest)
      (λ past peer stopped stand halts. halts past stand) pasts peers room stands
      (subst (λ (l : List (Peer D g)). AllZip HaltsAs l room) is all)

  pub peer_halted : (past : PeerPast) (peer : Peer D g) (stopped : StoppedPeer) → PeerStands past peer
      → stopped.conf ≡ peer.conf
      → (happened stopped.disks.0, happened stopped.disks.1) ≡ log_of (tape_of peer.station)
      → (all_faults stopped.disks.0, all_faults stopped.disks.1) ≡ faults_of (tape_of peer.station)
      → StoppedStands (left_peer AtRest past) stopped
  peer_halted past peer stopped stands conf log faults_are = record {
    conf = conf ∙ stands.conf;
    disks = record {
      log = log ∙ stands.tape.log;
      faults = faults_are ∙ stands.tape.faults;
      works = refl;
      legal = stands.tape.stands.are_legal;
      images = each_prefix past (tape_of peer.station) stands.tape;
    };
  }

  pub tapes_halted : (past : Past) (stations : Stations D g) (peers : List StoppedPeer) (disks : StopDisk × StopDisk)
      → Stands stations past
      → AllZip StoppedStands (map (left_peer AtRest) past.peers) peers
      → (happened disks.0, happened disks.1) ≡ log_of stations.intake
      → (all_faults disks.0, all_faults disks.1) ≡ faults_of stations.intake → TapesStop (left AtRest past) peers disks
  tapes_halted past stations peers disks stands all log faults_are = record {
    peers = all;
    intake = record {
      log = log ∙ stands.intake.log;
      faults = faults_are ∙ stands.intake.faults;
      works = refl;
      legal = stands.intake.stands.are_legal;
      images = EachLedger-weaker (KeepsLines past.intake.history past.peers)
          (KeepsLines past.intake.history (map (left_peer AtRest) past.peers))
          (lines_left AtRest past.intake.history past.peers) past.intake.log (safe_of stations past stands).intake;
    };
    begun = refl;
    sound = left_sound AtRest past stands.sound;
  }

-- ---- by a choice

disks_left : (P : State → Type 0) (choice : Choice) (past : TapePast) (old new : StopDisk × StopDisk)
    → DisksStand P past old
    → AreLeftBy choice old new → DisksStand P (left_tape (ByChoice choice) past) new
disks_left P choice past old new stands is = record {
  log = is.log ∙ ap (left_by choice) stands.log;
  faults = let one = is.faults.0 in let other = is.faults.1 in cc;
  works = refl;
  legal = stands.legal;
  images = subst (λ (log : Log). EachLedger P (left_by choice log)) stands.log
      (left_leaves (HasLedger P) choice (happened old.0, happened old.1) is.first is.second
      (subst (λ (log : Log). EachLedger P log) (sym stands.log) stands.images));
}

pub peers_left : (choice : Choice) (pasts : List PeerPast) (peers : List StoppedPeer)
    (disks : List (StopDisk × StopDisk))
    → AllZip StoppedStands pasts peers → AllZip (IsLeftOf choice) peers disks
    → AllZip StoppedStands (map (left_peer (ByChoice choice)) pasts) (with_disks peers disks)
peers_left choice [] [] disks all is = tt
peers_left choice [] (peer ∷ peers) disks all is = absurd all
peers_left choice (past ∷ pasts) [] disks all is = absurd all
peers_left choice (past ∷ pasts) (peer ∷ peers) [] all is = absurd is
peers_left choice (past ∷ pasts) (peer ∷ peers) (pair ∷ disks) all is = (
  record { conf = all.0.conf; disks = disks_left (KeepsNotes past) choice past.tape peer.disks pair all.0.disks is.0 },
  peers_left choice pasts peers disks all.1 is.1,
)

pub tapes_left : (choice : Choice) (past : Past) (peers : List StoppedPeer) (disks : List (StopDisk × StopDisk))
    (old new : StopDisk × StopDisk)
    → TapesStop past peers old → AllZip (IsLeftOf choice) peers disks → AreLeftBy choice old new
    → TapesStop (left (ByChoice choice) past) (with_disks peers disks) new
tapes_left choice past peers disks old new stands each is =
    let here = disks_left (KeepsLines past.intake.history past.peers) choice past.intake old new stands.intake is in
    record {
      peers = peers_left choice past.peers peers disks stands.peers each;
      intake = record {
        log = here.log;
        faults = here.faults;
        works = here.works;
        legal = here.legal;
        images = EachLedger-weaker (KeepsLines past.intake.history past.peers)
            (KeepsLines past.intake.history (map (left_peer (ByChoice choice)) past.peers))
            (lines_left (ByChoice choice) past.intake.history past.peers) (left_by choice past.intake.log) here.images;
      };
      begun = refl;
      sound = left_sound (ByChoice choice) past stands.sound;
    }

-- for a stop by a choice, it makes no difference whether the peers had stopped at rest before
map_stopped : (choice : Choice) (peers : List PeerPast)
    → map (left_peer (ByChoice choice)) (map (left_peer AtRest) peers) ≡ map (left_peer (ByChoice choice)) peers
map_stopped choice [] = refl
map_stopped choice (peer ∷ peers) = ap (λ ps. left_peer (ByChoice choice) peer ∷ ps) (map_stopped choice peers)

pub left_again : (choice : Choice) (past : Past)
    → left (ByChoice choice) (left AtRest past) ≡ left (ByChoice choice) past
left_again choice past = ap (λ peers. record {
  peers = peers;
  intake = left_tape (ByChoice choice) past.intake;
  last = past.last;
  begun = None;
}) (map_stopped choice past.peers)

-- ---- what has stopped is safe

safe_each : (pasts : List PeerPast) (peers : List StoppedPeer) → AllZip StoppedStands pasts peers
    → AllByRecursion (λ (peer : PeerPast). EachLedger (KeepsNotes peer) peer.tape.log) pasts
safe_each pasts peers all =
    zip_first StoppedStands (λ (peer : PeerPast). EachLedger (KeepsNotes peer) peer.tape.log)
    (λ past peer is. is.disks.images) pasts peers all

pub safe_stopped : (past : Past) (peers : List StoppedPeer) (intake : StopDisk × StopDisk)
    → AllZip StoppedStands past.peers peers
    → DisksStand (KeepsLines past.intake.history past.peers) past.intake intake → IsSafe past
safe_stopped past peers intake all disks = record { peers = safe_each past.peers peers all; intake = disks.images }

-- ---- lists of disks

none_of : {A : Type 0} (xs : List A) → length xs ≡ 0 → xs ≡ []
none_of [] none = refl
none_of (x ∷ xs) none = absurd (omega (arith, none))

-- the next peer has the next disks
pub next_disks : (peers left : List StoppedPeer) (disks behind : List (StopDisk × StopDisk)) (peer : StoppedPeer)
    (pair : StopDisk × StopDisk) (done now all : List StoppedPeer)
    → all ≡ done ++ with_disks peers disks → peers ≡ peer ∷ left → disks ≡ pair ∷ behind
    → now ≡ done ++ record { conf = peer.conf; disks = pair } ∷ []
    → all ≡ now ++ with_disks left behind
next_disks peers left disks behind peer pair done now all so_far first next is =
    so_far ∙ ap (λ ps. done ++ with_disks ps disks) first ∙ ap (λ ds. done ++ with_disks (peer ∷ left) ds) next
    ∙ sym (append_assoc done (record { conf = peer.conf; disks = pair } ∷ []) (with_disks left behind))
    ∙ ap (λ l. l ++ with_disks left behind) (sym is)

-- and if no disks are left, its own
pub no_disks : (peers left : List StoppedPeer) (disks behind : List (StopDisk × StopDisk)) (peer : StoppedPeer)
    (done now all : List StoppedPeer)
    → all ≡ done ++ with_disks peers disks → peers ≡ peer ∷ left → disks ≡ behind → length disks ≡ 0
    → now ≡ done ++ peer ∷ []
    → all ≡ now ++ with_disks left behind
no_disks peers left disks behind peer done now all so_far first same none is =
    let empty = none_of disks none in
    so_far ∙ ap (λ ps. done ++ with_disks ps disks) first ∙ ap (λ ds. done ++ with_disks (peer ∷ left) ds) empty
    ∙ sym (append_assoc done (peer ∷ []) (with_disks left [])) ∙ ap (λ l. l ++ with_disks left []) (sym is)
    ∙ ap (λ ds. now ++ with_disks left ds) (sym empty ∙ same)

-- no peer is left
pub disks_end : (left : List StoppedPeer) (behind : List (StopDisk × StopDisk)) (done all : List StoppedPeer)
    → all ≡ done ++ with_disks left behind → length left ≡ 0
    → done ≡ all
disks_end left behind done all is none =
    sym (is ∙ ap (λ ps. done ++ with_disks ps behind) (none_of left none) ∙ append-nil done)
