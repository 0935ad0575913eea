-- Steps go on from a kill and from a power failure at any moment.
use Rattle.std.proofs.Common.{◌≡◌, false, None, List, [], ◌∷◌, ◌++◌, map, refl}
use Rattle.std.specs.List.{AllZip}
use Rattle.disk_model.specs.Disk.Event.{Made}
use Rattle.recovery.specs.Image.{Log, Octets}
use Rattle.sections.specs.Sections.{IsStopped, Lost_power, Was_killed, WasLeft}
use Rattle.sections.specs.Tapes.{TapePast}
use Rattle.world_core.specs.Past.{Life, Past, PeerPast}
use Rattle.world_core.specs.CrashLaws.{AllHoldJust, AnyKillComesAbout, AnyPowerFailureComesAbout, AreImages, HoldJust}
use Rattle.world_core.specs.CrashLaws.{HaveSameDisks, MakesSome}
use Rattle.world_core.specs.Crashes.{AreStopped, IsMoment, IsStoppedPeer}
use Rattle.world_core.specs.Halts.{stopped_at}
use Rattle.world_core.specs.Laws.{Comes}
use Rattle.world_core.specs.Laws.Comes.{Crashed}
use Rattle.world_core.specs.Output.{View}
use Rattle.world_core.specs.declared.step.Step.{Step}
use Rattle.world_core.proofs.RelatedLists.{zip_made}

-- a tape of whose disks this is left
abbrev tape_with : TapePast → Log → TapePast
tape_with tape log = record { history = tape.history; log = log; faults = (0, 0); broken = false }

abbrev peer_with : PeerPast → Log → PeerPast
peer_with peer log = record { conf = peer.conf; tape = tape_with peer.tape log; places = []; parted = false }

abbrev past_with : Past → List PeerPast → Log → Past
past_with past peers log =
    record { peers = peers; intake = tape_with past.intake log; last = past.last; begun = None }

stopped_tape : (tape : TapePast) (log : Log) → WasLeft tape.log log → IsStopped tape (tape_with tape log)
stopped_tape tape log left = record { left = left; all = refl }

stopped_peer : (peer : PeerPast) (log : Log) → WasLeft peer.tape.log log → IsStoppedPeer peer (peer_with peer log)
stopped_peer peer log left = record { tape = stopped_tape peer.tape log left; all = refl }

all_stopped : (past : Past) (peers : List PeerPast) (log : Log) → AllZip IsStoppedPeer past.peers peers
    → WasLeft past.intake.log log → AreStopped past (past_with past peers log)
all_stopped past peers log each left =
    record { peers = each; intake = stopped_tape past.intake log left; all = refl }

-- steps go on from what is left
goes_on : (begun life : Life) (steps cut : List Step) (lines : List (List View)) (under_way past : Past)
    (P : Past → Type 0)
    → Comes begun steps lines life → IsMoment life cut under_way → AreStopped under_way past → P past
    → MakesSome begun (steps ++ cut) lines P
goes_on begun life steps cut lines under_way past P comes moment stopped has = record {
  later = stopped_at past life;
  comes = Crashed steps cut lines life (stopped_at past life) comes
      (record { under_way = under_way; moment = moment; past = past; stopped = stopped; changed = refl });
  has = has;
}

-- ---- a kill

killed : (log : Log) → WasLeft log log
killed log = record { first = Was_killed; second = Was_killed }

abbrev kill : PeerPast → PeerPast
kill peer = peer_with peer peer.tape.log

pub any_kill : AnyKillComesAbout
any_kill = λ begun life steps cut lines under_way comes moment.
    let past = past_with under_way (map kill under_way.peers) under_way.intake.log in
    goes_on begun life steps cut lines under_way past (HaveSameDisks under_way) comes moment
    (all_stopped under_way (map kill under_way.peers) under_way.intake.log
    (zip_made IsStoppedPeer kill (λ peer. stopped_peer peer peer.tape.log (killed peer.tape.log)) under_way.peers)
    (killed under_way.intake.log)) (record {
      peers = zip_made (λ (old new : PeerPast). new.tape.log ≡ old.tape.log) kill (λ peer. refl) under_way.peers;
      intake = refl;
    })

-- ---- a power failure

abbrev just : Octets → Log
just octets = (Made octets.0 ∷ [], Made octets.1 ∷ [])

powerless : (log : Log) (octets : Octets) → AreImages log octets → WasLeft log (just octets)
powerless log octets are = record { first = Lost_power octets.0 are.0; second = Lost_power octets.1 are.1 }

abbrev AreTheirImages : PeerPast → Octets → Type 0
AreTheirImages peer octets = AreImages peer.tape.log octets

abbrev cut_off : List PeerPast → List Octets → List PeerPast
cut_off [] images = []
cut_off (peer ∷ peers) [] = []
cut_off (peer ∷ peers) (octets ∷ images) = peer_with peer (just octets) ∷ cut_off peers images

cut_stopped : (peers : List PeerPast) (images : List Octets) → AllZip AreTheirImages peers images
    → AllZip IsStoppedPeer peers (cut_off peers images)
cut_stopped [] [] all = tt
cut_stopped [] (octets ∷ images) all = absurd all
cut_stopped (peer ∷ peers) [] all = absurd all
cut_stopped (peer ∷ peers) (octets ∷ images) all =
    (stopped_peer peer (just octets) (powerless peer.tape.log octets all.0), cut_stopped peers images all.1)

cut_holds : (peers : List PeerPast) (images : List Octets) → AllZip AreTheirImages peers images
    → AllZip (λ (peer : PeerPast) (octets : Octets). HoldJust peer.tape.log octets) (cut_off peers images) images
cut_holds [] [] all = tt
cut_holds [] (octets ∷ images) all = absurd all
cut_holds (peer ∷ peers) [] all = absurd all
cut_holds (peer ∷ peers) (octets ∷ images) all = (refl, cut_holds peers images all.1)

pub any_power_failure : AnyPowerFailureComesAbout
any_power_failure = λ begun life steps cut lines under_way comes moment images intake are its.
    let past = past_with under_way (cut_off under_way.peers images) (just intake) in
    goes_on begun life steps cut lines under_way past (AllHoldJust images intake) comes moment
    (all_stopped under_way (cut_off under_way.peers images) (just intake) (cut_stopped under_way.peers images are)
    (powerless under_way.intake.log intake its))
    (record { peers = cut_holds under_way.peers images are; its = refl })
