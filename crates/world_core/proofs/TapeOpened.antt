-- How a tape that had stopped is opened.
use Rattle.std.proofs.Common.{◌≡◌, ◌⊎◌, inl, inr, ℕ, false, refl, sym, ap, ◌∙◌, subst}
use Rattle.disk_model.specs.declared.Disk.{Ghosts}
use Rattle.ledger_core.specs.State.{State, keys}
use Rattle.recovery.specs.Image.{EachTape, Log, Survives, TapeLeaves}
use Rattle.recovery.specs.Leaving.{EachLedger, HasLedger, LedgersLeave, LiesOn, broken_of, ledger_of_first}
use Rattle.recovery.specs.LeavingLaws.{TapeLeaves-now, found_first, survives_of_prefix}
use Rattle.recovery.specs.Notes.{AreLegal, recovered}
use Rattle.recovery.specs.Tape.{IsOpenedTape, Recovers}
use Rattle.recovery.specs.Words.{IsBroken, IsOpenFault, OneHasRisen, ledger_of, log_of, faults_of}
use Rattle.recovery.specs.declared.fault.TapeFault.{TapeFault}
use Rattle.recovery.specs.declared.fault.TapeFault.TheVariants.{Damaged, Disk, Broken, TapeFull, GenerationFull}
use Rattle.recovery.specs.declared.fault.TapeFault.TheVariants.{PendingFull, NoMemory, Note}
use Rattle.peer_queue.specs.DebtPlace.{all_ready}
use Rattle.peer_queue.specs.Words.{limits_of as station_limits, places_of, tape_of}
use Rattle.world_core.specs.Past.{PeerPast, limits_of}
use Rattle.world_core.specs.Safe.{KeepsNotes}
use Rattle.world_core.specs.Fault.{fault_of}
use Rattle.world_core.specs.Stands.{OpenedAs, RefusedOpen}
use Rattle.world_core.specs.declared.fault.Fault.{Fault}
use Rattle.world_core.specs.declared.fault.Fault.TheVariants.{NoMemory as NoStepMemory, Tape as FromTape}
use Rattle.world_core.specs.StopDisk.{all_faults, happened}
use Rattle.world_core.specs.declared.peer.Peer.{Peer}
use Rattle.world_core.specs.declared.peer.StoppedPeer.{StoppedPeer}
use Rattle.world_core.proofs.PeerCalls.{keeps_moments, not_true}

-- what the disks of a peer that has stopped keep
pub each_there : (past : PeerPast) (log : Log) → log ≡ past.tape.log → EachLedger (KeepsNotes past) past.tape.log
    → EachTape (Survives past.tape.history) log
each_there past log same images = subst (λ (l : Log). EachTape (Survives past.tape.history) l) (sym same)
    (λ one other is is'. survives_of_prefix past.tape.history (one, other) (images one other is is'))

module _ {D : Type 0} {g : Ghosts D} where
  pub opened_as : (past : PeerPast) (old : Log) (counts : ℕ × ℕ) (peer : Peer D g) → old ≡ past.tape.log
      → counts ≡ past.tape.faults
      → Recovers past.tape.history old (tape_of peer.station) → IsOpenedTape old (tape_of peer.station)
      → (IsBroken (tape_of peer.station) → ⊥)
      → faults_of (tape_of peer.station) ≡ counts
      → places_of peer.station ≡ all_ready (keys (ledger_of (tape_of peer.station)))
      → station_limits peer.station ≡ limits_of past.conf → peer.conf ≡ past.conf → peer.parted ≡ false
      → OpenedAs past peer
  opened_as past old counts peer log faults recovers opened works quiet ready limits conf parts = record {
    later = record {
      history = recovered past.tape.history recovers.count;
      log = log_of (tape_of peer.station);
      faults =
          past.tape.faults;
      broken = false;
    };
    opens = record {
      count = recovers.count;
      enough = recovers.enough;
      within = recovers.within;
      found = subst (λ (l : Log). LiesOn l (ledger_of_first past.tape.history recovers.count)) log
          (found_first (tape_of peer.station) past.tape.history old opened recovers);
      moments = subst (λ (l : Log). LedgersLeave (KeepsNotes past) l (log_of (tape_of peer.station))) log
          (keeps_moments past old (log_of (tape_of peer.station)) recovers.moments);
      all = refl;
    };
    stands = record {
      conf = conf;
      limits = limits;
      tape = record {
        stands = recovers.stands;
        log = refl;
        faults = quiet ∙ faults;
        broken =
            not_true (broken_of (tape_of peer.station)) works;
      };
      places = ready ∙ ap (λ (state : State). all_ready (keys state)) recovers.stands.ledger;
      parted = parts;
    };
  }

pub refused_why : (Risen : Type 0) (fault : TapeFault) (refusal : Fault) → refusal ≡ fault_of fault → IsOpenFault fault
    → ((segment at : ℕ) → fault ≡ Damaged segment at → ⊥) → (fault ≡ Disk → Risen)
    → ((refusal ≡ FromTape Disk) × Risen) ⊎ (refusal ≡ NoStepMemory)
refused_why Risen (Damaged segment at) refusal e kind undamaged cause = absurd (undamaged segment at refl)
refused_why Risen Disk refusal e kind undamaged cause = inl (e, cause refl)
refused_why Risen Broken refusal e kind undamaged cause = absurd kind
refused_why Risen TapeFull refusal e kind undamaged cause = absurd kind
refused_why Risen GenerationFull refusal e kind undamaged cause = absurd kind
refused_why Risen PendingFull refusal e kind undamaged cause = absurd kind
refused_why Risen NoMemory refusal e kind undamaged cause = inr e
refused_why Risen (Note fault) refusal e kind undamaged cause = absurd kind

pub refused_as : (past : PeerPast) (old : Log) (counts : ℕ × ℕ) (peer : StoppedPeer)
    → AreLegal past.tape.history.base past.tape.history.notes → old ≡ past.tape.log → counts ≡ past.tape.faults
    → TapeLeaves (Survives past.tape.history) old (happened peer.disks.0, happened peer.disks.1)
    → peer.conf ≡ past.conf → (fault : TapeFault) (said : Fault)
    → said ≡ fault_of fault → IsOpenFault fault → ((segment at : ℕ) → fault ≡ Damaged segment at → ⊥)
    → (fault ≡ Disk → OneHasRisen counts (all_faults peer.disks.0, all_faults peer.disks.1))
    → RefusedOpen past said peer
refused_as past old counts peer legal log faults moments conf fault said e kind undamaged cause =
    let new : Log = (happened peer.disks.0, happened peer.disks.1) in
    let left = keeps_moments past old new moments in
    record {
      later = record {
        history = past.tape.history;
        log = new;
        faults =
            (all_faults peer.disks.0, all_faults peer.disks.1);
        broken = false;
      };
      refused = record {
        why = refused_why _ fault said e kind undamaged
            (λ is. subst (λ (f : ℕ × ℕ). OneHasRisen f (all_faults peer.disks.0, all_faults peer.disks.1)) faults
            (cause is));
        moments = subst (λ (l : Log). LedgersLeave (KeepsNotes past) l new) log left;
        all = refl;
      };
      stands = record {
        conf = conf;
        disks = record {
          log = refl;
          faults = refl;
          works = refl;
          legal = legal;
          images =
              TapeLeaves-now (HasLedger (KeepsNotes past)) old new left;
        };
      };
    }
