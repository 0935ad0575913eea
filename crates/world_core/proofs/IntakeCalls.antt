-- What the calls of the intake's tape make of all stations.
use Rattle.std.proofs.Common.{◌≡◌, ◌≢◌, ◌↔◌, refl, sym, ap, ◌∙◌, subst, inl, inr}
use Rattle.std.specs.List.{AllZip}
use Rattle.std.specs.Global.{Vec}
use Rattle.disk_model.specs.declared.Disk.{Ghosts}
use Rattle.ledger_core.specs.State.{State}
use Rattle.recovery.specs.Image.{Survives, TapeLeaves}
use Rattle.recovery.specs.Leaving.{HasLedger, LedgersLeave, LiesLeft, mark_of}
use Rattle.recovery.specs.LeavingLaws.{TapeLeaves-weaker}
use Rattle.recovery.specs.Notes.{flushed}
use Rattle.recovery.specs.Tape.{StandsFor}
use Rattle.recovery.specs.Words.{IsBroken, IsFlushFault, IsFull, OneHasRisen, log_of, pending_of, faults_of}
use Rattle.recovery.specs.declared.fault.TapeFault.{TapeFault}
use Rattle.recovery.specs.declared.fault.TapeFault.TheVariants.{Damaged, Disk, Broken, TapeFull, GenerationFull}
use Rattle.recovery.specs.declared.fault.TapeFault.TheVariants.{PendingFull, NoMemory, Note}
use Rattle.recovery.specs.declared.tape.Tape.{Tape}
use Rattle.sections.specs.Tapes.{TapePast}
use Rattle.world_core.specs.Past.{Past, with_intake}
use Rattle.world_core.specs.Safe.{KeepsLines}
use Rattle.world_core.specs.Tapes.{MayFlush}
use Rattle.world_core.specs.Events.{Acknowledges}
use Rattle.world_core.specs.Fault.{fault_of}
use Rattle.world_core.specs.Sound.{IsSound}
use Rattle.world_core.specs.Stands.{DidOne, FailedOne, PeerStands, Stands, TapeStands}
use Rattle.world_core.specs.declared.fault.Fault.{Fault}
use Rattle.world_core.specs.declared.peer.Peer.{Peer}
use Rattle.world_core.specs.declared.stations.Stations.{Stations}
use Rattle.world_core.proofs.PeerCalls.{FlushedNot, broke_as, flushed_as, full_here, full_there, none_there, tape_broken}
use Rattle.world_core.proofs.PeerCalls.{tape_works}
use Rattle.world_core.proofs.MarksAndNotes.{keeps_lines}
use Rattle.world_core.proofs.SoundOverEvents.{sound_intake}
use Rattle.world_core.proofs.StationCalls.{same_history}

module _ {D : Type 0} {g : Ghosts D} where
  -- the new stations have this tape as the intake's, and all else is as it was
  pub record WithIntake (old new : Stations D g) (tape : Tape D g) : Type 0 where
    pub peers : new.peers ≡ old.peers
    pub intake : new.intake ≡ tape
    pub last : new.last ≡ old.last
    pub begun : new.begun ≡ old.begun

  pub stands_intake : (old new : Stations D g) (past : Past) (tape : Tape D g) (later : TapePast) → Stands old past
      → WithIntake old new tape
      → TapeStands later tape → IsSound (with_intake past later) → Stands new (with_intake past later)
  stands_intake old new past tape later stands same is sound = record {
    peers = subst (λ (v : Vec (Peer D g)). AllZip PeerStands past.peers v.items) (sym same.peers) stands.peers;
    intake = subst (λ (t : Tape D g). TapeStands later t) (sym same.intake) is;
    last = same.last ∙ stands.last;
    begun = same.begun ∙ stands.begun;
    sound = sound;
  }

  module _ (lies : LiesLeft g) (P : State
      → Type 0) (past : TapePast) (old new : Tape D g) (stands : TapeStands past old)
      (moments : LedgersLeave P (log_of old) (log_of new)) (is : StandsFor new past.history) where
    may_flush : (IsBroken old → ⊥) → (IsFull old → ⊥) → (pending_of old ≡ 0 → ⊥) → MayFlush past
    may_flush works fits some = (
      λ none. some (none_there lies past old stands works none),
      λ full. fits (full_there lies past old stands works full),
    )

    same_there : new ≡ old → TapeStands past new
    same_there same = subst (λ (t : Tape D g). TapeStands past t) (sym same) stands

    -- a flush of the tape alone was refused
    tape_unflushed : (fault : TapeFault) (refusal : Fault) → refusal ≡ fault_of fault → ((fault
        ≡ Broken) ↔ IsBroken old)
        → ((fault ≡ TapeFull) ↔ ((IsBroken old → ⊥) × IsFull old)) → (pending_of old ≡ 0 → (IsBroken old → ⊥) → ⊥)
        → IsFlushFault fault
        → (fault ≢ Disk → new ≡ old) → (fault ≡ Disk → IsBroken new)
        → (fault ≡ Disk → OneHasRisen (faults_of old) (faults_of new))
        → FlushedNot P past refusal new
    tape_unflushed (Damaged segment at) refusal e broken full idle kind same breaks cause = absurd kind
    tape_unflushed Disk refusal e broken full idle kind same breaks cause =
        let works : IsBroken old → ⊥ = λ b. let never : Disk ≡ Broken = broken.1 b in cc in
        let done = broke_as lies P past old new stands moments works (breaks refl) (cause refl) is in
        record {
          later = _;
          refused = inr (inr (inr (
            e,
            may_flush works (λ f. let never : Disk ≡ TapeFull = full.1 (works, f) in cc) (λ none. idle none works),
            done.0,
          )));
          stands = done.1;
        }
    tape_unflushed Broken refusal e broken full idle kind same breaks cause = record {
      later = past;
      refused = inl (e, tape_broken past old stands (broken.0 refl), refl);
      stands = same_there (same (λ never. cc));
    }
    tape_unflushed TapeFull refusal e broken full idle kind same breaks cause =
        let works : IsBroken old → ⊥ = λ b. let never : TapeFull ≡ Broken = broken.1 b in cc in
        record {
          later = past;
          refused = inr (inl (
            e,
            tape_works past old stands works,
            full_here lies past old stands works (full.0 refl).1,
            refl,
          ));
          stands = same_there (same (λ never. cc));
        }
    tape_unflushed GenerationFull refusal e broken full idle kind same breaks cause = absurd kind
    tape_unflushed PendingFull refusal e broken full idle kind same breaks cause = absurd kind
    tape_unflushed NoMemory refusal e broken full idle kind same breaks cause =
        let works : IsBroken old → ⊥ = λ b. let never : NoMemory ≡ Broken = broken.1 b in cc in
        record {
          later = past;
          refused = inr (inr (inl (
            e,
            tape_works past old stands works,
            may_flush works (λ f. let never : NoMemory ≡ TapeFull = full.1 (works, f) in cc) (λ none. idle none works),
            refl,
          )));
          stands = same_there (same (λ never. cc));
        }
    tape_unflushed (Note fault) refusal e broken full idle kind same breaks cause = absurd kind

  module _ (lies : LiesLeft g) (old new : Stations D g) (past : Past) (tape : Tape D g) (stands : Stands old past)
      (same : WithIntake old new tape)
      (moments : TapeLeaves (Survives past.intake.history) (log_of old.intake) (log_of tape)) where
    safe_moments : LedgersLeave (KeepsLines past.intake.history past.peers) (log_of old.intake) (log_of tape)
    safe_moments = TapeLeaves-weaker (Survives past.intake.history)
        (HasLedger (KeepsLines past.intake.history past.peers))
        (λ octets is. keeps_lines past.intake.history past.peers octets stands.intake.stands.are_legal
        stands.sound.acknowledged is)
        (log_of old.intake) (log_of tape) moments

    pub did_acknowledge : (IsBroken old.intake → ⊥) → (IsBroken tape → ⊥) → (IsFull old.intake → ⊥)
        → (pending_of old.intake ≡ 0 → tape ≡ old.intake)
        → StandsFor tape (flushed past.intake.history) → faults_of tape ≡ faults_of old.intake
        → DidOne past Acknowledges new
    did_acknowledge worked works fits idle is quiet =
        let done = flushed_as lies (KeepsLines past.intake.history past.peers) past.intake old.intake tape
        stands.intake safe_moments worked works fits idle is quiet in
        record {
          later = with_intake past _;
          does = record { tape = _; flushes = done.0; changed = refl };
          stands = stands_intake old new past tape _ stands same done.1 (sound_intake past _ stands.sound refl);
        }

    pub failed_acknowledge : (fault : TapeFault) (refusal : Fault) → refusal ≡ fault_of fault
        → ((fault ≡ Broken) ↔ IsBroken old.intake)
        → ((fault ≡ TapeFull) ↔ ((IsBroken old.intake → ⊥) × IsFull old.intake))
        → (pending_of old.intake ≡ 0 → (IsBroken old.intake → ⊥) → ⊥)
        → IsFlushFault fault → (fault ≢ Disk → tape ≡ old.intake) → (fault ≡ Disk → IsBroken tape)
        → (fault ≡ Disk → OneHasRisen (faults_of old.intake) (faults_of tape)) → StandsFor tape past.intake.history
        → FailedOne past Acknowledges refusal new
    failed_acknowledge fault refusal e broken full idle kind kept breaks cause is =
        let done = tape_unflushed lies (KeepsLines past.intake.history past.peers) past.intake old.intake tape
        stands.intake safe_moments is fault refusal e broken full idle kind kept breaks cause in
        record {
          later = with_intake past done.later;
          refused = record { tape = done.later; refused = done.refused; changed = refl };
          stands = stands_intake old new past tape done.later stands same done.stands
              (sound_intake past done.later stands.sound
              (ap mark_of (same_history (KeepsLines past.intake.history past.peers) past.intake refusal done.later
              done.refused)));
        }
