-- What a number noted on the intake's tape makes of all stations.
use Rattle.std.proofs.Common.{◌≡◌, ◌≢◌, ◌↔◌, ℕ, ◌<◌, ◌≤◌, Bool, if◌then◌else◌, refl, sym, ap, ◌∙◌, subst, inl, inr}
use Rattle.std.proofs.Common.{arith}
use Rattle.std.proofs.lemmas.Bool.{lt-ltb, le-ltb}
use Rattle.disk_model.specs.declared.Disk.{Ghosts}
use Rattle.ledger_core.specs.State.{State}
use Rattle.ledger_core.specs.declared.ledger.LedgerFault.{LedgerFault}
use Rattle.ledger_core.specs.declared.ledger.LedgerFault.TheVariants.{OldNumber, NotOwed, CountFull}
use Rattle.ledger_core.specs.declared.ledger.LedgerFault.TheVariants.{NoMemory as NoLedgerMemory}
use Rattle.ledger_core.specs.declared.note.Note.TheVariants.{Seen}
use Rattle.recovery.specs.Leaving.{broken_of}
use Rattle.recovery.specs.LeavingLaws.{pends_by, same_disks}
use Rattle.recovery.specs.Notes.{History, most_pending, noted}
use Rattle.recovery.specs.Tape.{StandsFor}
use Rattle.recovery.specs.Words.{IsBroken, IsNoteFault, RefusesNote as LedgerRefuses, disks_of, ledger_of, pending_of}
use Rattle.recovery.specs.declared.fault.TapeFault.{TapeFault}
use Rattle.recovery.specs.declared.fault.TapeFault.TheVariants.{Damaged, Disk, Broken, TapeFull, GenerationFull}
use Rattle.recovery.specs.declared.fault.TapeFault.TheVariants.{PendingFull, NoMemory, Note as RefusedNote}
use Rattle.recovery.specs.declared.tape.Tape.{Tape}
use Rattle.sections.specs.Tapes.{TapePast, mark_at}
use Rattle.world_core.specs.Past.{Past, with_intake}
use Rattle.world_core.specs.Tapes.{RefusesNote, noted_at}
use Rattle.world_core.specs.Events.{Sees, seen}
use Rattle.world_core.specs.Fault.{fault_of}
use Rattle.world_core.specs.Steps.{IsSealable}
use Rattle.world_core.specs.Stands.{DidOne, FailedOne, Stands, TapeStands}
use Rattle.world_core.specs.declared.fault.Fault.{Fault}
use Rattle.world_core.specs.declared.stations.Stations.{Stations}
use Rattle.world_core.proofs.IntakeCalls.{WithIntake, stands_intake}
use Rattle.world_core.proofs.PeerCalls.{same_truth, tape_broken, tape_works}
use Rattle.world_core.proofs.SoundOverEvents.{sound_intake, sound_noted}

pub seen_old : (number : ℕ) (tape : TapePast) → number ≤ mark_at tape → seen number tape ≡ tape
seen_old number tape below =
    ap (λ (b : Bool). if b then noted_at tape (Seen number) else tape) (le-ltb (mark_at tape) number below)

pub seen_new : (number : ℕ) (tape : TapePast) → mark_at tape < number → seen number tape ≡ noted_at tape (Seen number)
seen_new number tape above =
    ap (λ (b : Bool). if b then noted_at tape (Seen number) else tape) (lt-ltb (mark_at tape) number above)

module _ {D : Type 0} {g : Ghosts D} where
  pub mark_is : (past : TapePast) (tape : Tape D g) → TapeStands past tape → (ledger_of tape).mark ≡ mark_at past
  mark_is past tape stands = ap (λ (state : State). state.mark) stands.stands.ledger

  -- the disks were not touched
  untouched : (past : TapePast) (history : History) (old new : Tape D g) → TapeStands past old → StandsFor new history
      → disks_of new ≡ disks_of old
      → (IsBroken old ↔ IsBroken new) → TapeStands (record past { history = history }) new
  untouched past history old new stands is disks works =
      let here = same_disks new old disks in
      record {
        stands = is;
        log = here.0 ∙ stands.log;
        faults = here.1 ∙ stands.faults;
        broken = same_truth (broken_of old) (broken_of new) works ∙ stands.broken;
      }

  -- the number was noted before
  pub did_see_old : (stations : Stations D g) (past : Past) (number : ℕ) → Stands stations past
      → number ≤ (ledger_of stations.intake).mark
      → DidOne past (Sees number) stations
  did_see_old stations past number stands below =
      let mark = mark_is past.intake stations.intake stands.intake in
      let low : number ≤ mark_at past.intake = omega (arith, mark, below) in
      let same : seen number past.intake ≡ past.intake = seen_old number past.intake low in
      record {
        later = with_intake past (seen number past.intake);
        does = record { room = (λ above. absurd (omega (arith, low, above))); changed = refl };
        stands = subst (λ (t : TapePast). Stands stations (with_intake past t)) (sym same) stands;
      }

  module _ (old new : Stations D g) (past : Past) (number : ℕ) (tape : Tape D g) (stands : Stands old past)
      (same : WithIntake old new tape)
      (above : (ledger_of old.intake).mark < number) where
    rises : mark_at past.intake < number
    rises = let mark = mark_is past.intake old.intake stands.intake in omega (arith, mark, above)

    pub did_see : IsSealable past number → (IsBroken old.intake → ⊥) → pending_of old.intake ≢ most_pending
        → StandsFor tape (noted past.intake.history (Seen number)) → disks_of tape ≡ disks_of old.intake
        → (IsBroken old.intake ↔ IsBroken tape)
        → DidOne past (Sees number) new
    did_see sealable worked room is disks works = record {
      later = with_intake past (seen number past.intake);
      does = record {
        room = λ _. (
          tape_works past.intake old.intake stands.intake worked,
          λ full. room (pends_by old.intake past.intake.history stands.intake.stands worked ∙ full),
        );
        changed = refl;
      };
      stands = subst (λ (t : TapePast). Stands new (with_intake past t)) (sym (seen_new number past.intake rises))
          (stands_intake old new past tape (noted_at past.intake (Seen number)) stands same
          (untouched past.intake (noted past.intake.history (Seen number)) old.intake tape stands.intake is disks works)
          (sound_noted past number stands.sound sealable));
    }

    unseen : (fault : TapeFault) (refusal : Fault) → refusal ≡ fault_of fault → ((fault ≡ Broken) ↔ IsBroken old.intake)
        → ((f : LedgerFault) → fault ≡ RefusedNote f → LedgerRefuses (ledger_of old.intake) (Seen number) f)
        → (fault ≡ PendingFull → pending_of old.intake ≡ most_pending)
        → (fault ≡ NoMemory → pending_of old.intake < most_pending)
        → IsNoteFault fault → RefusesNote past.intake refusal
    unseen (Damaged segment at) refusal e broken note full memory kind = absurd kind
    unseen Disk refusal e broken note full memory kind = absurd kind
    unseen Broken refusal e broken note full memory kind =
        inl (e, tape_broken past.intake old.intake stands.intake (broken.0 refl))
    unseen TapeFull refusal e broken note full memory kind = absurd kind
    unseen GenerationFull refusal e broken note full memory kind = absurd kind
    unseen PendingFull refusal e broken note full memory kind =
        let works : IsBroken old.intake → ⊥ = λ b. let is : PendingFull ≡ Broken = broken.1 b in cc in
        inr (inl (
          e,
          tape_works past.intake old.intake stands.intake works,
          λ room. room (sym (pends_by old.intake past.intake.history stands.intake.stands works) ∙ full refl),
        ))
    unseen NoMemory refusal e broken note full memory kind =
        let works : IsBroken old.intake → ⊥ = λ b. let is : NoMemory ≡ Broken = broken.1 b in cc in
        let few = memory refl in
        inr (inr (
          e,
          tape_works past.intake old.intake stands.intake works,
          λ all. omega (arith, few, pends_by old.intake past.intake.history stands.intake.stands works, all),
        ))
    unseen (RefusedNote OldNumber) refusal e broken note full memory kind =
        absurd (let low : number ≤ (ledger_of old.intake).mark = note OldNumber refl in omega (arith, low, above))
    unseen (RefusedNote NotOwed) refusal e broken note full memory kind = absurd (note NotOwed refl)
    unseen (RefusedNote CountFull) refusal e broken note full memory kind = absurd (note CountFull refl)
    unseen (RefusedNote NoLedgerMemory) refusal e broken note full memory kind = absurd (note NoLedgerMemory refl)

    pub failed_see : (fault : TapeFault) (refusal : Fault) → refusal ≡ fault_of fault
        → ((fault ≡ Broken) ↔ IsBroken old.intake)
        → ((f : LedgerFault) → fault ≡ RefusedNote f → LedgerRefuses (ledger_of old.intake) (Seen number) f)
        → (fault ≡ PendingFull → pending_of old.intake ≡ most_pending)
        → (fault ≡ NoMemory → pending_of old.intake < most_pending)
        → IsNoteFault fault → StandsFor tape past.intake.history → disks_of tape ≡ disks_of old.intake
        → (IsBroken old.intake ↔ IsBroken tape)
        → FailedOne past (Sees number) refusal new
    failed_see fault refusal e broken note full memory kind is disks works = record {
      later = past;
      refused = record {
        tape = past.intake;
        refused =
            (rises, unseen fault refusal e broken note full memory kind, refl);
        changed = refl;
      };
      stands = stands_intake old new past tape past.intake stands same
          (untouched past.intake past.intake.history old.intake tape stands.intake is disks works)
          (sound_intake past past.intake stands.sound refl);
    }
