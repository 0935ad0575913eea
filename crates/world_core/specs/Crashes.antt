-- Crashes (profile): at which moments all may stop, between steps or within one, and what is left then. A power failure
-- leaves any image of each disk; a kill leaves each disk as it stands, and syncs nothing.
use Rattle.std.specs.Prelude.{◌≡◌, ◌⊎◌, ℕ, false, None, Some, List, [], ◌∷◌, take, slice_get}
use Rattle.std.specs.List.{AllZip}
use Rattle.recovery.specs.Image.{Log, Octets}
use Rattle.recovery.specs.Leaving.{HasLedger, IsPrefix, LedgersLeave}
use Rattle.recovery.specs.Pairs.{LeavesPair}
use Rattle.recovery.specs.Pairs.LeavesPair.{at_start, first_next, second_next}
use Rattle.sections.specs.Sections.{IsStopped}
use Rattle.sections.specs.Tapes.{TapePast}
use Rattle.world_core.specs.Past.{Life, Past, PeerPast, with_intake, with_peer, with_tape}
use Rattle.world_core.specs.Events.{AllDo, Does, Event, Refuses}
use Rattle.world_core.specs.Halts.{stopped_at}
use Rattle.world_core.specs.Safe.{KeepsLines}
use Rattle.world_core.specs.Steps.{IsPlan, Plan, must_run}
use Rattle.world_core.specs.declared.fault.Fault.{Fault}
use Rattle.world_core.specs.declared.step.Step.{Step}

-- ---- a step is under way

-- A step of this world is under way: some events of its plan were taken, from the first on, and left the first of these
-- tapes; the next event makes the second of these tapes, whether it is taken or refused.
pub record IsUnderWay (step : Step) (life : Life) (was now : Past) : Type 0 where
  pub running : life.running ≡ must_run step
  pub plan : Plan
  pub is_plan : IsPlan step life.past plan
  pub count : ℕ
  pub prefix : AllDo plan.begun (take count plan.events) was
  pub event : Event
  pub here : slice_get plan.events count ≡ Some event
  pub makes : Does event was now ⊎ ((fault : Fault) × Refuses event was fault now)

-- At each moment from the first to the second of these, whatever a stop may leave of a peer's tape is the tape of a
-- prefix of the notes that it had before, with every acknowledged one in it.
abbrev pub StaysPrefix : PeerPast → PeerPast → Type 0
StaysPrefix old new = LedgersLeave (IsPrefix old.tape.history) old.tape.log new.tape.log

-- the same of the intake's tape; and each note that a line up to its mark made is acknowledged at its peer
abbrev pub StaysBelow : Past → Past → Type 0
StaysBelow was now =
    LedgersLeave (KeepsLines was.intake.history was.peers) was.intake.log now.intake.log

-- ---- moments

-- on this way from one log to another, the disks come to this, moment by moment, the first and the last included
abbrev pub IsOn : (P : Octets → Type 0) (old new : Log) → LeavesPair P old new → Log → Type 0
IsOn P old _ (at_start safe) log = log ≡ old
IsOn P old _ (first_next one other event way safe) log =
    IsOn P old (one, other) way log ⊎ (log ≡ (event ∷ one, other))
IsOn P old _ (second_next one other event way safe) log =
    IsOn P old (one, other) way log ⊎ (log ≡ (one, event ∷ other))

-- so much has happened to the disks of a tape; its notes are as they were
abbrev pub with_log : TapePast → Log → TapePast
with_log tape log = record tape { log = log }

-- All tapes at a moment of an event that makes the second of these from the first: nothing of it has happened to any
-- disk yet; or, on a way on which whatever a stop leaves is safe (`all_moments_are_recovered`), the disks of a peer's
-- tape, or of the intake's, have come to this.
pub data IsMomentOf (was now : Past) : Past → Type 0 where
  Before : IsMomentOf was now was
  At_peer : (rank : ℕ) (old new : PeerPast) (way : StaysPrefix old new) (log : Log)
      → slice_get was.peers rank ≡ Some old → slice_get now.peers rank ≡ Some new
      → IsOn (HasLedger (IsPrefix old.tape.history)) old.tape.log new.tape.log way log
      → IsMomentOf was now (with_peer was rank (with_tape old (with_log old.tape log)))
  At_intake : (way : StaysBelow was now) (log : Log)
      → IsOn (HasLedger (KeepsLines was.intake.history was.peers)) was.intake.log now.intake.log way log
      → IsMomentOf was now (with_intake was (with_log was.intake log))

-- All tapes of a world at a moment: between its steps, or within this one, which is cut off then.
pub data IsMoment (life : Life) : List Step → Past → Type 0 where
  Between : IsMoment life [] life.past
  Within : (step : Step) (was now past : Past) → IsUnderWay step life was now → IsMomentOf was now past
      → IsMoment life (step ∷ []) past

-- ---- what is left

pub record IsStoppedPeer (old new : PeerPast) : Type 0 where
  pub tape : IsStopped old.tape new.tape
  pub all : new ≡ record { conf = old.conf; tape = new.tape; places = []; parted = false }

-- all tapes have stopped, each with what is left of its disks; no number is kept
pub record AreStopped (old new : Past) : Type 0 where
  pub peers : AllZip IsStoppedPeer old.peers new.peers
  pub intake : IsStopped old.intake new.intake
  pub all : new ≡ record { peers = new.peers; intake = new.intake; last = old.last; begun = None }

-- A world crashes at a moment, at which these steps are cut off: one, or none.
pub record Crashes (life : Life) (cut : List Step) (later : Life) : Type 0 where
  pub under_way : Past
  pub moment : IsMoment life cut under_way
  pub past : Past
  pub stopped : AreStopped under_way past
  pub changed : later ≡ stopped_at past life
