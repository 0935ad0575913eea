-- What a stop may leave at each moment within a step, in an administrator's words.
use Rattle.std.specs.Prelude.{◌≡◌, ◌⊎◌, ℕ, Option, None, Some, List, slice_get}
use Rattle.std.specs.List.{AllZip}
use Rattle.disk_model.specs.declared.choice.Choice.{Choice}
use Rattle.recovery.specs.Image.{Log}
use Rattle.recovery.specs.Leaving.{left_by}
use Rattle.world_core.specs.Past.{Life, Past, PeerPast}
use Rattle.world_core.specs.Events.{calls_disk}
use Rattle.world_core.specs.Crashes.{IsUnderWay, StaysBelow, StaysPrefix}
use Rattle.world_core.specs.Laws.{Comes, StillOwes}
use Rattle.world_core.specs.Runs.{RefusesStep, Takes}
use Rattle.world_core.specs.Output.{View}
use Rattle.world_core.specs.declared.fault.Fault.{Fault}
use Rattle.world_core.specs.declared.step.Step.{Step}

-- While an event makes the second of these tapes from the first, whatever a stop may leave of each tape at each moment
-- is the tape of a prefix of its notes, with every acknowledged one in it; and each debt that was acknowledged in the
-- world at the beginning is still owed there, or has ended.
pub record AreRecoveredWithin (begun was now : Past) : Type 0 where
  pub prefixes : AllZip StaysPrefix was.peers now.peers
  pub owes : AllZip StillOwes begun.peers was.peers
  pub lines : StaysBelow was now

abbrev pub AllMomentsAreRecovered : Type 0
AllMomentsAreRecovered = (begun life : Life) (steps : List Step) (lines : List (List View))
    → Comes begun steps lines life
    → (step : Step) (was now : Past) → IsUnderWay step life was now
    → AreRecoveredWithin begun.past was now

-- ---- only these events call a disk

-- the step was taken, or refused
abbrev pub Ended : Step → Life → Life → Type 0
Ended step life later =
    ((outputs : List View) × Takes step life outputs later) ⊎ ((fault : Fault) × RefusesStep step life fault later)

-- this has happened to the disks of a tape: that of the peer at a rank, or the intake's
abbrev pub HasLog : Past → Option ℕ → Log → Type 0
HasLog past (Some rank) log = (peer : PeerPast) × (slice_get past.peers rank ≡ Some peer) × (log ≡ peer.tape.log)
HasLog past None log = log ≡ past.intake.log

-- this had happened to them by the end of an event of the step that calls the disks of that tape
pub record HadWithin (step : Step) (life : Life) (tape : Option ℕ) (log : Log) : Type 0 where
  pub was : Past
  pub now : Past
  pub under_way : IsUnderWay step life was now
  pub calls : calls_disk under_way.event ≡ Some tape
  pub had : HasLog now tape log

-- this had happened to them before the step, or by the end of such an event
abbrev pub HadLog : Step → Life → Option ℕ → Log → Type 0
HadLog step life tape log = HasLog life.past tape log ⊎ HadWithin step life tape log

-- this is what a stop's choice leaves of what had happened to them
pub record WasLeft (step : Step) (life : Life) (tape : Option ℕ) (log : Log) : Type 0 where
  pub before : Log
  pub choice : Choice
  pub had : HadLog step life tape before
  pub left_is : log ≡ left_by choice before

abbrev pub CallsNoOther : Type 0
CallsNoOther = (step : Step) (life later : Life) → Ended step life later
    → (tape : Option ℕ) (log : Log) → HasLog later.past tape log
    → HadLog step life tape log ⊎ WasLeft step life tape log
