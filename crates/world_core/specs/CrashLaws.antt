-- That steps go on from any crash, in an administrator's words.
use Rattle.std.specs.Prelude.{◌≡◌, List, [], ◌∷◌, ◌++◌}
use Rattle.std.specs.List.{AllZip}
use Rattle.disk_model.specs.Disk.{Image}
use Rattle.disk_model.specs.Disk.Event.{Made}
use Rattle.recovery.specs.Image.{Log, Octets}
use Rattle.world_core.specs.Past.{Life, Past, PeerPast}
use Rattle.world_core.specs.Crashes.{IsMoment}
use Rattle.world_core.specs.Laws.{Comes}
use Rattle.world_core.specs.Output.{View}
use Rattle.world_core.specs.declared.step.Step.{Step}

-- a world that these steps have made, of whose tapes P holds
pub record MakesSome (begun : Life) (steps : List Step) (lines : List (List View)) (P : Past → Type 0) : Type 0 where
  pub later : Life
  pub comes : Comes begun steps lines later
  pub has : P later.past

-- At each moment of a world that steps have made, between them or within one more, let all tapes be these: P holds of
-- these tapes, and of which worlds steps then make.
abbrev pub AtEachMoment : (Past → (((Past → Type 0) → Type 0)) → Type 0) → Type 0
AtEachMoment P = (begun life : Life) (steps cut : List Step) (lines : List (List View)) (under_way : Past)
    → Comes begun steps lines life → IsMoment life cut under_way
    → P under_way (MakesSome begun (steps ++ cut) lines)

-- ---- a kill

-- The same has happened to each disk, so that whatever a power failure might have left it may still leave.
pub record HaveSameDisks (was now : Past) : Type 0 where
  pub peers : AllZip (λ (old new : PeerPast). new.tape.log ≡ old.tape.log) was.peers now.peers
  pub intake : now.intake.log ≡ was.intake.log

abbrev pub AnyKillComesAbout : Type 0
AnyKillComesAbout = AtEachMoment (λ under_way makes. makes (HaveSameDisks under_way))

-- ---- a power failure

-- each of these is an image of its disk
abbrev pub AreImages : Log → Octets → Type 0
AreImages log octets = Image log.0 octets.0 × Image log.1 octets.1

-- the disks hold these, and nothing has happened to them since
abbrev pub HoldJust : Log → Octets → Type 0
HoldJust log octets = log ≡ (Made octets.0 ∷ [], Made octets.1 ∷ [])

-- and all tapes these
pub record AllHoldJust (images : List Octets) (intake : Octets) (past : Past) : Type 0 where
  pub peers : AllZip (λ (peer : PeerPast) (octets : Octets). HoldJust peer.tape.log octets) past.peers images
  pub its : HoldJust past.intake.log intake

-- Of each disk any of its images may be left, whatever is left of the others.
abbrev pub AnyPowerFailureComesAbout : Type 0
AnyPowerFailureComesAbout = AtEachMoment (λ under_way makes. (images : List Octets) (intake : Octets)
    → AllZip (λ (peer : PeerPast) (octets : Octets). AreImages peer.tape.log octets) under_way.peers images
    → AreImages under_way.intake.log intake → makes (AllHoldJust images intake))
