-- A text, played as a drill: what is printed, and how it ends (docs/FORMATS.md).
use Rattle.std.specs.Prelude.{◌≡◌, ◌≢◌, ◌⊎◌, ◌+◌, slice_index_or, ℕ, zero, suc, Option, Some, List, [], ◌++◌}
use Rattle.std.specs.Prelude.{flat_map, length, map, slice_get, take, IfSome}
use Rattle.std.specs.Io.KnownBytes.{Appends, Keeps}
use Rattle.std.specs.List.Sorted.{IsPermutation}
use Rattle.drill_script.specs.Script.{BreaksAt, IsScript}
use Rattle.drill_script.specs.declared.fault.BrokenRule.{BrokenRule}
use Rattle.drill_script.specs.declared.read.Script.{Script}
use Rattle.recovery.specs.Image.{Octets}
use Rattle.world_core.specs.Given.{GivenTape, IsGiven, RefusesDisks, both_disks, octets_of, tape_names}
use Rattle.world_core.specs.Past.{Life}
use Rattle.world_core.specs.Runs.{RefusesStep, Runs}
use Rattle.world_core.specs.Safe.{IsSafe}
use Rattle.world_core.specs.Sound.{IsSoundLife, NamesRise}
use Rattle.world_core.specs.Stands.{counts_of}
use Rattle.world_core.specs.Output.{View}
use Rattle.world_core.specs.declared.fault.Fault.{Fault}
use Rattle.world_core.specs.declared.fault.Fault.TheVariants.{NoMemory}
use Rattle.world_core.specs.declared.fault.TapesFault.{TapesFault}
use Rattle.world_core.specs.declared.fault.TapesFault.TheVariants.{Tape as TapeOf, NoMemory as NoTapesMemory}
use Rattle.world_core.specs.declared.step.Step.{Step}
use Rattle.drill.specs.Printed.{broken_text, end_text, refused_text, steps_text, totals_text}
use Rattle.drill.specs.declared.ending.Ending.{Ending}
use Rattle.drill.specs.declared.ending.Ending.TheVariants.{Done, Refused, NoTape, NoMemory as NoMemoryLeft}
use Rattle.drill.specs.declared.ending.TapeRefusal.{TapeRefusal}
use Rattle.drill.specs.declared.ending.Why.{Why}
use Rattle.drill.specs.declared.ending.Why.TheVariants.{Script as ByScript, Step as ByStep}

-- a new world of these peers, in byte order of their names: it begins from their tapes and the intake's, and it runs
pub record IsBegun (peers : List GivenTape) (intake : Octets) (life : Life) : Type 0 where
  pub ordered : List GivenTape
  pub permuted : IsPermutation peers ordered
  pub rises : NamesRise (tape_names ordered)
  pub fresh : IsGiven ordered intake life

-- the same of a script's peers and tapes
abbrev pub IsBegunBy : Script → Life → Type 0
IsBegunBy script life = IsBegun (map both_disks script.peers.items) (octets_of script.intake) life

-- All steps were taken: what each of them outputs is printed, a line for each, then each peer's counts, and how many
-- steps there were.
pub record WasTaken (script : Script) (printed : List ℕ) : Type 0 where
  pub begun : Life
  pub begins : IsBegunBy script begun
  pub lines : List (List View)
  pub later : Life
  pub runs : Runs begun script.steps.items lines later
  pub prints : printed
      ≡ steps_text lines ++ (flat_map totals_text (counts_of later) ++ end_text (length script.steps.items))

-- The step on this line was refused for this fault: what the steps before it output is printed, a line for each, and
-- then the refusal.
pub record WasRefused (script : Script) (printed : List ℕ) (line : ℕ) (fault : Fault) : Type 0 where
  pub begun : Life
  pub begins : IsBegunBy script begun
  pub index : ℕ
  pub step : Step
  pub here : slice_get script.steps.items index ≡ Some step
  pub said : slice_get script.lines.items index ≡ Some line
  pub lines : List (List View)
  pub mid : Life
  pub runs : Runs begun (take index script.steps.items) lines mid
  pub later : Life
  pub refuses : RefusesStep step mid fault later
  pub safe : IsSafe later.past
  pub sound : IsSoundLife later
  pub prints : printed ≡ steps_text lines ++ refused_text (index + 1) fault

-- there was no memory for a step, for what all of them output, or for the tapes, in which case nothing is printed
abbrev pub LacksMemory : Script → List ℕ → Type 0
LacksMemory script printed =
    ((line : ℕ) × WasRefused script printed line NoMemory) ⊎ ((printed ≡ refused_text 1 NoMemory) ⊎ (printed ≡ []))

-- the step on this line was refused, and not for want of memory
abbrev pub EndsAt : Script → (printed : List ℕ) → (line : ℕ) → Why → Type 0
EndsAt script printed line (ByScript reason) = ⊥
EndsAt script printed line (ByStep fault) = (fault ≢ NoMemory) × WasRefused script printed line fault

-- Among the peers' tapes, in byte order of the names, and then the intake's, this is the first that was refused: nothing
-- is printed.
abbrev pub HasNoTape : Script → (printed : List ℕ) → TapeRefusal → Type 0
HasNoTape script printed refusal =
    (printed ≡ []) × RefusesDisks script.peers.items script.intake (TapeOf refusal.peer refusal.fault)

-- A script was played: it printed this and ended like this.
abbrev pub IsPlayed : Script → (printed : List ℕ) → Ending → Type 0
IsPlayed script printed Done = WasTaken script printed
IsPlayed script printed (Refused refusal) = EndsAt script printed refusal.line refusal.why
IsPlayed script printed (NoTape refusal) = HasNoTape script printed refusal
IsPlayed script printed NoMemoryLeft = LacksMemory script printed

-- The text is not a script: the first line that breaks the rules is printed and reported, with the reason.
pub record IsNoScript (text printed : List ℕ) (ending : Ending) : Type 0 where
  pub line : ℕ
  pub reason : BrokenRule
  pub breaks : BreaksAt text line reason
  pub prints : printed ≡ broken_text line
  pub ends : ending ≡ Refused (record { line = line; why = ByScript reason })

-- A text was played, whether or not it is a script.
abbrev pub IsDrill : (text printed : List ℕ) → Ending → Type 0
IsDrill text printed ending =
    ((script : Script) × IsScript text script × IsPlayed script printed ending) ⊎ IsNoScript text printed ending

-- What a reader has left, if that is known, was played, and the writer got exactly what that printed; or there was no
-- memory for the script or for what it prints, and the writer got nothing.
abbrev pub Drills : (says old new : Option (List ℕ)) → Ending → Type 0
Drills says old new ending =
    ((text printed : List ℕ) × IfSome says (λ octets. text ≡ octets) × Appends old new printed
    × IsDrill text printed ending)
    ⊎ ((ending ≡ NoMemoryLeft) × Keeps old new)

-- how a drill ends if no world was made
abbrev pub ending_without : TapesFault → Ending
ending_without (TapeOf peer fault) = NoTape (record { peer = peer; fault = fault })
ending_without NoTapesMemory = NoMemoryLeft

-- the line of a step, from 1, among these; 0 if there is none
abbrev pub line_of : List ℕ → ℕ → ℕ
line_of lines zero = 0
line_of lines (suc index) = slice_index_or lines index 0
