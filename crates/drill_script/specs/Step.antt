-- The steps of a script, by what they carry (docs/FORMATS.md).
use Rattle.std.specs.Prelude.{ℕ, ◌==◌, if◌then◌else◌, List}
use Rattle.world_core.specs.declared.step.Step.{Step}
use Rattle.world_core.specs.declared.step.Step.TheVariants.{Line, Flush, Begin, Part, Seal, Connect, Hand, Bytes}
use Rattle.world_core.specs.declared.step.Step.TheVariants.{Article, Break, Tick, Shed, Rotate, Import, Stop}
use Rattle.world_core.specs.declared.step.Step.TheVariants.{Restart}
use Rattle.drill_script.specs.Action.{ActionView, Hands, Receives, Supplies, Breaks}
use Rattle.drill_script.specs.StopRequest.{Armed}

pub data StepView : Type 0 where
  -- a funnel line
  Lines : List ℕ → StepView
  -- all stations are flushed
  Flushes : StepView
  -- the last line's number is kept
  Begins : StepView
  -- this peer's station is flushed
  Parts : List ℕ → StepView
  -- the kept number is noted on the intake's tape, and that is flushed
  Seals : StepView
  -- a connection to this peer is made
  Connects : List ℕ → StepView
  -- the connection of this number does this
  Acts : ℕ → ActionView → StepView
  -- the moment is this
  Ticks : ℕ → StepView
  -- what exceeds this peer's backlog limit is dropped
  Sheds : List ℕ → StepView
  -- the tape of this peer is rotated
  Rotates : List ℕ → StepView
  -- a backlog file of this peer, which has this text, is taken in
  Imports : (name text : List ℕ) → StepView
  -- all stops, at rest
  Stops : StepView
  -- a stop is armed
  Arms : Armed → StepView
  -- all tapes are opened again
  Restarts : StepView

-- what a step of a world carries; nothing is looked at for a stop at rest
abbrev pub step_view : Step → StepView
step_view (Line text) = Lines text.items
step_view Flush = Flushes
step_view Begin = Begins
step_view (Part name) = Parts name
step_view Seal = Seals
step_view (Connect name) = Connects name
step_view (Hand number) = Acts number Hands
step_view (Bytes number octets) = Acts number (Receives octets.items)
step_view (Article number found) = Acts number (Supplies found)
step_view (Break number) = Acts number Breaks
step_view (Tick moment) = Ticks moment
step_view (Shed name) = Sheds name
step_view (Rotate name) = Rotates name
step_view (Import name text) = Imports name text.items
step_view (Stop peer call choice) =
    if call == 0 then Stops else Arms (record { peer = peer; call = call; choice = choice })
step_view Restart = Restarts
