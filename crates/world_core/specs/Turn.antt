-- What a call that takes one step returns.
use Rattle.std.specs.Prelude.{◌≡◌, ◌⊎◌, ℕ, true, false, List, [], ◌∷◌, map, option_map}
use Rattle.disk_model.specs.declared.choice.Choice.{Choice}
use Rattle.recovery.specs.declared.fault.TapeFault.TheVariants.{Disk}
use Rattle.world_core.specs.Past.{Life, Past}
use Rattle.world_core.specs.Halts.{AtRest, ByChoice, GoesOn, halted}
use Rattle.world_core.specs.Runs.{Refuses, RefusesStep, Takes}
use Rattle.world_core.specs.Sound.{IsSoundLife}
use Rattle.world_core.specs.Stands.{WorldStands, armed_as}
use Rattle.world_core.specs.Stepped.{DiskFails}
use Rattle.world_core.specs.Steps.{must_run}
use Rattle.world_core.specs.Output.{View, Stopped as SaidStopped, view_of}
use Rattle.world_core.specs.declared.fault.Fault.{Fault}
use Rattle.world_core.specs.declared.fault.Fault.TheVariants.{NoMemory, Stopped as HasStopped, Tape}
use Rattle.world_core.specs.declared.fault.Halt.{Halt}
use Rattle.world_core.specs.declared.peer.StoppedPeer.{StoppedPeer}
use Rattle.world_core.specs.declared.step.Step.{Step}
use Rattle.world_core.specs.declared.output.Output.{Output}
use Rattle.world_core.specs.declared.world.Stage.{Stage}
use Rattle.world_core.specs.declared.world.Stage.TheVariants.{Running, Stopped}
use Rattle.world_core.specs.declared.world.World.{World}

-- the step was taken, and reported this
pub record Took (step : Step) (life : Life) (outputs : List Output) (world : World) : Type 0 where
  pub later : Life
  pub takes : Takes step life (map view_of outputs) later
  pub stands : WorldStands world later

-- the step was refused
pub record WasNotTaken (step : Step) (life : Life) (fault : Fault) (world : World) : Type 0 where
  pub later : Life
  pub refuses : RefusesStep step life fault later
  pub stands : WorldStands world later

-- the names of a world's peers, in order
abbrev pub names_at : Stage → List (List ℕ)
names_at (Running stations connections) = map (λ peer. peer.conf.name) stations.peers.items
names_at (Stopped peers intake) = map (λ (peer : StoppedPeer). peer.conf.name) peers.items

-- a step makes this of the world, and reports this
pub record Made (T : Life → List View → Life → Type 0) (life : Life) (outputs : List Output) (world : World) : Type 0
  where
    pub later : Life
    pub makes : T life (map view_of outputs) later
    pub stands : WorldStands world later

-- a step is refused
pub record Refused (R : Life → Fault → Life → Type 0) (life : Life) (fault : Fault) (world : World) : Type 0 where
  pub later : Life
  pub refuses : R life fault later
  pub stands : WorldStands world later

-- what a stop at rest does, and how it is refused
abbrev pub TakesRest : Life → List View → Life → Type 0
TakesRest life outputs later = (life.running ≡ true) × (outputs ≡ SaidStopped ∷ []) × (later
    ≡ halted AtRest life.past life)

abbrev pub RefusesRest : Life → Fault → Life → Type 0
RefusesRest life fault later =
    (((fault ≡ HasStopped) × (life.running ≡ false)) ⊎ ((fault ≡ NoMemory) × (life.running ≡ true))) × (later ≡ life)

-- ---- a step that may meet a stop

-- the step was refused, and no stop was looked for yet
pub record WasHalted (step : Step) (life : Life) (halt : Halt) (world : World) : Type 0 where
  pub under_way : Past
  pub now : Life
  pub goes_on : GoesOn life under_way now
  pub refuses : Refuses step life halt.fault now
  pub stands : WorldStands world now
  pub disk : halt.fault ≡ Tape Disk → (life.running ≡ must_run step) × DiskFails step life.past halt under_way

-- a stop was met, and reported
pub record WasStruck (life : Life) (under_way : Past) (choice : Choice) (outputs : List Output) (world : World) :
    Type 0 where
  pub outputs_are : map view_of outputs ≡ SaidStopped ∷ []
  pub stands : WorldStands world (halted (ByChoice choice) under_way life)

-- Or there was no memory for what its choice leaves, and all has stopped as at rest; or there was none to stop either,
-- and the step is refused.
abbrev pub WasStruckUnreported : (life : Life) → (under_way : Past) → (now : Life) → (refused fault : Fault) → World
    → Type 0
WasStruckUnreported life under_way now refused fault world =
    ((fault ≡ refused) × WorldStands world now)
    ⊎ ((fault ≡ NoMemory) × WorldStands world (halted AtRest under_way life))

-- the world, but for its tapes and connections
pub record Awaits (world : World) (life : Life) : Type 0 where
  pub armed : option_map armed_as world.armed ≡ life.armed
  pub connected : world.connected ≡ life.connected
  pub now : world.now ≡ life.now
  pub sound : IsSoundLife life
