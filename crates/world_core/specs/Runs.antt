-- What steps make of a world, what they report, why they are refused, and how a stop is met in them (docs/FORMATS.md);
-- and runs of steps.
use Rattle.std.specs.Prelude.{◌≡◌, ◌⊎◌, true, false, not, Some, List, [], ◌∷◌, ◌++◌}
use Rattle.recovery.specs.declared.fault.TapeFault.TheVariants.{Disk}
use Rattle.world_core.specs.Past.{Armed, Life, Past}
use Rattle.world_core.specs.Safe.{IsSafe}
use Rattle.world_core.specs.Events.{calls_disk}
use Rattle.world_core.specs.Steps.{FailsPlan, RefusesPlan, TakesPlan, must_run, off_fault}
use Rattle.world_core.specs.Exchange.{FailsToBreak, FailsToHand, FailsToRead, FailsToSupply, OnPair, RefusesConnect}
use Rattle.world_core.specs.Exchange.{RefusesOn, RefusesTick, TakesArticle, TakesBreak, TakesBytes, TakesConnect}
use Rattle.world_core.specs.Exchange.{TakesHand, TakesTick}
use Rattle.world_core.specs.Halts.{AtRest, ByChoice, GoesOn, RefusesStop, TakesStop, halted}
use Rattle.world_core.specs.Sound.{IsSoundLife}
use Rattle.world_core.specs.Output.{View, Stopped as SaidStopped}
use Rattle.world_core.specs.declared.fault.Fault.{Fault}
use Rattle.world_core.specs.declared.fault.Fault.TheVariants.{NoMemory, Stopped, Tape}
use Rattle.world_core.specs.declared.step.Step.{Step}
use Rattle.world_core.specs.declared.step.Step.TheVariants.{Article, Break, Bytes, Connect, Hand, Stop, Tick}

-- ---- steps that are taken

-- the world runs, or has stopped, as it must; the step makes this of its tapes, and it runs then
abbrev pub TakesTapes : Step → Life → List View → Life → Type 0
TakesTapes step life outputs later = (life.running ≡ must_run step)
    × ((past : Past) × TakesPlan step life.past outputs past × (later ≡ record life { past = past; running = true }))

-- the world runs, and the step makes this of it
abbrev pub OnWorld : (Life → List View → Life → Type 0) → Life → List View → Life → Type 0
OnWorld T life outputs later = (life.running ≡ true) × T life outputs later

-- what a step makes of a world, and reports, if no stop is met
abbrev pub Does : Step → Life → List View → Life → Type 0
Does (Connect name) life outputs later = OnWorld (TakesConnect name) life outputs later
Does (Hand id) life outputs later = OnWorld (OnPair TakesHand id) life outputs later
Does (Bytes id octets) life outputs later = OnWorld (OnPair (TakesBytes octets.items) id) life outputs later
Does (Article id found) life outputs later = OnWorld (OnPair (TakesArticle found) id) life outputs later
Does (Break id) life outputs later = OnWorld (OnPair TakesBreak id) life outputs later
Does (Tick now) life outputs later = OnWorld (TakesTick now) life outputs later
Does (Stop peer call choice) life outputs later = TakesStop peer call choice life outputs later
Does step life outputs later = TakesTapes step life outputs later

-- ---- steps that are refused

-- the world does not run, or has not stopped, as it must, which is looked at first; or the step is refused on its tapes
abbrev pub RefusesTapes : Step → Life → Fault → Life → Type 0
RefusesTapes step life fault later =
    ((fault ≡ off_fault step) × (life.running ≡ not (must_run step)) × (later ≡ life))
    ⊎ ((life.running ≡ must_run step)
    × ((under_way : Past) × RefusesPlan step life.past fault under_way × GoesOn life under_way later))

-- all has stopped, which is looked at first; or the world runs, and the step is refused
abbrev pub RefusesWorld : (Life → Fault → Life → Type 0) → Life → Fault → Life → Type 0
RefusesWorld R life fault later =
    ((fault ≡ Stopped) × (life.running ≡ false) × (later ≡ life)) ⊎ ((life.running ≡ true) × R life fault later)

-- a step is refused for this fault, and leaves this, if no stop is met
abbrev pub Refuses : Step → Life → Fault → Life → Type 0
Refuses (Connect name) life fault later = RefusesWorld (RefusesConnect name) life fault later
Refuses (Hand id) life fault later = RefusesWorld (RefusesOn FailsToHand id) life fault later
Refuses (Bytes id octets) life fault later = RefusesWorld (RefusesOn (FailsToRead octets.items) id) life fault later
Refuses (Article id found) life fault later = RefusesWorld (RefusesOn (FailsToSupply found) id) life fault later
Refuses (Break id) life fault later = RefusesWorld (RefusesOn FailsToBreak id) life fault later
Refuses (Tick now) life fault later = RefusesWorld (RefusesTick now) life fault later
Refuses (Stop peer call choice) life fault later = RefusesStop peer call life fault later
Refuses step life fault later = RefusesTapes step life fault later

-- ---- a stop is met

-- An armed stop was met: some of the step's events were taken, from the first on, and in the next, at the tape that the
-- stop names, a disk failed.
pub record Meets (step : Step) (life : Life) (stop : Armed) (under_way : Past) : Type 0 where
  pub armed : life.armed ≡ Some stop
  pub running : life.running ≡ must_run step
  pub failed : FailsPlan step life.past (Tape Disk) under_way
  pub at_tape : calls_disk failed.fails.event ≡ Some stop.rank

-- each disk, also of tapes that were at rest, has what the stop's choice leaves, and the step reports only the stop
pub record Strikes (step : Step) (life : Life) (outputs : List View) (later : Life) : Type 0 where
  pub stop : Armed
  pub under_way : Past
  pub meets : Meets step life stop under_way
  pub outputs_are : outputs ≡ SaidStopped ∷ []
  pub changed : later ≡ halted (ByChoice stop.choice) under_way life

-- or, if there is no memory for what the choice leaves, all has stopped as at rest
pub record StrikesUnreported (step : Step) (life : Life) (fault : Fault) (later : Life) : Type 0 where
  pub stop : Armed
  pub under_way : Past
  pub meets : Meets step life stop under_way
  pub refused : fault ≡ NoMemory
  pub changed : later ≡ halted AtRest under_way life

-- what a step makes of a world, and reports: its own, or that of a stop that is met in it
abbrev pub Takes : Step → Life → List View → Life → Type 0
Takes step life outputs later = Does step life outputs later ⊎ Strikes step life outputs later

-- a step is refused: for its own reason, or for want of memory if a stop is met in it
abbrev pub RefusesStep : Step → Life → Fault → Life → Type 0
RefusesStep step life fault later = Refuses step life fault later ⊎ StrikesUnreported step life fault later

-- ---- runs

-- These steps were taken, one after another, and this is what each reported. Before and after each step the world is
-- sound, and whatever a stop leaves is safe; it is also safe after each event in a step, and at each moment within an
-- event.
pub data Runs (begun : Life) : List Step → List (List View) → Life → Type 0 where
  Start : IsSafe begun.past → IsSoundLife begun → Runs begun [] [] begun
  Next : (steps : List Step) (step : Step) (lines : List (List View)) (outputs : List View) (life later : Life)
      → Runs begun steps lines life
      → Takes step life outputs later → IsSafe later.past → IsSoundLife later
      → Runs begun (steps ++ step ∷ []) (lines ++ outputs ∷ []) later
