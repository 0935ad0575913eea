-- One step after another.
use Rattle.std.proofs.Common.{◌≡◌, ℕ, ◌+◌, List, [], ◌∷◌, ◌++◌, take, map, Some, refl, sym, ap, ◌∙◌, subst}
use Rattle.std.specs.List.{slice_get}
use Rattle.std.specs.Global.{Vec}
use Rattle.world_core.specs.Past.{Life}
use Rattle.world_core.specs.Safe.{IsSafe}
use Rattle.world_core.specs.Runs.{Runs, Start, Next}
use Rattle.world_core.specs.Stands.{Ran, StageStands, WasRefused, WorldStands}
use Rattle.world_core.specs.Output.{View, views_by, view_of}
use Rattle.world_core.specs.Turn.{Took, WasNotTaken}
use Rattle.world_core.specs.declared.fault.WorldFault.{WorldFault}
use Rattle.world_core.specs.declared.step.Step.{Step}
use Rattle.world_core.specs.declared.output.Output.{Output}
use Rattle.world_core.specs.declared.world.Stage.{Stage}
use Rattle.world_core.specs.declared.world.Stage.TheVariants.{Running, Stopped}
use Rattle.world_core.specs.declared.world.World.{World}
use Rattle.world_core.proofs.TapesStopped.{safe_stopped}
use Rattle.world_core.proofs.SoundOverEvents.{safe_of}

stage_safe : (life : Life) (stage : Stage) → StageStands life stage → IsSafe life.past
stage_safe life (Running stations connections) stands = safe_of stations life.past stands.1
stage_safe life (Stopped peers intake) stands = safe_stopped life.past peers.items intake stands.1 stands.2

-- a world that something stands for is safe, stopped or running
pub world_safe : (world : World) (life : Life) → WorldStands world life → IsSafe life.past
world_safe world life stands = stage_safe life world.stage stands.stage

pub ran_none : (steps : List Step) (life : Life) (lines : List (Vec Output)) (world : World) → steps ≡ [] → lines ≡ []
    → WorldStands world life
    → Ran steps life (views_by lines) world
ran_none steps life lines world none empty stands = record {
  later = life;
  runs = subst (λ (s : List Step). Runs life s (views_by lines) life) (sym none)
      (subst (λ (l : List (List View)). Runs life [] l life) (sym (ap views_by empty))
      (Start (world_safe world life stands) stands.sound));
  stands = stands;
}

views_push : (lines : List (Vec Output)) (outputs : Vec Output)
    → views_by (lines ++ outputs ∷ []) ≡ views_by lines ++ map view_of outputs.items ∷ []
views_push [] outputs = refl
views_push (line ∷ lines) outputs = ap (λ l. map view_of line.items ∷ l) (views_push lines outputs)

pub ran_more : (steps all : List Step) (step : Step) (life : Life) (lines now : List (Vec Output)) (outputs : Vec
    Output)
    (world later : World)
    → all ≡ steps ++ step ∷ [] → now ≡ lines ++ outputs ∷ [] → (ran : Ran steps life (views_by lines) world)
    → Took step ran.later outputs.items later
    → Ran all life (views_by now) later
ran_more steps all step life lines now outputs world later is more ran took = record {
  later = took.later;
  runs = subst (λ (s : List Step). Runs life s (views_by now) took.later) (sym is)
      (subst (λ (l : List (List View)). Runs life (steps ++ step ∷ []) l took.later)
      (sym (ap views_by more ∙ views_push lines outputs))
      (Next steps step (views_by lines) (map view_of outputs.items) ran.later took.later ran.runs took.takes
      (world_safe later took.later took.stands) took.stands.sound));
  stands = took.stands;
}

pub was_refused : (steps : List Step) (index : ℕ) (step : Step) (life : Life) (fault : WorldFault)
    (world later : World) → fault.step ≡ index + 1
    → slice_get steps index ≡ Some step → (ran : Ran (take index steps) life (views_by fault.lines.items) world)
    → WasNotTaken step ran.later fault.kind later → WasRefused steps life fault later
was_refused steps index step life fault world later numbered here ran refused = record {
  index = index;
  numbered = numbered;
  step = step;
  here = here;
  mid = ran.later;
  runs = ran.runs;
  later = refused.later;
  refuses = refused.refuses;
  safe = world_safe later refused.later refused.stands;
  stands = refused.stands;
}
