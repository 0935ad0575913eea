-- What comes of a world by a run, whether all its steps were taken or one was refused.
use Rattle.std.proofs.Common.{◌≡◌, ℕ, suc, ◌+◌, List, [], ◌∷◌, ◌++◌, take, refl, sym, ap, ◌∙◌, subst, arith}
use Rattle.std.proofs.Common.{append_assoc, append-nil}
use Rattle.world_core.specs.Past.{Life}
use Rattle.world_core.specs.Laws.{Comes}
use Rattle.world_core.specs.Laws.Comes.{No_step, Step_taken, Step_refused}
use Rattle.world_core.specs.Runs.{Runs}
use Rattle.world_core.specs.Runs.Runs.{Start, Next}
use Rattle.world_core.specs.Stands.{Ran, WasRefused, WorldStands}
use Rattle.world_core.specs.Output.{View, views_by}
use Rattle.world_core.specs.declared.fault.WorldFault.{WorldFault}
use Rattle.world_core.specs.declared.step.Step.{Step}
use Rattle.world_core.specs.declared.world.World.{World}
use Rattle.world_core.proofs.LineAtNamedPeers.{take_next}
use Rattle.world_core.proofs.Runs.{world_safe}

module _ (begun : Life) where
  comes_at : (steps steps' : List Step) (lines lines' : List (List View)) (later : Life) → steps' ≡ steps
      → lines' ≡ lines → Comes begun steps lines later → Comes begun steps' lines' later
  comes_at steps steps' lines lines' later same said comes =
      subst (λ (s : List Step). Comes begun s lines' later) (sym same)
      (subst (λ (l : List (List View)). Comes begun steps l later) (sym said) comes)

  -- steps are taken after those that came before
  comes_on : (before : List Step) (outputs : List (List View)) (mid : Life) → Comes begun before outputs mid
      → (steps : List Step) (lines : List (List View)) (later : Life) → Runs mid steps lines later
      → Comes begun (before ++ steps) (outputs ++ lines) later
  comes_on before outputs mid comes _ _ _ (Start safe sound) =
      comes_at before (before ++ []) outputs (outputs ++ []) mid (append-nil before) (append-nil outputs) comes
  comes_on before outputs mid comes _ _ _ (Next steps step lines said life later runs takes safe sound) =
      comes_at ((before ++ steps) ++ step ∷ []) (before ++ (steps ++ step ∷ [])) ((outputs ++ lines) ++ said ∷ [])
      (outputs ++ (lines ++ said ∷ [])) later (sym (append_assoc before steps (step ∷ [])))
      (sym (append_assoc outputs lines (said ∷ [])))
      (Step_taken (before ++ steps) step (outputs ++ lines) said life later
      (comes_on before outputs mid comes steps lines life runs) takes safe sound)

  pub ran_comes : (before steps : List Step) (outputs lines : List (List View)) (mid : Life) (new : World)
      → Comes begun before outputs mid → (ran : Ran steps mid lines new)
      → Comes begun (before ++ steps) (outputs ++ lines) ran.later
  ran_comes before steps outputs lines mid new comes ran = comes_on before outputs mid comes steps lines ran.later
      ran.runs

  pub refused_comes : (before steps : List Step) (outputs : List (List View)) (mid : Life) (fault : WorldFault)
      (new : World)
      → Comes begun before outputs mid → (was : WasRefused steps mid fault new)
      → Comes begun (before ++ take (was.index + 1) steps) (outputs ++ views_by fault.lines.items) was.later
  refused_comes before steps outputs mid fault new comes was =
      let prefix = take was.index steps in
      let lines = outputs ++ views_by fault.lines.items in
      let more : suc was.index ≡ was.index + 1 = omega arith in
      let all : take (was.index + 1) steps ≡ prefix ++ was.step ∷ [] =
      ap (λ (n : ℕ). take n steps) (sym more) ∙ take_next steps was.index was.step was.here in
      comes_at ((before ++ prefix) ++ was.step ∷ []) (before ++ take (was.index + 1) steps) lines lines was.later
      (ap (λ (l : List Step). before ++ l) all ∙ sym (append_assoc before prefix (was.step ∷ []))) refl
      (Step_refused (before ++ prefix) was.step lines fault.kind was.mid was.later
      (comes_on before outputs mid comes prefix (views_by fault.lines.items) was.mid was.runs) was.refuses was.safe
      was.stands.sound)

pub begins_so : (life : Life) (world : World) → WorldStands world life → Comes life [] [] life
begins_so life world stands = No_step (world_safe world life stands) stands.sound
