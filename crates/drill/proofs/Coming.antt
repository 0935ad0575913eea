-- The world of a drill has come about by its script's steps.
use Rattle.std.proofs.Common.{◌≡◌, ◌+◌, ◌++◌, ℕ, zero, suc, List, [], ◌∷◌, take, Some, ap, sym, ◌∙◌, subst, arith}
use Rattle.std.specs.List.{slice_get}
use Rattle.drill_script.specs.declared.read.Script.{Script}
use Rattle.world_core.specs.Laws.{Comes}
use Rattle.world_core.specs.Laws.Comes.{No_step, Step_taken, Step_refused}
use Rattle.world_core.specs.Past.{Life}
use Rattle.world_core.specs.Runs.{Runs}
use Rattle.world_core.specs.Runs.Runs.{Start, Next}
use Rattle.world_core.specs.Output.{View}
use Rattle.world_core.specs.declared.fault.Fault.{Fault}
use Rattle.world_core.specs.declared.step.Step.{Step}
use Rattle.drill.specs.Drill.{WasRefused}

pub runs_come : (begun : Life) (steps : List Step) (lines : List (List View)) (later : Life)
    → Runs begun steps lines later → Comes begun steps lines later
runs_come begun _ _ _ (Start safe sound) = No_step safe sound
runs_come begun _ _ _ (Next steps step lines outputs life later runs takes safe sound) =
    Step_taken steps step lines outputs life later (runs_come begun steps lines life runs) takes safe sound

take_next : {A : Type 0} (xs : List A) (k : ℕ) (x : A) → slice_get xs k ≡ Some x
    → take (suc k) xs ≡ take k xs ++ x ∷ []
take_next [] k x here = absurd cc
take_next (y ∷ xs) zero x here = let same : y ≡ x = cc in ap (λ z. z ∷ []) same
take_next (y ∷ xs) (suc k) x here = ap (λ l. y ∷ l) (take_next xs k x here)

pub refused_comes : (script : Script) (printed : List ℕ) (line : ℕ) (fault : Fault)
    (was : WasRefused script printed line fault)
    → Comes was.begun (take (was.index + 1) script.steps.items) was.lines was.later
refused_comes script printed line fault was =
    let steps = script.steps.items in
    let more : suc was.index ≡ was.index + 1 = omega arith in
    let all : take (was.index + 1) steps ≡ take was.index steps ++ was.step ∷ [] =
    ap (λ (n : ℕ). take n steps) (sym more) ∙ take_next steps was.index was.step was.here in
    subst (λ (some : List Step). Comes was.begun some was.lines was.later) (sym all)
    (Step_refused (take was.index steps) was.step was.lines fault was.mid was.later
    (runs_come was.begun (take was.index steps) was.lines was.mid was.runs) was.refuses was.safe was.sound)
