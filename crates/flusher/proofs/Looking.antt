-- A receipt looks at a place, and adds it.
use Rattle.std.proofs.Common.{◌≡◌, ℕ, List, ◌∙◌, set-set}
use Rattle.std.specs.Prelude.{slice_set}
use Rattle.flusher.specs.declared.sealing.PlaceProgress.{PlaceProgress}
use Rattle.flusher.specs.declared.sealing.PlaceProgress.TheVariants.{Done, Due}

-- what was due there is forgotten
pub added_there : (places now later : List PlaceProgress) (peer place due : ℕ) → now ≡ slice_set places peer (Due due)
    → place ≡ peer → later ≡ slice_set now place Done → later ≡ slice_set places peer Done
added_there places now later peer place due is at added =
    added ∙ ((λ i. slice_set (is i) (at i) Done) ∙ set-set places peer (Due due) Done)
