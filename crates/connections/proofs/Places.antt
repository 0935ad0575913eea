-- The first place that a list of suspects gives, found from the front.
use Rattle.std.proofs.Common.{◌≡◌, ◌+◌, ◌<◌, ◌∷◌, ℕ, List, Option, length, drop, ap, sym, ◌∙◌, get_or}
use Rattle.std.proofs.lemmas.List.{drop_more}
use Rattle.connections.specs.Suspects.{first_of, first_place_by}
use Rattle.connections.specs.declared.suspect_list.Suspect.{Suspect}

-- it is that of this one, or else of those after it, if those before it give none
pub from_here : (place_in : Suspect → Option ℕ) (suspects : List Suspect) (i : ℕ) (suspect : Suspect) (place : Option ℕ)
    → i < length suspects → suspect ≡ get_or suspects i suspect
    → first_place_by place_in (drop i suspects) ≡ first_place_by place_in suspects → place ≡ place_in suspect
    → first_of place (first_place_by place_in (drop (i + 1) suspects)) ≡ first_place_by place_in suspects
from_here place_in suspects i suspect place inside is so_far gives =
    ap (λ one. first_of one (first_place_by place_in (drop (i + 1) suspects))) gives
    ∙ ap (λ one. first_place_by place_in (one ∷ drop (i + 1) suspects)) is
    ∙ ap (first_place_by place_in) (sym (drop_more suspects i suspect inside))
    ∙ so_far
