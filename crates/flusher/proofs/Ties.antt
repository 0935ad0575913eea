-- What a peer's lock keeps is of that peer's queue.
use Rattle.std.proofs.Common.{◌≡◌, ◌<◌, ℕ, List, length, map, get_or, refl, sym, ap, ◌∙◌}
use Rattle.std.specs.Prelude.{slice_get}
use Rattle.std.specs.Option.{option_map}
use Rattle.std.proofs.lemmas.Option.{same_Some, slice_get-map, slice_get_read}
use Rattle.atomic_table.specs.Seated.{TableId}
use Rattle.flusher.specs.Names.{IsTableAt}

-- at its place, once that is the peer's
pub tied_at : {A : Type 0} (f : A → TableId) (xs : List A) (tables : List TableId) (place peer : ℕ) (x : A)
    (t : TableId)
    → map f xs ≡ tables → IsTableAt tables place t → place ≡ peer → peer < length xs → x ≡ get_or xs peer x → t ≡ f x
tied_at f xs tables place peer x t all tied same within at =
    same_Some t (f x)
    (sym tied ∙ (ap (λ (n : ℕ). slice_get tables n) same ∙ (ap (λ (ts : List TableId). slice_get ts peer) (sym all)
    ∙ (slice_get-map f xs peer ∙ ap (option_map f) (slice_get_read xs (length xs) peer x refl within at)))))
