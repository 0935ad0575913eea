-- The body of a field, line by line.
use Rattle.std.proofs.Common.{◌≡◌, ◌++◌, ◌∷◌, ◌+◌, ◌<◌, [], ℕ, Bor, true, false, List, length, map, drop}
use Rattle.std.proofs.Common.{drop-cons, get_or, add-one, suc, refl, sym, ap, ◌∙◌}
use Rattle.header_fields.specs.Header.{begins_field, first_body, folds, is_folded}

pub folds-more : (line : List ℕ) (others : List (List ℕ)) → is_folded line ≡ true
    → folds (line ∷ others) ≡ line ++ folds others
folds-more line others h = rw h refl

pub folds-end : (line : List ℕ) (others : List (List ℕ)) → is_folded line ≡ false → folds (line ∷ others) ≡ []
folds-end line others h = rw h refl

pub first_body-here : (line : List ℕ) (others : List (List ℕ)) → begins_field line ≡ true
    → first_body (line ∷ others) ≡ drop 11 line ++ folds others
first_body-here line others h = rw h refl

pub first_body-later : (line : List ℕ) (others : List (List ℕ)) → begins_field line ≡ false
    → first_body (line ∷ others) ≡ first_body others
first_body-later line others h = rw h refl

-- The field that begins on the line at this index is the first, if none begins before.
pub first_body-at : (lines : List (Bor (List ℕ))) (index : ℕ) (d : Bor (List ℕ)) → index < length lines
    → begins_field (get_or lines index d).now ≡ true
    → first_body (map (λ line. line.now) (drop index lines))
    ≡ drop 11 (get_or lines index d).now ++ folds (map (λ line. line.now) (drop (index + 1) lines))
first_body-at lines index d within begins =
    ap (λ left. first_body (map (λ line. line.now) left)) (drop-cons lines index d within)
    ∙ (first_body-here (get_or lines index d).now (map (λ line. line.now) (drop (suc index) lines)) begins
    ∙ ap (λ next. drop 11 (get_or lines index d).now ++ folds (map (λ line. line.now) (drop next lines))) (sym
    (add-one index)))
