-- Texts that are joined, one more at a time.
use Rattle.std.proofs.Common.{◌≡◌, ◌+◌, ◌<◌, ◌++◌, ℕ, List, [], ◌∷◌, length, take, get_or, refl, sym, ◌∙◌, ap}
use Rattle.std.proofs.lemmas.List.{append-nil, append_assoc, take_more}
use Rattle.kept_lines.specs.Texts.{joined}

joined_snoc : {A : Type 0} (f : A → List ℕ) (xs : List A) (x : A) → joined f (xs ++ x ∷ []) ≡ joined f xs ++ f x
joined_snoc f [] x = append-nil (f x)
joined_snoc f (y ∷ xs) x =
    ap (λ (l : List ℕ). f y ++ l) (joined_snoc f xs x) ∙ sym (append_assoc (f y) (joined f xs) (f x))

pub joined_step : {A : Type 0} (f : A → List ℕ) (xs : List A) (i : ℕ) (x : A) → i < length xs → x ≡ get_or xs i x
    → joined f (take (i + 1) xs) ≡ joined f (take i xs) ++ f x
joined_step f xs i x inside is =
    ap (joined f) (take_more xs i x inside ∙ ap (λ y. take i xs ++ y ∷ []) (sym is)) ∙ joined_snoc f (take i xs) x

-- a text, and what follows it
pub joined_on : {A : Type 0} (f : A → List ℕ) (xs : List A) (i : ℕ) (x : A) (start text more : List ℕ) → i < length xs
    → x ≡ get_or xs i x → text ≡ start ++ joined f (take i xs) → more ≡ text ++ f x
    → more ≡ start ++ joined f (take (i + 1) xs)
joined_on f xs i x start text more inside is so_far one =
    one ∙ (ap (λ (l : List ℕ). l ++ f x) so_far ∙ (append_assoc start (joined f (take i xs)) (f x)
    ∙ ap (λ (l : List ℕ). start ++ l) (sym (joined_step f xs i x inside is))))
