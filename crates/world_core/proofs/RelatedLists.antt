-- Lists related element by element.
use Rattle.std.proofs.Common.{◌≡◌, ℕ, suc, List, [], ◌∷◌, ◌++◌, length, map, refl}
use Rattle.std.proofs.Common.{◌∙◌, ap}
use Rattle.std.specs.List.{AllByRecursion, AllZip}
use Rattle.sections.specs.ListLaws.{zip_then}

module _ {A B : Type 0} (R : A → B → Type 0) where
  -- related lists, each appended to one of two related lists
  pub zip_append : (xs : List A) (ys : List B) (us : List A) (vs : List B) → AllZip R xs ys → AllZip R us vs
      → AllZip R (xs ++ us) (ys ++ vs)
  zip_append [] [] us vs all more = more
  zip_append [] (y ∷ ys) us vs all more = absurd all
  zip_append (x ∷ xs) [] us vs all more = absurd all
  zip_append (x ∷ xs) (y ∷ ys) us vs all more = (all.0, zip_append xs ys us vs all.1 more)

  pub zip_push : (xs : List A) (ys : List B) (x : A) (y : B) → AllZip R xs ys → R x y
      → AllZip R (xs ++ x ∷ []) (ys ++ y ∷ [])
  zip_push xs ys x y all one = zip_append xs ys (x ∷ []) (y ∷ []) all (one, tt)

  -- related lists have the same length
  pub zip_length : (xs : List A) (ys : List B) → AllZip R xs ys → length xs ≡ length ys
  zip_length [] [] all = refl
  zip_length [] (y ∷ ys) all = absurd all
  zip_length (x ∷ xs) [] all = absurd all
  zip_length (x ∷ xs) (y ∷ ys) all = ap (λ (n : ℕ). suc n) (zip_length xs ys all.1)

  -- if related elements have the same image under f and g, so have the lists
  pub zip_equal : {E : Type 0} (f : A → E) (g : B → E) → ((x : A) (y : B) → R x y → g y ≡ f x)
      → (xs : List A) (ys : List B) → AllZip R xs ys → map g ys ≡ map f xs
  zip_equal f g each [] [] all = refl
  zip_equal f g each [] (y ∷ ys) all = absurd all
  zip_equal f g each (x ∷ xs) [] all = absurd all
  zip_equal f g each (x ∷ xs) (y ∷ ys) all =
      ap (λ z. z ∷ map g ys) (each x y all.0) ∙ ap (λ l. f x ∷ l) (zip_equal f g each xs ys all.1)

  -- a property of each first element
  pub zip_first : (S : A → Type 0) → ((x : A) (y : B) → R x y → S x)
      → (xs : List A) (ys : List B) → AllZip R xs ys → AllByRecursion S xs
  zip_first S each [] ys all = tt
  zip_first S each (x ∷ xs) [] all = absurd all
  zip_first S each (x ∷ xs) (y ∷ ys) all = (each x y all.0, zip_first S each xs ys all.1)

  -- another relation, of the images of both
  pub zip_both : {E F : Type 0} (Q : E → F → Type 0) (f : A → E) (g : B → F)
      → ((x : A) (y : B) → R x y → Q (f x) (g y))
      → (xs : List A) (ys : List B) → AllZip R xs ys → AllZip Q (map f xs) (map g ys)
  zip_both Q f g each [] [] all = tt
  zip_both Q f g each [] (y ∷ ys) all = absurd all
  zip_both Q f g each (x ∷ xs) [] all = absurd all
  zip_both Q f g each (x ∷ xs) (y ∷ ys) all = (each x y all.0, zip_both Q f g each xs ys all.1)

-- a relation of each image under f, from one of the element
pub zip_map : {A B E : Type 0} (P : A → B → Type 0) (Q : E → B → Type 0) (f : A → E)
    → ((x : A) (y : B) → P x y → Q (f x) y)
    → (xs : List A) (ys : List B) → AllZip P xs ys → AllZip Q (map f xs) ys
zip_map P Q f each [] [] all = tt
zip_map P Q f each [] (y ∷ ys) all = absurd all
zip_map P Q f each (x ∷ xs) [] all = absurd all
zip_map P Q f each (x ∷ xs) (y ∷ ys) all = (each x y all.0, zip_map P Q f each xs ys all.1)

-- both: the composed relation, of each image under f
pub zip_through : {A B C E : Type 0} (P : A → B → Type 0) (R : B → C → Type 0) (Q : E → C → Type 0)
    (f : A → E)
    → ((x : A) (y : B) (z : C) → P x y → R y z → Q (f x) z)
    → (xs : List A) (ys : List B) (zs : List C) → AllZip P xs ys → AllZip R ys zs → AllZip Q (map f xs) zs
zip_through P R Q f each xs ys zs all more =
    zip_map (λ x z. Q (f x) z) Q f (λ x z is. is) xs zs (zip_then P R (λ x z. Q (f x) z) each xs ys zs all more)

-- each element is related to its image
pub zip_made : {A B : Type 0} (R : A → B → Type 0) (f : A → B) → ((x : A) → R x (f x)) → (xs : List A)
    → AllZip R xs (map f xs)
zip_made R f each [] = tt
zip_made R f each (x ∷ xs) = (each x, zip_made R f each xs)
