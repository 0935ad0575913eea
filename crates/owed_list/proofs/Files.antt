-- The names that a walk over files, or over peers, has come to.
use Rattle.std.proofs.Common.{◌≡◌, ◌+◌, ◌<◌, ◌++◌, ◌∷◌, [], ℕ, List, Option, Some, inl, inr, suc, zero, map, take}
use Rattle.std.proofs.Common.{length, get_or, refl, sym, subst, ap, ◌∙◌, arith}
use Rattle.std.specs.Prelude.{◌⊎◌, ◌↔◌, Contains, unwrap_or}
use Rattle.std.proofs.lemmas.List.{map_more}
use Rattle.std.proofs.lemmas.List.Elements.{Contains-append_cases, Contains-append_left, Contains-append_right}
use Rattle.owed_list.specs.Names.{IsOfOne, IsStranger, peer_of}

-- one of these files is of a name that is not known
abbrev pub IsOfSome : (known files : List (List ℕ)) → List ℕ → Type 0
IsOfSome known files name = (file : List ℕ) × Contains files file × IsOfOne known file name

only : (x y : List ℕ) → Contains (x ∷ []) y → x ≡ y
only x y (zero, inside, is) = is
only x y (suc k, inside, is) = absurd (omega (arith, inside))

one : (x : List ℕ) → Contains (x ∷ []) x
one x = (0, omega arith, refl)

-- a list with one more at its end
more_cases : (xs : List (List ℕ)) (x y : List ℕ) → Contains (xs ++ x ∷ []) y → Contains xs y ⊎ (x ≡ y)
more_cases xs x y h = elim (Contains-append_cases xs (x ∷ []) y h) [
  | inl old ↦ inl old
  | inr last ↦ inr (only x y last)
]

more_has : (xs : List (List ℕ)) (x y : List ℕ) → Contains xs y ⊎ (x ≡ y) → Contains (xs ++ x ∷ []) y
more_has xs x y (inl old) = Contains-append_left xs (x ∷ []) y old
more_has xs x y (inr same) =
    Contains-append_right xs (x ∷ []) y (subst (λ (n : List ℕ). Contains (x ∷ []) n) same (one x))

-- a further file
of_more : (known files : List (List ℕ)) (file name : List ℕ) → IsOfSome known files name ⊎ IsOfOne known file name →
    IsOfSome known (files ++ file ∷ []) name
of_more known files file name (inl (one_of, there, is)) =
    (one_of, more_has files file one_of (inl there), is)
of_more known files file name (inr new) = (file, more_has files file file (inr refl), new)

of_cases : (known files : List (List ℕ)) (file name : List ℕ) → IsOfSome known (files ++ file ∷ []) name →
    IsOfSome known files name ⊎ IsOfOne known file name
of_cases known files file name (one_of, there, is) = elim (more_cases files file one_of there) [
  | inl old ↦ inl (one_of, old, is)
  | inr same ↦ inr (subst (λ (f : List ℕ). IsOfOne known f name) (sym same) is)
]

-- what a walk over a list has come to, with one more
one_more : {X : Type 0} (f : X → List ℕ) (xs : List X) (i : ℕ) (x : X) (text : List ℕ) → i < length xs →
    x ≡ get_or xs i x → text ≡ f x → map f (take (i + 1) xs) ≡ map f (take i xs) ++ text ∷ []
one_more {X} f xs i x text inside is named =
    map_more f xs i x inside ∙ ap (λ (y : X). map f (take i xs) ++ f y ∷ []) (sym is)
    ∙ ap (λ (n : List ℕ). map f (take i xs) ++ n ∷ []) (sym named)

-- a set that had the names so far, and got the next one
pub names_step : {X : Type 0} (f : X → List ℕ) (xs : List X) (i : ℕ) (x : X) (text : List ℕ)
    (old new : List (List ℕ)) → i < length xs → x ≡ get_or xs i x → text ≡ f x →
    ((n : List ℕ) → Contains old n ↔ Contains (map f (take i xs)) n) →
    ((n : List ℕ) → Contains new n ↔ (Contains old n ⊎ (text ≡ n))) →
    (n : List ℕ) → Contains new n ↔ Contains (map f (take (i + 1) xs)) n
names_step f xs i x text old new inside is named before adds = λ n.
    let more = one_more f xs i x text inside is named in (
      λ h. subst (λ (ns : List (List ℕ)). Contains ns n) (sym more)
          (more_has (map f (take i xs)) text n (elim ((adds n).0 h) [
            | inl there ↦ inl ((before n).0 there)
            | inr same ↦ inr same
          ])),
      λ h. (adds n).1
          (elim (more_cases (map f (take i xs)) text n (subst (λ (ns : List (List ℕ)). Contains ns n) more h)) [
            | inl there ↦ inl ((before n).1 there)
            | inr same ↦ inr same
          ]),
    )

-- a set that had the strangers of the files so far, and got that of the next one
pub strangers_step : {X : Type 0} (f : X → List ℕ) (xs : List X) (i : ℕ) (x : X) (text : List ℕ)
    (known old new : List (List ℕ)) → i < length xs → x ≡ get_or xs i x → text ≡ f x →
    ((n : List ℕ) → Contains old n ↔ IsOfSome known (map f (take i xs)) n) →
    ((n : List ℕ) → Contains new n ↔ (Contains old n ⊎ IsOfOne known text n)) →
    (n : List ℕ) → Contains new n ↔ IsOfSome known (map f (take (i + 1) xs)) n
strangers_step f xs i x text known old new inside is named before adds = λ n.
    let more = one_more f xs i x text inside is named in (
      λ h. subst (λ (ns : List (List ℕ)). IsOfSome known ns n) (sym more)
          (of_more known (map f (take i xs)) text n (elim ((adds n).0 h) [
            | inl there ↦ inl ((before n).0 there)
            | inr one ↦ inr one
          ])),
      λ h. (adds n).1
          (elim (of_cases known (map f (take i xs)) text n
          (subst (λ (ns : List (List ℕ)). IsOfSome known ns n) more h)) [
            | inl there ↦ inl ((before n).1 there)
            | inr one ↦ inr one
          ]),
    )

-- the same with the peers in place of the names that are known
stranger_of : (known files peers : List (List ℕ)) (n : List ℕ) → (Contains known n ↔ Contains peers n) →
    IsOfSome known files n → IsStranger files peers n
stranger_of known files peers n has (file, there, (of, strange)) = ((file, there, of), λ h. strange (has.1 h))

some_of : (known files peers : List (List ℕ)) (n : List ℕ) → (Contains known n ↔ Contains peers n) →
    IsStranger files peers n → IsOfSome known files n
some_of known files peers n has ((file, there, of), strange) = (file, there, (of, λ h. strange (has.0 h)))

-- a walk that is at its end
pub names_end : {X : Type 0} (f : X → List ℕ) (xs : List X) (i : ℕ) (set : List (List ℕ)) → take i xs ≡ xs →
    ((n : List ℕ) → Contains set n ↔ Contains (map f (take i xs)) n) →
    (n : List ℕ) → Contains set n ↔ Contains (map f xs) n
names_end {X} f xs i set all is =
    subst (λ (ys : List X). (n : List ℕ) → Contains set n ↔ Contains (map f ys) n) all is

pub strangers_end : {X : Type 0} (f : X → List ℕ) (xs : List X) (i : ℕ) (set known peers : List (List ℕ)) →
    take i xs ≡ xs →
    ((n : List ℕ) → Contains known n ↔ Contains peers n) →
    ((n : List ℕ) → Contains set n ↔ IsOfSome known (map f (take i xs)) n) →
    (n : List ℕ) → Contains set n ↔ IsStranger (map f xs) peers n
strangers_end {X} f xs i set known peers all has is = λ n.
    let at_end : Contains set n ↔ IsOfSome known (map f xs) n =
    subst (λ (ys : List X). Contains set n ↔ IsOfSome known (map f ys) n) all (is n) in (
      λ h. stranger_of known (map f xs) peers n (has n) (at_end.0 h),
      λ h. at_end.1 (some_of known (map f xs) peers n (has n) h),
    )

-- a file is of one name
one_name : (file a b : List ℕ) → peer_of file ≡ Some a → peer_of file ≡ Some b → a ≡ b
one_name file a b x y = ap (λ (o : Option (List ℕ)). unwrap_or o []) (sym x ∙ y)

-- a set that got the name of this file, which is not known
pub one_added : (known old new : List (List ℕ)) (file name : List ℕ) → peer_of file ≡ Some name →
    (Contains known name → ⊥) → ((n : List ℕ) → Contains new n ↔ (Contains old n ⊎ (name ≡ n))) →
    (n : List ℕ) → Contains new n ↔ (Contains old n ⊎ IsOfOne known file n)
one_added known old new file name of strange adds = λ n. (
  λ h. elim ((adds n).0 h) [
    | inl there ↦ inl there
    | inr same ↦ inr (subst (λ (m : List ℕ). IsOfOne known file m) same (of, strange))
  ],
  λ h. (adds n).1 (elim h [ inl there ↦ inl there | inr one ↦ inr (one_name file name n of one.0) ]),
)

-- a set that stays as it is, since the name of this file is known
pub none_added : (known old : List (List ℕ)) (file name : List ℕ) → peer_of file ≡ Some name → Contains known name →
    (n : List ℕ) → Contains old n ↔ (Contains old n ⊎ IsOfOne known file n)
none_added known old file name of there = λ n. (
  λ h. inl h,
  λ h. elim h [
    | inl has ↦ has
    | inr one ↦ absurd (one.1 (subst (λ (m : List ℕ). Contains known m) (one_name file name n of one.0) there))
  ],
)
