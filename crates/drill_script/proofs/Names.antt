-- The names of peers in an ordered set of octets.
use Rattle.std.proofs.Common.{◌≡◌, ◌↔◌, ℕ, Bool, true, false, List, [], ◌∷◌}
use Rattle.std.proofs.Common.{map, suc, zero, ◌||◌, inl, inr, refl, sym, subst}
use Rattle.std.proofs.Common.{ap, ◌∙◌, arith}
use Rattle.std.specs.Prelude.{◌⊎◌, Contains}
use Rattle.std.specs.BTreeMap.{is_at}
use Rattle.std.specs.Bool.{Decides}
use Rattle.std.specs.BTreeSet.{insert_key}
use Rattle.std.specs.Cmp.Lexicographic.{slice_cmp}
use Rattle.std.specs.List.{list_any}
use Rattle.std.specs.Ordering.{is_eq, match_ordering, nat_cmp}
use Rattle.std.specs.Vec.{vec_items}
use Rattle.std.specs.declared.alloc.Global.{Global}
use Rattle.std.specs.declared.cmp.Ordering.{Ordering}
use Rattle.std.specs.declared.cmp.Ordering.TheVariants.{Less, Equal, Greater}
use Rattle.std.specs.declared.vec.Vec.{Vec}
use Rattle.std.proofs.lemmas.Bool.Decides.{nat_tests}
use Rattle.std.proofs.lemmas.List.Elements.{Contains-append_cases, Contains-append_right}
use Rattle.std.proofs.lemmas.Map.Lookups.{exact_bytes}

abbrev pub Octets : Type 0
Octets = Vec ℕ Global

-- the order of the names
abbrev pub octets_cmp : Octets → Octets → Ordering
octets_cmp x y = slice_cmp nat_cmp x.items y.items

abbrev pub texts : List Octets → List (List ℕ)
texts keys = map vec_items keys

in_prefix : (x : List ℕ) (xs : List (List ℕ)) → Contains (x ∷ xs) x
in_prefix x xs = (0, omega arith, refl)

behind_it : (x y : List ℕ) (xs : List (List ℕ)) → Contains xs y → Contains (x ∷ xs) y
behind_it x y xs h = Contains-append_right (x ∷ []) xs y h

only_one : (x y : List ℕ) → Contains (x ∷ []) y → x ≡ y
only_one x y (zero, inside, is) = is
only_one x y (suc k, inside, is) = absurd (omega (arith, inside))

cases_prefix : (x y : List ℕ) (xs : List (List ℕ)) → Contains (x ∷ xs) y → (x ≡ y) ⊎ Contains xs y
cases_prefix x y xs h = elim (Contains-append_cases (x ∷ []) xs y h) [
  | inl one ↦ inl (only_one x y one)
  | inr more ↦ inr more
]

-- names that compare as equal are equal
same_octets : (a b : List ℕ) → slice_cmp nat_cmp a b ≡ Equal → a ≡ b
same_octets a b e = exact_bytes a b e

self_step : (x : ℕ) (xs : List ℕ) → slice_cmp nat_cmp xs xs ≡ Equal → slice_cmp nat_cmp (x ∷ xs) (x ∷ xs) ≡ Equal
self_step x xs e = grind (arith, nat_tests, e)

equal_self : (a : List ℕ) → slice_cmp nat_cmp a a ≡ Equal
equal_self [] = refl
equal_self (x ∷ xs) = self_step x xs (equal_self xs)

-- the keys that are this name
abbrev pub named : List ℕ → Octets → Ordering
named name key = slice_cmp nat_cmp name key.items

-- a key that the test finds is among the names
found_at : (name : List ℕ) (k : Octets) (keys : List Octets) (o : Ordering) → slice_cmp nat_cmp name k.items ≡ o →
    (is_eq o || list_any (is_at (named name)) keys) ≡ true →
    (list_any (is_at (named name)) keys ≡ true → Contains (texts keys) name) →
    Contains (texts (k ∷ keys)) name
found_at name k keys Less is e more = behind_it k.items name (texts keys) (more e)
found_at name k keys Equal is e more =
    subst (λ (n : List ℕ). Contains (k.items ∷ texts keys) n) (sym (same_octets name k.items is))
    (in_prefix k.items (texts keys))
found_at name k keys Greater is e more = behind_it k.items name (texts keys) (more e)

pub found : (name : List ℕ) (keys : List Octets) → list_any (is_at (named name)) keys ≡ true →
    Contains (texts keys) name
found name [] e = cc
found name (k ∷ keys) e = found_at name k keys (slice_cmp nat_cmp name k.items) refl e (found name keys)

-- and a key that it does not find is not
unfound_at : (name : List ℕ) (k : Octets) (keys : List Octets) (o : Ordering) → slice_cmp nat_cmp name k.items ≡ o →
    (is_eq o || list_any (is_at (named name)) keys) ≡ false →
    (list_any (is_at (named name)) keys ≡ false → Contains (texts keys) name → ⊥) →
    (k.items ≡ name) ⊎ Contains (texts keys) name → ⊥
unfound_at name k keys Less is e none (inl same) =
    let never : Less ≡ Equal = sym is ∙ ap (λ (n : List ℕ). slice_cmp nat_cmp name n) same
    ∙ equal_self name in cc
unfound_at name k keys Less is e none (inr more) = none e more
unfound_at name k keys Equal is e none h = cc
unfound_at name k keys Greater is e none (inl same) =
    let never : Greater ≡ Equal = sym is ∙ ap (λ (n : List ℕ). slice_cmp nat_cmp name n) same
    ∙ equal_self name in cc
unfound_at name k keys Greater is e none (inr more) = none e more

pub unfound : (name : List ℕ) (keys : List Octets) → list_any (is_at (named name)) keys ≡ false →
    Contains (texts keys) name → ⊥
unfound name [] e h = absurd (omega (arith, h.1))
unfound name (k ∷ keys) e h =
    unfound_at name k keys (slice_cmp nat_cmp name k.items) refl e (unfound name keys)
    (cases_prefix k.items name (texts keys) h)

-- what a set holds after one more key was added
gains_at : (key k : Octets) (keys rest : List Octets) (name : List ℕ) (o : Ordering) → octets_cmp key k ≡ o →
    (Contains (texts rest) name → Contains (texts keys) name ⊎ (key.items ≡ name)) →
    Contains (texts (match_ordering o (key ∷ k ∷ keys) (k ∷ keys) (k ∷ rest))) name →
    Contains (texts (k ∷ keys)) name ⊎ (key.items ≡ name)
gains_at key k keys rest name Less is more h = elim (cases_prefix key.items name (texts (k ∷ keys)) h) [
  | inl same ↦
      inr same
  | inr old ↦ inl old
]
gains_at key k keys rest name Equal is more h = inl h
gains_at key k keys rest name Greater is more h = elim (cases_prefix k.items name (texts rest) h) [
  | inl same ↦ inl (subst (λ (n : List ℕ). Contains (k.items ∷ texts keys) n) same (in_prefix k.items (texts keys)))
  | inr old ↦ elim (more old) [ inl there ↦ inl (behind_it k.items name (texts keys) there) | inr same ↦ inr same ]
]

pub gains_key : (key : Octets) (keys : List Octets) (name : List ℕ) →
    Contains (texts (insert_key octets_cmp keys key)) name → Contains (texts keys) name ⊎ (key.items ≡ name)
gains_key key [] name h = elim (cases_prefix key.items name [] h) [ inl same ↦ inr same | inr none ↦ inl none ]
gains_key key (k ∷ keys) name h =
    gains_at key k keys (insert_key octets_cmp keys key) name (octets_cmp key k) refl (gains_key key keys name) h

-- it holds what it held, and the key
keeps_at : (key k : Octets) (keys rest : List Octets) (name : List ℕ) (o : Ordering) → octets_cmp key k ≡ o →
    (Contains (texts keys) name ⊎ (key.items ≡ name) → Contains (texts rest) name) →
    Contains (texts (k ∷ keys)) name ⊎ (key.items ≡ name) →
    Contains (texts (match_ordering o (key ∷ k ∷ keys) (k ∷ keys) (k ∷ rest))) name
keeps_at key k keys rest name Less is more (inl old) = behind_it key.items name (texts (k ∷ keys)) old
keeps_at key k keys rest name Less is more (inr same) =
    subst (λ (n : List ℕ). Contains (key.items ∷ texts (k ∷ keys)) n) same (in_prefix key.items (texts (k ∷ keys)))
keeps_at key k keys rest name Equal is more (inl old) = old
keeps_at key k keys rest name Equal is more (inr same) =
    subst (λ (n : List ℕ). Contains (k.items ∷ texts keys) n) (sym (same_octets key.items k.items is) ∙ same)
    (in_prefix k.items (texts keys))
keeps_at key k keys rest name Greater is more (inl old) = elim (cases_prefix k.items name (texts keys) old) [
  | inl same ↦ subst (λ (n : List ℕ). Contains (k.items ∷ texts rest) n) same (in_prefix k.items (texts rest))
  | inr there ↦ behind_it k.items name (texts rest) (more (inl there))
]
keeps_at key k keys rest name Greater is more (inr same) = behind_it k.items name (texts rest) (more (inr same))

pub keeps_key : (key : Octets) (keys : List Octets) (name : List ℕ) →
    Contains (texts keys) name ⊎ (key.items ≡ name) → Contains (texts (insert_key octets_cmp keys key)) name
keeps_key key [] name (inl none) = absurd (omega (arith, none.1))
keeps_key key [] name (inr same) = subst (λ (n : List ℕ). Contains (key.items ∷ []) n) same (in_prefix key.items [])
keeps_key key (k ∷ keys) name h =
    keeps_at key k keys (insert_key octets_cmp keys key) name (octets_cmp key k) refl (keeps_key key keys name) h

-- whether a name is among them, by what a set answers
pub declares : (answer : Bool) (octets name : List ℕ) (keys : List Octets) (names : List (List ℕ)) →
    answer ≡ list_any (is_at (named octets)) keys → octets ≡ name →
    Contains (texts keys) name ↔ Contains names name → Decides answer (Contains names name)
declares true octets name keys names is same both = (
  λ e. both.0 (subst (Contains (texts keys)) same (found octets keys (sym is))),
  λ h. refl,
)
declares false octets name keys names is same both = (
  λ e. cc,
  λ h. absurd (unfound octets keys (sym is) (subst (Contains (texts keys)) (sym same) (both.1 h))),
)
