-- A binary search for a name.
use Rattle.std.proofs.Common.{◌≡◌, ◌<◌, ◌≤◌, ◌⊎◌, rules, ℕ, zero, suc, Bool, true, false, List, [], ◌∷◌}
use Rattle.std.proofs.Common.{length, refl, sym, ◌∙◌, ap, arith, ◌||◌, get_or, inl, inr, ⊎_elim, lit<}
use Rattle.std.specs.Prelude.{Result, Ok, Err, is_ok}
use Rattle.std.specs.List.{AllWithin, HoldsAt, list_any}
use Rattle.std.specs.List.Sorted.{IsBinarySearchResult, IsPartitionPoint, IsSearchInRange}
use Rattle.std.specs.Str.{bytes_eq}
use Rattle.std.specs.Cmp.Lexicographic.{slice_cmp}
use Rattle.std.specs.Ordering.{is_eq, nat_cmp}
use Rattle.std.specs.declared.cmp.Ordering.{Ordering}
use Rattle.std.specs.declared.cmp.Ordering.TheVariants.{Less, Equal, Greater}
use Rattle.std.proofs.lemmas.List.Folds.{list_any_at}
use Rattle.std.proofs.lemmas.Map.Text.{is_eq-slice_cmp}
use Rattle.kept_lines.specs.Names.{AreRising, is_named}

-- what a comparison with a name answers of another
abbrev order : List ℕ → List ℕ → Ordering
order name one = slice_cmp nat_cmp one name

same_at : (one name : List ℕ) (answer : Ordering) → order name one ≡ answer → bytes_eq one name ≡ is_eq answer
same_at one name answer e = sym (is_eq-slice_cmp one name) ∙ ap is_eq e

none_same : (names : List (List ℕ)) (name : List ℕ)
    → ((k : ℕ) (d : List ℕ) → k < length names → bytes_eq (get_or names k d) name ≡ false) → is_named names name ≡ false
none_same [] name differ = refl
none_same (one ∷ names) name differ =
    let first : bytes_eq one name ≡ false = differ zero one (omega arith) in
    let rest : is_named names name ≡ false = none_same names name (λ k d inside. differ (suc k) d (omega arith)) in
    rw (first, rest) refl

none_found : (names : List (List ℕ)) (name : List ℕ) (i : ℕ)
    → IsPartitionPoint (λ one. order name one ≡ Less) (λ one. order name one ≡ Greater) names i
    → is_named names name ≡ false
none_found names name i (below, above) =
    none_same names name (λ k d inside. ⊎_elim
    (λ low. same_at (get_or names k d) name Less (below k d (omega arith) low))
    (λ high. same_at (get_or names k d) name Greater (above k d high inside))
    (split k i))
  where
    split : (k i : ℕ) → (k < i) ⊎ (i ≤ k)
    split k i = search (rules, arith)

pub searched : (names : List (List ℕ)) (name : List ℕ) (answer : Result ℕ ℕ) (found : Bool) → found ≡ is_ok answer
    → IsSearchInRange answer (length names) → IsBinarySearchResult (order name) names answer
    → ((found ≡ true → is_named names name ≡ true) × (AreRising names → found ≡ is_named names name))
searched names name (Ok i) found is inside at =
    let named : is_named names name ≡ true =
    list_any_at (λ one. bytes_eq one name) names i [] inside (same_at (get_or names i []) name Equal (at [])) in
    (λ yes. named, λ rising. is ∙ sym named)
searched names name (Err i) found is inside at =
    (λ yes. absurd-ne (sym is ∙ yes), λ rising. is ∙ sym (none_found names name i (at (rising name))))
  where
    absurd-ne : false ≡ true → is_named names name ≡ true
    absurd-ne e = cc
