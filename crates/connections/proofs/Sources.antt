-- Texts that are kept are what a source gave.
use Rattle.std.proofs.Common.{◌≡◌, ℕ, zero, suc, ◌-◌, Bool, true, false, List, [], ◌∷◌, length, take}
use Rattle.std.proofs.Common.{Option, Some, None, refl, sym, subst}
use Rattle.std.specs.Prelude.{cond, nat_le, nat_lt, ◌&&◌, if◌then◌else◌, Result, Ok, Err, IfSome, OnOk, OnErr}
use Rattle.std.specs.Result.{MatchResult, result_ok}
use Rattle.std.specs.List.{AllByRecursion}
use Rattle.std.specs.Map.{lookup, remove_entry}
use Rattle.std.specs.Option.{option_map_or}
use Rattle.std.specs.Str.{bytes_eq}
use Rattle.std.specs.Cmp.Lexicographic.{same_text}
use Rattle.std.proofs.lemmas.Bool.{and_parts}
use Rattle.std.proofs.Math.Logic.{∥∥₁_elim, ∥∥₁_map, ∥∥₁_prop}
use Rattle.article_store.specs.declared.store.Found.{Found}
use Rattle.article_store.specs.declared.store.Found.TheVariants.{Article}
use Rattle.connections.specs.Sources.{AreGiven, IsGiven, IsGivenFor}
use Rattle.connections.specs.declared.kept_texts.KeptText.{KeptText}
use Rattle.connections.specs.Kept.{first_within, kept_with, latest_with, text_for, text_if_for}

module _ (P : List ℕ × KeptText → Type 0) where
  all-remove : (test : List ℕ → Bool) (kept : List (List ℕ × KeptText)) → AllByRecursion P kept
      → AllByRecursion P (remove_entry test kept)
  all-remove test [] all = tt
  all-remove test (one ∷ rest) all = either (test one.0) (all-remove test rest all.1)
    where
      either : (b : Bool) → AllByRecursion P (remove_entry test rest)
          → AllByRecursion P (cond b rest (one ∷ remove_entry test rest))
      either true less = all.1
      either false less = (all.0, less)

  all-take : (n : ℕ) (kept : List (List ℕ × KeptText)) → AllByRecursion P kept → AllByRecursion P (take n kept)
  all-take zero kept all = tt
  all-take (suc n) [] all = tt
  all-take (suc n) (one ∷ rest) all = (all.0, all-take n rest all.1)

  all-within : (most : ℕ) (kept : List (List ℕ × KeptText)) → AllByRecursion P kept
      → AllByRecursion P (first_within most kept)
  unfolding first_within
  all-within most [] all = tt
  all-within most (one ∷ rest) all =
      either (nat_le (length one.1.text) most) (all-within (most - length one.1.text) rest all.1)
    where
      either : (b : Bool) → AllByRecursion P (first_within (most - length one.1.text) rest)
          → AllByRecursion P (if b then one ∷ first_within (most - length one.1.text) rest else [])
      either true less = (all.0, less)
      either false less = tt

  pub all-with : (token : List ℕ) (one : KeptText) (kept : List (List ℕ × KeptText)) → P (token, one)
      → AllByRecursion P kept → AllByRecursion P (kept_with token one kept)
  unfolding kept_with latest_with
  all-with token one kept this all = either (nat_le (length one.text) 4194304)
    where
      either : (b : Bool)
          → AllByRecursion P (if b then first_within 4194304 (latest_with 4096 token one kept) else kept)
      either true =
          all-within 4194304 (latest_with 4096 token one kept)
          (all-take 4096 ((token, one) ∷ remove_entry (bytes_eq token) kept)
          (this, all-remove (bytes_eq token) kept all))
      either false = all

  all-lookup : (token : List ℕ) (kept : List (List ℕ × KeptText)) (one : KeptText)
      → lookup (bytes_eq token) kept ≡ Some one → AllByRecursion P kept → P (token, one)
  all-lookup token [] one is all = cc
  all-lookup token (other ∷ rest) one is all =
      either (bytes_eq token other.0) refl is (λ is. all-lookup token rest one is all.1)
    where
      either : (b : Bool) → bytes_eq token other.0 ≡ b → cond b (Some other.1) (lookup (bytes_eq token) rest) ≡ Some one
          → (lookup (bytes_eq token) rest ≡ Some one → P (token, one)) → P (token, one)
      either true same is on = let one-is : other.1 ≡ one = cc in
          subst (λ t. P (t, one)) (sym (same_text token other.0 (sym same))) (subst (λ o. P (other.0, o)) one-is all.0)
      either false same is on = on is

  -- what is found was kept
  pub all-text : (token id : List ℕ) (now : ℕ) (kept : List (List ℕ × KeptText)) (text : List ℕ)
      → text_for token id now kept ≡ Some text → AllByRecursion P kept
      → (one : KeptText) × (P (token, one) × ((one.id ≡ id) × (one.text ≡ text)))
  all-text token id now kept text is all = either (lookup (bytes_eq token) kept) refl is
    where
      within : (one : KeptText) (b : Bool) → (bytes_eq one.id id && nat_lt (now - one.read_at) 10) ≡ b
          → (if b then Some one.text else None) ≡ Some text → (one.id ≡ id) × (one.text ≡ text)
      within one true same is = (same_text one.id id (sym (and_parts _ _ same).0), cc)
      within one false same is = cc

      either : (found : Option KeptText) → lookup (bytes_eq token) kept ≡ found
          → option_map_or (text_if_for id now) found None ≡ Some text
          → (one : KeptText) × (P (token, one) × ((one.id ≡ id) × (one.text ≡ text)))
      either None there is = cc
      either (Some one) there is =
          let at = within one (bytes_eq one.id id && nat_lt (now - one.read_at) 10) refl is in
          (one, (all-lookup token kept one there all, at))

module _ {A : Type 0} (gives : A → (token id : List ℕ) → Found → Type 0) where
  -- what is found among the texts that are kept is what a source gave
  pub found_is_given : (token id : List ℕ) (now : ℕ) (kept : Option (List (List ℕ × KeptText)))
      (texts : List (List ℕ × KeptText)) (text : List ℕ) → ∥ AreGiven gives kept ∥₁ → kept ≡ Some texts
      → text_for token id now texts ≡ Some text → IsGivenFor gives token id (Article text)
  found_is_given token id now kept texts text all is found =
      ∥∥₁_elim all ∥∥₁_prop (λ given.
      let all : AllByRecursion (IsGiven gives) texts = subst (AreGiven gives) is given in
      let one = all-text (IsGiven gives) token id now texts text found all in
      subst (λ t. IsGivenFor gives token id (Article t)) one.1.1.1
      (subst (λ i. IsGivenFor gives token i (Article one.0.text)) one.1.1.0 one.1.0))

  -- and so it is with one more that a source gave
  pub stays_given : {E : Type 0} (token : List ℕ) (one : KeptText) (kept : Option (List (List ℕ × KeptText)))
      (old new : List (List ℕ × KeptText)) (result : Result (Unit {0}) E) → ∥ AreGiven gives kept ∥₁
      → kept ≡ Some old → IsGiven gives (token, one) → OnOk result (new ≡ kept_with token one old)
      → OnErr result (new ≡ old) → ∥ AreGiven gives (Some new) ∥₁
  stays_given token one kept old new (Ok done) all is given ok err = ∥∥₁_map all (λ all.
      subst (AllByRecursion (IsGiven gives)) (sym ok)
      (all-with (IsGiven gives) token one old given (subst (AreGiven gives) is all)))
  stays_given token one kept old new (Err refused) all is given ok err = ∥∥₁_map all (λ all.
      subst (AllByRecursion (IsGiven gives)) (sym err) (subst (AreGiven gives) is all))

  -- a copy of what was given
  pub copy_is_given : {E : Type 0} (token id text : List ℕ) (made : Result (List ℕ) E) (copy : Option (List ℕ))
      → copy ≡ result_ok made → MatchResult made (λ one. one ≡ text) (λ _. ¬ ⊥)
      → IsGivenFor gives token id (Article text)
      → IfSome copy (λ one. IsGivenFor gives token id (Article one))
  copy_is_given token id text (Ok one) copy is same given =
      subst (λ o. IfSome o (λ one. IsGivenFor gives token id (Article one))) (sym is)
      (subst (λ t. IsGivenFor gives token id (Article t)) (sym same) given)
  copy_is_given token id text (Err refused) copy is same given =
      subst (λ o. IfSome o (λ one. IsGivenFor gives token id (Article one))) (sym is) tt
