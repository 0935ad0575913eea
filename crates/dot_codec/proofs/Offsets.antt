-- The first octet of a text that no line may have, by the indexes of such octets.
use Rattle.std.proofs.Common.{◌≡◌, ◌⊎◌, ℕ, zero, suc, ◌+◌, ◌-◌, ◌<◌, ◌≤◌, Bool, true, List, [], ◌∷◌, length, slice_index, take, drop, Option, Some, None, refl, sym, ◌∙◌, ap, subst, inl, inr, ⊎_elim, arith}
use Rattle.std.specs.Option.{unwrap_or}
use Rattle.std.proofs.lemmas.Bool.{both_ways, cases_Bool, cond-true, cond-false}
use Rattle.std.proofs.lemmas.List.{drop_all}
use Rattle.memchr.specs.Find.{is_byte3, Passes, NoneBefore, TakesFirst, places, places_from, places_between}
use Rattle.dot_codec.specs.Lines.{IsLine}
use Rattle.dot_codec.specs.Scan.{EndsRun}
use Rattle.dot_codec.proofs.Runs.{line_before, run_ends_at}

-- the first of the indexes from i on, and the others after it
pub first_place : (test : ℕ → Bool) (hay : List ℕ) (i n at : ℕ) (more : List ℕ) → places_from test hay i n ≡ at ∷ more → NoneBefore (Passes test hay) i (i + n) at × (Passes test hay at) × (more ≡ places_between test hay (at + 1) (i + n))
unfolding places_from
first_place test hay i zero at more is = cc
first_place test hay i (suc n) at more is = ⊎_elim
    (λ passes.
    let whole : i ∷ places_from test hay (i + 1) n ≡ at ∷ more = sym (cond-true (test (slice_index hay i)) (i ∷ places_from test hay (i + 1) n) (places_from test hay (i + 1) n) passes) ∙ is in
    let here : i ≡ at = cc in
    let count : n ≡ i + suc n - (at + 1) = omega arith in
    let rest : more ≡ places_from test hay (i + 1) n = cc in (
      record { low = omega arith; high = omega arith; before = λ k low high. absurd (omega arith) },
      subst (Passes test hay) here passes,
      rest ∙ (ap (λ m. places_from test hay (m + 1) n) here ∙ ap (places_from test hay (at + 1)) count),
    ))
    (λ fails.
    let later = first_place test hay (i + 1) n at more (sym (cond-false (test (slice_index hay i)) (i ∷ places_from test hay (i + 1) n) (places_from test hay (i + 1) n) fails) ∙ is) in
    let count : i + 1 + n ≡ i + suc n = omega arith in
    let none : NoneBefore (Passes test hay) (i + 1) (i + 1 + n) at = later.0 in (
      record {
        low = omega (arith, none.low);
        high = omega (arith, none.high);
        before = λ k low high passes. ⊎_elim
            (λ (same : k ≡ i). both_ways (test (slice_index hay i)) fails (subst (Passes test hay) same passes))
            (λ (above : i < k). none.before k (omega arith) high passes)
            (from_low i k low);
      },
      later.1,
      later.2 ∙ ap (places_between test hay (at + 1)) count,
    ))
    (cases_Bool (test (slice_index hay i)))
  where
    from_low : (i k : ℕ) → i ≤ k → (k ≡ i) ⊎ (i < k)
    from_low zero zero low = inl refl
    from_low zero (suc k) low = inr (omega arith)
    from_low (suc i) zero low = absurd (omega arith)
    from_low (suc i) (suc k) low = ⊎_elim (λ same. inl (ap suc same)) (λ above. inr (omega arith)) (from_low i k (omega arith))

-- if there are no indexes, no octet passes
pub no_place : (test : ℕ → Bool) (hay : List ℕ) (i n : ℕ) → places_from test hay i n ≡ [] → (k : ℕ) → k < n → Passes test hay (i + k) → ⊥
unfolding places_from
no_place test hay i zero none k below passes = absurd (omega arith)
no_place test hay i (suc n) none zero below passes =
    let same : i + 0 ≡ i = omega arith in
    let here : test (slice_index hay i) ≡ true = subst (Passes test hay) same passes in
    cc (sym (cond-true (test (slice_index hay i)) (i ∷ places_from test hay (i + 1) n) (places_from test hay (i + 1) n) here) ∙ none)
no_place test hay i (suc n) none (suc k) below passes = ⊎_elim
    (λ here. cc (sym (cond-true (test (slice_index hay i)) (i ∷ places_from test hay (i + 1) n) (places_from test hay (i + 1) n) here) ∙ none))
    (λ fails.
    let same : i + suc k ≡ i + 1 + k = omega arith in
    no_place test hay (i + 1) n (sym (cond-false (test (slice_index hay i)) (i ∷ places_from test hay (i + 1) n) (places_from test hay (i + 1) n) fails) ∙ none) k (omega arith) (subst (Passes test hay) same passes))
    (cases_Bool (test (slice_index hay i)))

-- up to the first of them the octets are those of a line
pub run_found : (octets : List ℕ) (found : Option ℕ) (left more : List ℕ) → left ≡ places (is_byte3 0 10 13) octets → TakesFirst left found more → (unwrap_or found (length octets) ≤ length octets) × IsLine (take (unwrap_or found (length octets)) octets) × EndsRun (drop (unwrap_or found (length octets)) octets)
run_found octets None left more is (none, ends) = (
  omega arith,
  line_before octets (length octets) (λ k below inside passes. let same : k ≡ 0 + k = omega arith in no_place (is_byte3 0 10 13) octets 0 (length octets - 0) (sym is ∙ none) k (omega arith) (subst (Passes (is_byte3 0 10 13) octets) same passes)),
  subst EndsRun (sym (drop_all (length octets) octets (omega arith))) tt,
)
run_found octets (Some at) left more is takes =
    let found = first_place (is_byte3 0 10 13) octets 0 (length octets - 0) at more (sym is ∙ takes) in
    let none : NoneBefore (Passes (is_byte3 0 10 13) octets) 0 (0 + (length octets - 0)) at = found.0 in (
      omega (arith, none.high),
      line_before octets at (λ k below inside. none.before k (omega arith) below),
      run_ends_at octets at (omega (arith, none.high)) found.1,
    )
