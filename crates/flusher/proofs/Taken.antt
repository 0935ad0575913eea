-- A line is taken at one station after another.
use Rattle.std.proofs.Common.{◌≡◌, ℕ, ◌+◌, ◌<◌, ◌≤◌, ◌≢◌, ◌⊎◌, inl, inr, List, [], length, refl, sym, ap, ◌∙◌, subst}
use Rattle.std.proofs.Common.{arith, Bool}
use Rattle.std.specs.Prelude.{nat_lt, max, if◌then◌else◌, slice_set, slice_index, slice_index_or, Contains}
use Rattle.std.proofs.lemmas.Bool.{cases_lt}
use Rattle.std.proofs.lemmas.Bool.Decides.{nat_tests}
use Rattle.std.proofs.lemmas.List.{get_or-set_same, get_or-set_other, get_or-take, length-set, length-take}
use Rattle.flusher.specs.declared.fault.PostFault.{PostFault}
use Rattle.flusher.specs.Faults.{IsLineFault}
use Rattle.flusher.specs.Marks.{IsRaisedAt, IsTakenAt, RefusesGood, rises}
use Rattle.flusher.proofs.Rises.{rises_same, rises_set}

above_max : (m n : ℕ) → nat_lt m (max m n) ≡ nat_lt m n
above_max m n = grind (arith, nat_tests)

abbrev one_if : Bool → ℕ
one_if b = if b then 1 else 0

-- The first k stations took the line: the marks at first and now, and what was counted.
abbrev pub Done : ℕ → List (List ℕ) → List (List ℕ) → List ℕ → ℕ → List ℕ → ℕ → ℕ → Type 0
Done number named names was k now a b =
    (length now ≡ length was)
    × ((p : ℕ) → k ≤ p → slice_index now p ≡ slice_index was p)
    × ((p : ℕ) → p < k → IsRaisedAt number named (slice_index_or names p []) (slice_index was p) (slice_index now p))
    × (b ≡ a + rises was now)

module _ (number : ℕ) (named names : List (List ℕ)) (was : List ℕ) where
  abbrev At : List ℕ → ℕ → Type 0
  At now p = IsRaisedAt number named (slice_index_or names p []) (slice_index was p) (slice_index now p)

  pub done_none : (a : ℕ) → Done number named names was 0 was a a
  done_none a = let e = rises_same was in
      (refl, (λ p _. refl), (λ p below. absurd (omega (arith, below))), omega (arith, e))

  at_either : (now next : List ℕ) (k p : ℕ) → ((q : ℕ) → q < k → At now q)
      → ((q : ℕ) → q < k → slice_index next q ≡ slice_index now q) → At next k → p < k + 1
      → (p < k) ⊎ (k ≤ p) → At next p
  at_either now next k p done same last below (inl lt) =
      subst (λ (m : ℕ). IsRaisedAt number named (slice_index_or names p []) (slice_index was p) m) (sym (same p lt))
      (done p lt)
  at_either now next k p done same last below (inr ge) = let e : k ≡ p = omega (arith, ge, below) in
      subst (λ (q : ℕ). At next q) e last

  done_set : (k : ℕ) (now : List ℕ) (a b c : ℕ) → k < length was → Done number named names was k now a b
      → Contains named (slice_index_or names k [])
      → c ≡ b + one_if (nat_lt (slice_index now k) number)
      → Done number named names was (k + 1) (slice_set now k (max (slice_index now k) number)) a c
  done_set k now a b c within done is_named counted =
      let x = max (slice_index now k) number in
      let next = slice_set now k x in
      let len = length-set now k x in
      let within_now : k < length now = omega (arith, done.0, within) in
      let here : slice_index next k ≡ x = get_or-set_same now k x 0 within_now in
      let was_here : slice_index now k ≡ slice_index was k = done.1 k (omega arith) in
      let there : (p : ℕ) → p ≢ k → slice_index next p ≡ slice_index now p = λ p ne. get_or-set_other now k p x 0 ne in
      let last : At next k = ((λ _. here ∙ ap (λ m. max m number) was_here), λ no. absurd (no is_named)) in
      let more = rises_set was now k x done.0 within was_here in
      let same_test : one_if (nat_lt (slice_index was k) x) ≡ one_if (nat_lt (slice_index now k) number) =
      ap (λ m. one_if (nat_lt m x)) (sym was_here) ∙ ap one_if (above_max (slice_index now k) number) in (
        omega (arith, len, done.0),
        (λ p above. there p (λ e. omega (arith, above, e)) ∙ done.1 p (omega (arith, above))),
        (λ p below. at_either now next k p done.2 (λ q lt. there q (λ e. omega (arith, lt, e))) last below
            (cases_lt p k)),
        omega (arith, more, same_test, counted, done.3),
      )

  done_kept : (k : ℕ) (now : List ℕ) (a b : ℕ) → Done number named names was k now a b
      → (Contains named (slice_index_or names k []) → ⊥)
      → Done number named names was (k + 1) now a b
  done_kept k now a b done not_named = (
    done.0,
    (λ p above. done.1 p (omega (arith, above))),
    (λ p below. at_either now now k p done.2 (λ q lt. refl)
        ((λ yes. absurd (not_named yes)), λ no. done.1 k (omega arith)) below (cases_lt p k)),
    done.3,
  )

  -- one station more
  pub done_more : (k : ℕ) (now next : List ℕ) (a b c : ℕ) → k < length was → Done number named names was k now a b
      → IsTakenAt number named (slice_index_or names k []) k now next b c
      → Done number named names was (k + 1) next a c
  done_more k now next a b c within done (inl t) =
      subst (λ (m : List ℕ). Done number named names was (k + 1) m a c) (sym t.1)
      (done_set k now a b c within done t.0 t.2)
  done_more k now next a b c within done (inr t) =
      subst (λ (m : List ℕ). Done number named names was (k + 1) m a c) (sym t.1)
      (subst (λ (m : ℕ). Done number named names was (k + 1) now a m) (sym t.2) (done_kept k now a b done t.0))

  -- a station refuses the line, which those before it took
  pub refused_at : (k : ℕ) (now : List ℕ) (a b : ℕ) (fault : PostFault) → k < length names
      → Done number named names was k now a b → Contains named (slice_index_or names k [])
      → IsLineFault (λ at. at ≡ k) fault → RefusesGood number named names fault was now
  refused_at k now a b fault within done is_named kinds = record {
    reached = k;
    raised =
        λ p below. let before : p < k = omega (arith, below, length-take k names) in
        subst (λ (name : List ℕ). IsRaisedAt number named name (slice_index was p) (slice_index now p))
        (sym (get_or-take k names p [] before)) (done.2 p before);
    behind = done.1;
    within = within;
    names_it = is_named;
    kinds = kinds;
  }
