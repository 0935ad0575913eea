-- The numbers that are due from one on, listed, and how many of them are taken.
use Rattle.std.proofs.Common.{◌≡◌, ◌⊎◌, ℕ, ◌<◌, ◌≤◌, Bool, true, false, cond, Option, List, [], ◌∷◌, ◌++◌}
use Rattle.std.proofs.Common.{length, map, take, refl, sym, ap, ◌∙◌, inl, inr, append-nil, take_all, arith}
use Rattle.std.specs.Prelude.{IsTrue, ◌&&◌, filter, nat_le}
use Rattle.std.proofs.lemmas.Bool.{and_left, and_right, lt-leb}
use Rattle.std.proofs.lemmas.List.{take-append-le}
use Rattle.deferral.specs.Due.{Waiting, AllNumbers, due_numbers, is_by}
use Rattle.deferral.specs.Tree.{IsBoundsOf, least_due}
use Rattle.deferral.specs.declared.tree.Bounds.{Bounds}
use Rattle.deferral.proofs.Moments.{by_first, by_second}

-- ---- listed

passing : (first now : ℕ) → Waiting → Waiting
passing first now xs = filter (λ (entry : ℕ × Option ℕ). nat_le first entry.0 && is_by entry.1 now) xs

skipped : (first now : ℕ) (x : ℕ × Option ℕ) (xs : Waiting) → (nat_le first x.0 && is_by x.1 now) ≡ false
    → due_numbers first now (x ∷ xs) ≡ due_numbers first now xs
unfolding passing
skipped first now x xs is =
    let rest = passing first now xs in
    ap (λ (b : Bool). map (λ (entry : ℕ × Option ℕ). entry.0) (cond b (x ∷ rest) rest)) is

-- none above the last number
none_above : (first now last : ℕ) (xs : Waiting) → AllNumbers (λ m. m ≤ last) xs → last < first
    → due_numbers first now xs ≡ []
none_above first now last [] all above = refl
none_above first now last (x ∷ xs) all above =
    skipped first now x xs (and_left (nat_le first x.0) (is_by x.1 now) (lt-leb first x.0 (omega (arith, all.0))))
    ∙ none_above first now last xs all.1 above

unless : (b : Bool) → (IsTrue b → ⊥) → b ≡ false
unless true h = absurd (h refl)
unless false h = refl

-- none before the earliest moment
none_before : (first now : ℕ) (xs : Waiting) → (IsTrue (is_by (least_due xs) now) → ⊥)
    → due_numbers first now xs ≡ []
none_before first now [] early = refl
none_before first now (x ∷ xs) early =
    skipped first now x xs
    (and_right (nat_le first x.0) (is_by x.1 now)
    (unless (is_by x.1 now) (λ h. early (by_first x.1 (least_due xs) now h))))
    ∙ none_before first now xs (λ h. early (by_second x.1 (least_due xs) now h))

-- none where its bounds rule a tree out
pub none_listed : (b : Bounds) (xs : Waiting) (first now : ℕ) → IsBoundsOf b xs
    → (b.last < first) ⊎ (IsTrue (is_by b.least now) → ⊥) → due_numbers first now xs ≡ []
none_listed b xs first now is (inl above) = none_above first now b.last xs is.to_last above
none_listed b xs first now is (inr early) = none_before first now xs (rw is.least at early)

-- ---- taken

-- what there was, if no more comes
pub taken_none : (most : ℕ) (old more : List ℕ) → length old ≤ most → more ≡ [] → old ≡ take most (old ++ more)
taken_none most old more within none =
    sym (ap (λ (l : List ℕ). take most (old ++ l)) none
    ∙ (ap (take most) (append-nil old) ∙ take_all most old within))

-- what there was, if there are enough
pub taken_enough : (most : ℕ) (old more : List ℕ) → length old ≤ most → most ≤ length old
    → old ≡ take most (old ++ more)
taken_enough most old more within enough = sym (take-append-le most old more enough ∙ take_all most old within)
