-- Debts by rising keys, of which those below a key are let go.
use Rattle.std.proofs.Common.{◌≡◌, ◌==◌, ◌<◌, ◌≤◌, ℕ, zero, suc, Bool, true, false, cond, Some, None, List, []}
use Rattle.std.proofs.Common.{◌∷◌, ◌++◌, drop, get_or, length, refl, sym, ap, ◌∙◌, subst, inl, inr, arith}
use Rattle.std.specs.Prelude.{◌&&◌, Option, filter, find, nat_lt, option_map, slice_get}
use native.Mathlib.Numerals.{unary_clauses}
use Rattle.std.specs.List.Sorted.{IsStrictlyIncreasing}
use Rattle.std.proofs.lemmas.Bool.{cases_order, eq-eqb, le-ltb, eqb-true, lt-ltb, ltb-true, ne_eqb}
use Rattle.ledger_core.specs.State.{Owing, keys_in}
use Rattle.recovery.specs.Texts.{lengths_of}
use Rattle.flusher.specs.Ahead.{gone_on, has_room_for, is_above, most_ahead}

-- each key is above this one
abbrev AreAbove : ℕ → List Owing → Type 0
AreAbove key [] = Unit {0}
AreAbove key (debt ∷ debts) = (key < debt.0) × AreAbove key debts

above_more : (low high : ℕ) (debts : List Owing) → low < high → AreAbove high debts → AreAbove low debts
above_more low high [] below above = tt
above_more low high (debt ∷ debts) below above =
    (omega (arith, below, above.0), above_more low high debts below above.1)

rising_tail : (debt : Owing) (debts : List Owing) → IsStrictlyIncreasing (keys_in (debt ∷ debts))
    → IsStrictlyIncreasing (keys_in debts)
rising_tail debt debts rising = λ k within.
    simp unary_clauses (simp unary_clauses at (rising (suc k) (omega (arith, within))))

-- the keys of all but the first rise
pub rising_rest : (debts : List Owing) → IsStrictlyIncreasing (keys_in debts)
    → IsStrictlyIncreasing (keys_in (drop 1 debts))
rising_rest [] rising = rising
rising_rest (debt ∷ debts) rising = rising_tail debt debts rising

pub length_rest : (debts : List Owing) → length (drop 1 debts) ≤ length debts
length_rest [] = omega arith
length_rest (debt ∷ debts) = omega arith

above_first : (debt : Owing) (debts : List Owing) → IsStrictlyIncreasing (keys_in (debt ∷ debts))
    → AreAbove debt.0 debts
above_first debt [] rising = tt
above_first debt (next ∷ debts) rising =
    let up : debt.0 < next.0 = rising 0 (omega arith) in
    (up, above_more debt.0 next.0 debts up (above_first next debts (rising_tail debt (next ∷ debts) rising)))

-- those above a key are all of them, and none has it, if all are above it
all_above : (key : ℕ) (debts : List Owing) → AreAbove key debts
    → (filter (λ (d : Owing). nat_lt key d.0) debts ≡ debts) × (find (λ (d : Owing). d.0 == key) debts ≡ None)
all_above key [] above = (refl, refl)
all_above key (debt ∷ debts) above =
    let rest = all_above key debts above.1 in
    let up : key < debt.0 = above.0 in (
      ap (λ (b : Bool). cond b (debt ∷ filter (λ (d : Owing). nat_lt key d.0) debts)
          (filter (λ (d : Owing). nat_lt key d.0) debts)) (lt-ltb key debt.0 up)
          ∙ ap (λ (l : List Owing). debt ∷ l) rest.0,
      ap (λ (b : Bool). cond b (Some debt) (find (λ (d : Owing). d.0 == key) debts))
          (ne_eqb debt.0 key (omega (arith, up))) ∙ rest.1,
    )

found_in : (key : ℕ) (first debt : Owing) (rest : Option Owing) (b : Bool) → (first.0 == key) ≡ b
    → (rest ≡ Some debt → debt.0 ≡ key) → cond b (Some first) rest ≡ Some debt → debt.0 ≡ key
found_in key first debt rest true is others found =
    let same : first ≡ debt = cc found in
    sym (ap (λ (d : Owing). d.0) same) ∙ eqb-true first.0 key is
found_in key first debt rest false is others found = others found

-- a debt that is found by its key has it
pub found_key : (key : ℕ) (debts : List Owing) (debt : Owing) → find (λ (d : Owing). d.0 == key) debts ≡ Some debt
    → debt.0 ≡ key
found_key key [] debt found = absurd (cc found)
found_key key (first ∷ debts) debt found =
    found_in key first debt (find (λ (d : Owing). d.0 == key) debts) (first.0 == key) refl
    (λ rest. found_key key debts debt rest) found

lengths_in : (key : ℕ) (debts : List Owing) (debt : Owing) (o : Option Owing)
    → find (λ (d : Owing). d.0 == key) debts ≡ o → Some (lengths_of debt) ≡ option_map lengths_of o → debt.0 ≡ key
lengths_in key debts debt None is same = absurd (cc same)
lengths_in key debts debt (Some found) is same =
    let lengths : lengths_of debt ≡ lengths_of found = cc same in
    ap (λ (l : ℕ × (ℕ × ℕ)). l.0) lengths ∙ found_key key debts found is

-- so does one of the same lengths
pub lengths_key : (key : ℕ) (debts : List Owing) (debt : Owing) (read : Option Owing) → read ≡ Some debt
    → option_map lengths_of read ≡ option_map lengths_of (find (λ (d : Owing). d.0 == key) debts) → debt.0 ≡ key
lengths_key key debts debt read is same =
    lengths_in key debts debt (find (λ (d : Owing). d.0 == key) debts) refl
    (sym (ap (option_map lengths_of) is) ∙ same)

-- What is left of the debts has the same above a key, and the same debt of that key.
pub record IsLeftOf (key : ℕ) (old now : List Owing) : Type 0 where
  pub above : filter (λ (d : Owing). nat_lt key d.0) now ≡ filter (λ (d : Owing). nat_lt key d.0) old
  pub found : find (λ (d : Owing). d.0 == key) now ≡ find (λ (d : Owing). d.0 == key) old
  pub rising : IsStrictlyIncreasing (keys_in now)

pub left_all : (key : ℕ) (debts : List Owing) → IsStrictlyIncreasing (keys_in debts) → IsLeftOf key debts debts
left_all key debts rising = record { above = refl; found = refl; rising = rising }

-- the first is let go, if it is below the key
pub left_rest : (key : ℕ) (old now : List Owing) (first : Owing) → IsLeftOf key old now → 0 < length now
    → first ≡ get_or now 0 first → first.0 < key → IsLeftOf key old (drop 1 now)
left_rest key old [] first is some at below = absurd (omega (arith, some))
left_rest key old (debt ∷ debts) first is some at below =
    let low : debt.0 < key = subst (λ (d : Owing). d.0 < key) at below in
    record {
      above =
          sym (ap (λ (b : Bool). cond b (debt ∷ filter (λ (d : Owing). nat_lt key d.0) debts)
          (filter (λ (d : Owing). nat_lt key d.0) debts)) (le-ltb key debt.0 (omega (arith, low)))) ∙ is.above;
      found =
          sym (ap (λ (b : Bool). cond b (Some debt) (find (λ (d : Owing). d.0 == key) debts))
          (ne_eqb debt.0 key (omega (arith, low)))) ∙ is.found;
      rising = rising_tail debt debts is.rising;
    }

-- nothing is left
pub left_none : (key : ℕ) (old now : List Owing) → IsLeftOf key old now → length now ≡ 0
    → (None ≡ find (λ (d : Owing). d.0 == key) old) × (now ≡ filter (λ (d : Owing). nat_lt key d.0) old)
left_none key old [] is none = (is.found, is.above)
left_none key old (debt ∷ debts) is none = absurd (omega (arith, none))

-- the first that is left has the key
pub left_first : (key : ℕ) (old now : List Owing) (first : Owing) → IsLeftOf key old now → 0 < length now
    → first ≡ get_or now 0 first → first.0 ≡ key
    → (Some first ≡ find (λ (d : Owing). d.0 == key) old) × (drop 1 now ≡ filter (λ (d : Owing). nat_lt key d.0) old)
left_first key old [] first is some at same = absurd (omega (arith, some))
left_first key old (debt ∷ debts) first is some at same =
    let here : debt.0 ≡ key = sym (ap (λ (d : Owing). d.0) at) ∙ same in
    let above = all_above key debts
    (subst (λ (k : ℕ). AreAbove k debts) here (above_first debt debts is.rising)) in (
      ap (λ (d : Owing). Some d) at
          ∙ (sym (ap (λ (b : Bool). cond b (Some debt) (find (λ (d : Owing). d.0 == key) debts))
          (eq-eqb debt.0 key here))
          ∙ is.found),
      sym above.0
          ∙ (sym (ap (λ (b : Bool). cond b (debt ∷ filter (λ (d : Owing). nat_lt key d.0) debts)
          (filter (λ (d : Owing). nat_lt key d.0) debts)) (le-ltb key debt.0 (omega (arith, here)))) ∙ is.above),
    )

-- the first that is left is not below the key, nor has it
pub left_above : (key : ℕ) (old now : List Owing) (first same : Owing) → IsLeftOf key old now → 0 < length now
    → first ≡ get_or now 0 first → same ≡ get_or now 0 same → (first.0 < key → ⊥) → (same.0 ≡ key → ⊥)
    → (None ≡ find (λ (d : Owing). d.0 == key) old) × (now ≡ filter (λ (d : Owing). nat_lt key d.0) old)
left_above key old [] first same is some at too not_below not_here = absurd (omega (arith, some))
left_above key old (debt ∷ debts) first same is some at too not_below not_here =
    let above : key < debt.0 = elim (cases_order debt.0 key) [
      | inl here ↦ absurd (not_here (ap (λ (d : Owing). d.0) too ∙ here))
      | inr (inl below) ↦ absurd (not_below (subst (λ (d : Owing). d.0 < key) (sym at) below))
      | inr (inr up) ↦ up
    ] in
    let all = all_above key (debt ∷ debts)
    (above, above_more key debt.0 debts above (above_first debt debts is.rising)) in
    (sym all.1 ∙ is.found, sym all.0 ∙ is.above)

-- ---- kept behind the others

above_at : (key : ℕ) (debts : List Owing) (debt : Owing) (k : ℕ) → AreAbove key debts → k < length debts
    → debt ≡ get_or debts k debt → key < debt.0
above_at key [] debt k above within at = absurd (omega (arith, within))
above_at key (first ∷ debts) debt zero above within at = subst (λ (d : Owing). key < d.0) (sym at) above.0
above_at key (first ∷ debts) debt (suc k) above within at =
    above_at key debts debt k above.1 (omega (arith, within)) at

both : (a b : Bool) → (b ≡ true → a ≡ true) → a && b ≡ b
both a true up = ap (λ (c : Bool). c && true) (up refl)
both true false up = refl
both false false up = refl

alone : (b : Bool) → b && true ≡ b
alone true = refl
alone false = refl

-- a key is above all of them exactly if it is above the last
pub is_above_last : (kept : List Owing) (key : ℕ) (last : Owing) (k : ℕ) → IsStrictlyIncreasing (keys_in kept)
    → suc k ≡ length kept → last ≡ get_or kept k last → is_above kept key ≡ nat_lt last.0 key
is_above_last [] key last k rising is at = absurd (omega (arith, is))
is_above_last (debt ∷ []) key last zero rising is at =
    alone (nat_lt debt.0 key) ∙ ap (λ (d : Owing). nat_lt d.0 key) (sym at)
is_above_last (debt ∷ []) key last (suc k) rising is at = absurd (omega (arith, is))
is_above_last (debt ∷ next ∷ debts) key last zero rising is at = absurd (omega (arith, is))
is_above_last (debt ∷ next ∷ debts) key last (suc k) rising is at =
    let later = rising_tail debt (next ∷ debts) rising in
    let rest = is_above_last (next ∷ debts) key last k later (omega (arith, is)) at in
    let up : debt.0 < last.0 =
    above_at debt.0 (next ∷ debts) last k (above_first debt (next ∷ debts) rising) (omega (arith, is)) at in
    ap (λ (b : Bool). nat_lt debt.0 key && b) rest
    ∙ both (nat_lt debt.0 key) (nat_lt last.0 key)
    (λ is. let below : last.0 < key = ltb-true last.0 key is in lt-ltb debt.0 key (omega (arith, up, below)))

and_both : (a b : Bool) → a && b ≡ true → (a ≡ true) × (b ≡ true)
and_both true b is = (refl, is)
and_both false b is = absurd (cc is)

-- one more is above all that are kept, so the keys rise
rising_more : (kept : List Owing) (debt : Owing) → IsStrictlyIncreasing (keys_in kept)
    → is_above kept debt.0 ≡ true → IsStrictlyIncreasing (keys_in (kept ++ debt ∷ []))
rising_more [] debt rising above k within = absurd (omega (arith, within))
rising_more (first ∷ []) debt rising above zero within =
    ltb-true first.0 debt.0 (and_both (nat_lt first.0 debt.0) true above).0
rising_more (first ∷ next ∷ kept) debt rising above zero within = rising 0 (omega arith)
rising_more (first ∷ kept) debt rising above (suc k) within =
    let rest = (and_both (nat_lt first.0 debt.0) (is_above kept debt.0) above).1 in
    simp unary_clauses (simp unary_clauses at
    (rising_more kept debt (rising_tail first kept rising) rest k (omega (arith, within))))

-- one more for which there is room
pub more_kept : (kept : List Owing) (debt : Owing) → IsStrictlyIncreasing (keys_in kept)
    → has_room_for kept debt.0 ≡ true
    → (length kept < most_ahead) × IsStrictlyIncreasing (keys_in (kept ++ debt ∷ []))
more_kept kept debt rising room =
    let each = and_both (nat_lt (length kept) most_ahead) (is_above kept debt.0) room in
    (ltb-true (length kept) most_ahead each.0, rising_more kept debt rising each.1)

-- ---- where the reading goes on

pub gone_last : (end : ℕ) (keys : List ℕ) (last k : ℕ) → suc k ≡ length keys → slice_get keys k ≡ Some last
    → gone_on end keys ≡ last
gone_last end [] last k is at = absurd (omega (arith, is))
gone_last end (key ∷ []) last zero is at = cc
gone_last end (key ∷ []) last (suc k) is at = absurd (omega (arith, is))
gone_last end (key ∷ next ∷ keys) last zero is at = absurd (omega (arith, is))
gone_last end (key ∷ next ∷ keys) last (suc k) is at = gone_last key (next ∷ keys) last k (omega (arith, is)) at
