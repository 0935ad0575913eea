-- Rising numbers, and prefixes of them.
use Rattle.std.proofs.Common.{◌≡◌, ◌==◌, ℕ, zero, suc, ◌+◌, ◌<◌, ◌≤◌, ◌^◌, Bool, true, false, cond, Some, None, List, [], ◌∷◌, ◌++◌, length, get_or, take, refl, sym, ap, ◌∙◌, subst, inl, inr, arith}
use Rattle.std.specs.Prelude.{◌||◌, filter, find, nat_le, nat_lt}
use Rattle.std.specs.List.{All, Contains, list_any, slice_get}
use Rattle.std.proofs.lemmas.Bool.{cases_order, ne_eqb, le-leb, le-ltb, lt-ltb}
use Rattle.std.proofs.lemmas.List.Elements.{All-head, All-tail, Contains-push_cases}
use Rattle.ledger_core.specs.State.{State, IsOwed, IsPast}
use Rattle.ledger_core.specs.declared.marks.Marks.{Marks}
use Rattle.recovery.specs.Notes.{AreOwed}
use Rattle.peer_queue.specs.DebtPlace.{AreAbove, AreRising, DebtPlace, Places, is_held, placed, unheld}

-- this holds of each number
abbrev pub Each : (ℕ → Type 0) → List ℕ → Type 0
Each P [] = Unit {0}
Each P (n ∷ l) = P n × Each P l

-- each number is below all later ones
abbrev pub Rise : List ℕ → Type 0
Rise [] = Unit {0}
Rise (n ∷ l) = Each (λ m. n < m) l × Rise l

pub each_map : (P Q : ℕ → Type 0) (l : List ℕ) → ((n : ℕ) → P n → Q n) → Each P l → Each Q l
each_map P Q [] f each = tt
each_map P Q (n ∷ l) f each = (f n each.0, each_map P Q l f each.1)

each_from_All : (P : ℕ → Type 0) (l : List ℕ) → All P l → Each P l
each_from_All P [] all = tt
each_from_All P (n ∷ l) all = (All-head P n l all, each_from_All P l (All-tail P n l all))

pub each_at : (P : ℕ → Type 0) (l : List ℕ) (i : ℕ) → Each P l → i < length l → P (get_or l i 0)
each_at P [] i each inside = absurd (omega arith)
each_at P (n ∷ l) zero each inside = each.0
each_at P (n ∷ l) (suc i) each inside = each_at P l i each.1 (omega arith)

pub each_take : (P : ℕ → Type 0) (k : ℕ) (l : List ℕ) → Each P l → Each P (take k l)
each_take P zero l each = tt
each_take P (suc k) [] each = tt
each_take P (suc k) (n ∷ l) each = (each.0, each_take P k l each.1)

pub rise_take : (k : ℕ) (l : List ℕ) → Rise l → Rise (take k l)
rise_take zero l rise = tt
rise_take (suc k) [] rise = tt
rise_take (suc k) (n ∷ l) rise = (each_take (λ m. n < m) k l rise.0, rise_take k l rise.1)

-- earlier ones are less
rise_at : (l : List ℕ) (i j : ℕ) → Rise l → i < j → j < length l → get_or l i 0 < get_or l j 0
rise_at [] i j rise before inside = absurd (omega arith)
rise_at (n ∷ l) i zero rise before inside = absurd (omega arith)
rise_at (n ∷ l) zero (suc j) rise before inside = each_at (λ m. n < m) l j rise.0 (omega arith)
rise_at (n ∷ l) (suc i) (suc j) rise before inside = rise_at l i j rise.1 (omega arith) (omega arith)

-- ---- the numbers of places

pub rise_placed : (p : Places) → AreRising p → Rise (placed p)
rise_placed [] rising = tt
rise_placed (e ∷ p) rising = (above e.0 p rising.0, rise_placed p rising.1)
  where
    above : (n : ℕ) (q : Places) → AreAbove n q → Each (λ m. n < m) (placed q)
    above n [] high = tt
    above n (d ∷ q) high = (high.0, above n q high.1)

-- the places of the numbers that no connection holds
abbrev free : Places → Places
free p = filter (λ (entry : ℕ × DebtPlace). cond (is_held entry.1) false true) p

each_step : (P : ℕ → Type 0) (b : Bool) (e : ℕ × DebtPlace) (q : Places) → P e.0 → Each P (placed q) → Each P (placed (cond (cond b false true) (e ∷ q) q))
each_step P true e q here rest = rest
each_step P false e q here rest = (here, rest)

-- what holds of each number that has a place holds of each that no connection holds
pub each_unheld : (P : ℕ → Type 0) (p : Places) → Each P (placed p) → Each P (unheld p)
each_unheld P [] each = tt
each_unheld P (e ∷ p) each = each_step P (is_held e.1) e (free p) each.0 (each_unheld P p each.1)

rise_step : (b : Bool) (e : ℕ × DebtPlace) (q : Places) → Each (λ m. e.0 < m) (placed q) → Rise (placed q) → Rise (placed (cond (cond b false true) (e ∷ q) q))
rise_step true e q above rest = rest
rise_step false e q above rest = (above, rest)

pub rise_unheld : (p : Places) → AreRising p → Rise (unheld p)
rise_unheld [] rising = tt
rise_unheld (e ∷ p) rising = rise_step (is_held e.1) e (free p) (each_unheld (λ m. e.0 < m) p (rise_placed (e ∷ p) rising).0) (rise_unheld p rising.1)

-- ---- found by a test that each later one passes

found_at : (test : ℕ → Bool) (l : List ℕ) (k : ℕ) → ((j : ℕ) → j < k → j < length l → test (get_or l j 0) ≡ false) → (k < length l → test (get_or l k 0) ≡ true) → find test l ≡ slice_get l k
found_at test [] k before at = refl
found_at test (n ∷ l) zero before at = ap (λ (b : Bool). cond b (Some n) (find test l)) (at (omega arith))
found_at test (n ∷ l) (suc k) before at =
    ap (λ (b : Bool). cond b (Some n) (find test l)) (before 0 (omega arith) (omega arith))
    ∙ found_at test l k (λ j h i. before (suc j) (omega arith) (omega arith)) (λ h. at (omega arith))

pub found_first : (l : List ℕ) → find (λ m. nat_le 0 m) l ≡ slice_get l 0
found_first l = found_at (λ m. nat_le 0 m) l 0 (λ j h i. absurd (omega arith)) (λ h. le-leb 0 (get_or l 0 0) (omega arith))

pub found_next : (l : List ℕ) (k n : ℕ) → Rise l → k < length l → n ≡ get_or l k 0 → find (λ m. nat_lt n m) l ≡ slice_get l (k + 1)
found_next l k n rise inside is =
    found_at (λ m. nat_lt n m) l (k + 1)
    (λ j h i. le-ltb n (get_or l j 0) (not_above j h))
    (λ h. lt-ltb n (get_or l (k + 1) 0) (let up : get_or l k 0 < get_or l (k + 1) 0 = rise_at l k (k + 1) rise (omega arith) h in omega arith))
  where
    not_above : (j : ℕ) → j < k + 1 → get_or l j 0 ≤ n
    not_above j h = elim (cases_order j k) [
      | inl same ↦ omega (arith, ap (λ (i : ℕ). get_or l i 0) same)
      | inr (inl low) ↦ let up : get_or l j 0 < get_or l k 0 = rise_at l j k rise low inside in omega arith
      | inr (inr high) ↦ absurd (omega arith)
    ]

found_none : (test : ℕ → Bool) (l : List ℕ) → Each (λ m. test m ≡ false) l → find test l ≡ None
found_none test [] each = refl
found_none test (n ∷ l) each = ap (λ (b : Bool). cond b (Some n) (find test l)) each.0 ∙ found_none test l each.1

filtered_none : (test : ℕ → Bool) (l : List ℕ) → Each (λ m. test m ≡ false) l → filter test l ≡ []
filtered_none test [] each = refl
filtered_none test (n ∷ l) each =
    ap (λ (b : Bool). cond b (n ∷ filter test l) (filter test l)) each.0 ∙ filtered_none test l each.1

-- none is above the last key
not_past : (n : ℕ) (p : Places) (marks : Marks) (ns : List ℕ) → placed p ≡ ns → All (IsPast marks) ns
    → marks.closed + 1 < 2 ^ 32 → marks.import_mark < 2 ^ 64 → n + 1 ≡ 2 ^ 96
    → Each (λ m. nat_lt n m ≡ false) (unheld p)
not_past n p marks ns same past opens fits last =
    each_unheld (λ m. nat_lt n m ≡ false) p (subst (λ (k : List ℕ). Each (λ m. nat_lt n m ≡ false) k) (sym same)
    (each_map (IsPast marks) (λ m. nat_lt n m ≡ false) ns
    (λ m here. le-ltb n m (omega (arith, here.import, opens, fits, last)))
    (each_from_All (IsPast marks) ns past)))

pub found_last : (n : ℕ) (p : Places) (marks : Marks) (ns : List ℕ) → placed p ≡ ns → All (IsPast marks) ns
    → marks.closed + 1 < 2 ^ 32 → marks.import_mark < 2 ^ 64 → n + 1 ≡ 2 ^ 96
    → find (λ m. nat_lt n m) (unheld p) ≡ None
found_last n p marks ns same past opens fits last =
    found_none (λ m. nat_lt n m) (unheld p) (not_past n p marks ns same past opens fits last)

pub none_last : (n : ℕ) (p : Places) (marks : Marks) (ns : List ℕ) → placed p ≡ ns → All (IsPast marks) ns
    → marks.closed + 1 < 2 ^ 32 → marks.import_mark < 2 ^ 64 → n + 1 ≡ 2 ^ 96
    → filter (λ m. nat_lt n m) (unheld p) ≡ []
none_last n p marks ns same past opens fits last =
    filtered_none (λ m. nat_lt n m) (unheld p) (not_past n p marks ns same past opens fits last)

-- ---- at a place

pub at_some : (l : List ℕ) (k n : ℕ) → slice_get l k ≡ Some n → (k < length l) × (n ≡ get_or l k 0)
at_some [] k n is = absurd (cc)
at_some (m ∷ l) zero n is = let same : n ≡ m = cc in (omega arith, same)
at_some (m ∷ l) (suc k) n is = let rest = at_some l k n is in (omega (arith, rest.0), rest.1)

pub at_none : (l : List ℕ) (k : ℕ) → slice_get l k ≡ None → length l ≤ k
at_none [] k is = omega arith
at_none (m ∷ l) zero is = absurd (cc)
at_none (m ∷ l) (suc k) is = let rest = at_none l k is in omega arith

-- a number stands not before its place
pub none_before : (l : List ℕ) (k n : ℕ) → Rise l → k < length l → n ≡ get_or l k 0 → list_any (λ m. m == n) (take k l) ≡ false
none_before l zero n rise inside is = refl
none_before [] (suc k) n rise inside is = refl
none_before (m ∷ l) (suc k) n rise inside is =
    let up : m < get_or l k 0 = each_at (λ i. m < i) l k rise.0 (omega arith) in
    ap (λ (b : Bool). b || list_any (λ i. i == n) (take k l)) (ne_eqb m n (omega arith)) ∙ none_before l k n rise.1 (omega arith) is

-- ---- numbers that are owed

contained : (n m : ℕ) (l : List ℕ) → Contains l m → Contains (n ∷ l) m
contained n m l has = (suc has.0, omega (arith, has.1), has.2)

pub each_contained : (l : List ℕ) → Each (λ n. Contains l n) l
each_contained [] = tt
each_contained (n ∷ l) = ((0, omega arith, refl), each_map (λ m. Contains l m) (λ m. Contains (n ∷ l) m) l (λ m has. contained n m l has) (each_contained l))

are_owed : (state : State) (before l : List ℕ) → Rise l → ((n : ℕ) → Contains before n → Each (λ m. n < m) l) → Each (IsOwed state) l → AreOwed state before l
are_owed state before [] rise below owed = tt
are_owed state before (n ∷ l) rise below owed = (
  owed.0,
  λ has. let bad : n < n = (below n has).0 in omega arith,
  are_owed state (before ++ n ∷ []) l rise.1
      (λ m has. elim (Contains-push_cases before n m has) [ inl old ↦ (below m old).1 | inr new ↦ subst (λ (k : ℕ). Each (λ i. k < i) l) new rise.0 ])
      owed.1,
)

-- all of them, each once
pub are_owed_all : (state : State) (l : List ℕ) → Rise l → Each (IsOwed state) l → AreOwed state [] l
are_owed_all state l rise owed = are_owed state [] l rise (λ n has. absurd (omega (arith, has.1))) owed
