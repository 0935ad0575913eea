-- What a connection gives up, one number after another.
use Rattle.std.proofs.Common.{◌≡◌, ◌==◌, ℕ, ◌+◌, ◌<◌, ◌≤◌, Bool, true, false, cond, Some, [], ◌∷◌, length, refl, sym, ap, ◌∙◌, subst, arith}
use Rattle.std.specs.Prelude.{filter}
use Rattle.std.proofs.lemmas.Bool.{eqb-true, eq-eqb, ne_eqb}
use Rattle.deferral.specs.Due.{Waiting, AllNumbers, IsRising}
use Rattle.peer_queue.specs.DebtPlace.{AreAbove, AreRising, DebtPlace, IsHeldBy, Places, Ready, Held, Later}
use Rattle.peer_queue.specs.DebtPlace.{held_count, is_held_by, moved, place_at, released}
use Rattle.peer_queue.specs.Index.{Holders, places_by}

above_by : (h : Holders) (n : ℕ) (xs : Waiting) → AllNumbers (λ m. n < m) xs → AreAbove n (places_by h xs)
above_by h n [] above = tt
above_by h n (x ∷ xs) above = (above.0, above_by h n xs above.1)

pub rising_by : (h : Holders) (xs : Waiting) → IsRising xs → AreRising (places_by h xs)
rising_by h [] rising = tt
rising_by h (x ∷ xs) rising = (above_by h x.0 xs rising.0, rising_by h xs rising.1)

moved_absent : (n : ℕ) (place : DebtPlace) (p : Places) → AreAbove n p → moved p n place ≡ p
moved_absent n place [] above = refl
moved_absent n place (e ∷ p) above =
    ap (λ (b : Bool). cond b (n, place) e ∷ moved p n place) (ne_eqb e.0 n (λ same. omega (arith, above.0, same)))
    ∙ ap (λ (l : Places). e ∷ l) (moved_absent n place p above.1)

held_itself : (c : ℕ) (place : DebtPlace) → place ≡ Held c → is_held_by c place ≡ true
held_itself c place e = ap (is_held_by c) e ∙ eq-eqb c c refl

held_is : (c : ℕ) (place : DebtPlace) → is_held_by c place ≡ true → place ≡ Held c
held_is c Ready e = absurd (cc)
held_is c (Held d) e = ap Held (eqb-true d c e)
held_is c (Later m) e = absurd (cc)

release_step : (c n : ℕ) (e : ℕ × DebtPlace) (p : Places) (b : Bool) → (e.0 == n) ≡ b → AreAbove e.0 p → cond b (Some e.1) (place_at p n) ≡ Some (Held c) → (place_at p n ≡ Some (Held c) → released c (moved p n Ready) ≡ released c p)
    → released c (cond b (n, Ready) e ∷ moved p n Ready) ≡ released c (e ∷ p)
release_step c n e p true same above held rest =
    let here : e.1 ≡ Held c = cc in
    let number : e.0 ≡ n = eqb-true e.0 n same in
    ap (λ (l : Places). (n, Ready) ∷ released c l) (moved_absent n Ready p (subst (λ (m : ℕ). AreAbove m p) number above))
    ∙ (ap (λ (m : ℕ). (m, Ready) ∷ released c p) (sym number) ∙ ap (λ (t : Bool). cond t (e.0, Ready) e ∷ released c p) (sym (held_itself c e.1 here)))
release_step c n e p false same above held rest = ap (λ (l : Places). cond (is_held_by c e.1) (e.0, Ready) e ∷ l) (rest held)

pub released_moved : (c n : ℕ) (p : Places) → AreRising p → IsHeldBy p c n → released c (moved p n Ready) ≡ released c p
released_moved c n [] rising held = refl
released_moved c n (e ∷ p) rising held = release_step c n e p (e.0 == n) refl rising.0 held (λ there. released_moved c n p rising.1 there)

count_cond : (t : Bool) (e : ℕ × DebtPlace) (p q : Places) → length p ≡ length q + 1 → length (cond t (e ∷ p) p) ≡ length (cond t (e ∷ q) q) + 1
count_cond true e p q h = omega (arith, h)
count_cond false e p q h = h

count_step : (c n : ℕ) (e : ℕ × DebtPlace) (p : Places) (b : Bool) → (e.0 == n) ≡ b → AreAbove e.0 p → cond b (Some e.1) (place_at p n) ≡ Some (Held c) → (place_at p n ≡ Some (Held c) → held_count c p ≡ held_count c (moved p n Ready) + 1)
    → held_count c (e ∷ p) ≡ held_count c (cond b (n, Ready) e ∷ moved p n Ready) + 1
count_step c n e p true same above held rest =
    let here : e.1 ≡ Held c = cc in
    let kept : held_count c (moved p n Ready) ≡ held_count c p = ap (held_count c) (moved_absent n Ready p (subst (λ (m : ℕ). AreAbove m p) (eqb-true e.0 n same) above)) in
    let rest_of = filter (λ (entry : ℕ × DebtPlace). is_held_by c entry.1) p in
    let first : held_count c (e ∷ p) ≡ held_count c p + 1 = ap (λ (t : Bool). length (cond t (e ∷ rest_of) rest_of)) (held_itself c e.1 here) ∙ omega arith in
    omega (arith, first, kept)
count_step c n e p false same above held rest =
    count_cond (is_held_by c e.1) e (filter (λ (entry : ℕ × DebtPlace). is_held_by c entry.1) p) (filter (λ (entry : ℕ × DebtPlace). is_held_by c entry.1) (moved p n Ready)) (rest held)

pub count_moved : (c n : ℕ) (p : Places) → AreRising p → IsHeldBy p c n → held_count c p ≡ held_count c (moved p n Ready) + 1
count_moved c n [] rising held = absurd (cc)
count_moved c n (e ∷ p) rising held = count_step c n e p (e.0 == n) refl rising.0 held (λ there. count_moved c n p rising.1 there)

le_step : (t : Bool) (e : ℕ × DebtPlace) (p q : Places) → length q ≤ length p
    → length (cond t (e ∷ q) q) ≤ length (e ∷ p)
le_step true e p q h = omega (arith, h)
le_step false e p q h = omega (arith, h)

pub count_within : (c : ℕ) (p : Places) → held_count c p ≤ length p
count_within c [] = omega arith
count_within c (e ∷ p) = le_step (is_held_by c e.1) e p (filter (λ (entry : ℕ × DebtPlace). is_held_by c entry.1) p) (count_within c p)

not_held : (b : Bool) → (b ≡ true → ⊥) → b ≡ false
not_held true f = absurd (f refl)
not_held false f = refl

-- the place of a number after the first
later_at : (c n : ℕ) (e : ℕ × DebtPlace) (p : Places) → AreAbove e.0 p → IsHeldBy p c n → IsHeldBy (e ∷ p) c n
later_at c n e p above held = ap (λ (b : Bool). cond b (Some e.1) (place_at p n)) (ne_eqb e.0 n (λ same. apart p above (subst (λ (m : ℕ). IsHeldBy p c m) (sym same) held))) ∙ held
  where
    apart : (q : Places) → AreAbove e.0 q → IsHeldBy q c e.0 → ⊥
    apart [] high has = cc
    apart (d ∷ q) high has = apart q high.1 (sym (ap (λ (b : Bool). cond b (Some d.1) (place_at q e.0)) (ne_eqb d.0 e.0 (λ same. omega (arith, high.0, same)))) ∙ has)

first_at : (c : ℕ) (e : ℕ × DebtPlace) (p : Places) → e.1 ≡ Held c → IsHeldBy (e ∷ p) c e.0
first_at c e p is = ap (λ (b : Bool). cond b (Some e.1) (place_at p e.0)) (eq-eqb e.0 e.0 refl) ∙ ap (λ (x : DebtPlace). Some x) is

none_first : (c : ℕ) (e : ℕ × DebtPlace) (p : Places) → ((n : ℕ) → IsHeldBy (e ∷ p) c n → ⊥) → is_held_by c e.1 ≡ false
none_first c e p none = not_held (is_held_by c e.1) (λ t. none e.0 (first_at c e p (held_is c e.1 t)))

pub released_none : (c : ℕ) (p : Places) → AreRising p → ((n : ℕ) → IsHeldBy p c n → ⊥) → released c p ≡ p
released_none c [] rising none = refl
released_none c (e ∷ p) rising none =
    ap (λ (t : Bool). cond t (e.0, Ready) e ∷ released c p) (none_first c e p none)
    ∙ ap (λ (l : Places). e ∷ l) (released_none c p rising.1 (λ n held. none n (later_at c n e p rising.0 held)))

pub count_none : (c : ℕ) (p : Places) → AreRising p → ((n : ℕ) → IsHeldBy p c n → ⊥) → held_count c p ≡ 0
count_none c [] rising none = refl
count_none c (e ∷ p) rising none =
    let rest_of = filter (λ (entry : ℕ × DebtPlace). is_held_by c entry.1) p in
    ap (λ (t : Bool). length (cond t (e ∷ rest_of) rest_of)) (none_first c e p none) ∙ count_none c p rising.1 (λ n held. none n (later_at c n e p rising.0 held))
