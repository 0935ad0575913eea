-- One place more, in its place by its key.
use Rattle.std.proofs.Common.{◌≡◌, ◌==◌, ℕ, ◌<◌, Bool, true, false, cond, Option, Some, None}
use Rattle.std.proofs.Common.{List, [], ◌∷◌, ◌++◌, map, refl, sym, ap, ◌∙◌, arith}
use Rattle.std.specs.Prelude.{option_map}
use Rattle.std.specs.BTreeMap.{insert_entry}
use Rattle.std.specs.List.{All}
use Rattle.std.specs.Ordering.{match_ordering, nat_cmp}
use Rattle.std.specs.declared.cmp.Ordering.{Ordering}
use Rattle.std.specs.declared.cmp.Ordering.TheVariants.{Less, Equal, Greater}
use Rattle.std.proofs.lemmas.Bool.{eqb-false, eq-eqb, le-ltb, ne_eqb}
use Rattle.std.proofs.lemmas.Bool.Decides.{nat_tests}
use Rattle.std.proofs.lemmas.List.Elements.{All-head, All-tail}
use Rattle.peer_queue.specs.DebtPlace.{DebtPlace, IsUnheld, Places, Ready, gone, is_held, place_at, placed}
use Rattle.peer_queue.specs.DebtPlace.{with_place}

same_key : (m n : ℕ) → nat_cmp m n ≡ Equal → m ≡ n
same_key m n same = grind (arith, nat_tests)

apart_key : (m n : ℕ) → nat_cmp m n ≡ Greater → n ≡ m → ⊥
apart_key m n greater same = grind (arith, nat_tests)

-- the places with this one inserted, given how the key compares with that of the first
abbrev inserted : Ordering → ℕ → DebtPlace → ℕ × DebtPlace → Places → Places
inserted order n x e p = match_ordering order ((n, x) ∷ e ∷ p) ((e.0, x) ∷ p) (e ∷ with_place p n x)

-- ---- what has no place

absent_step : (b : Bool) (place : DebtPlace) (o : Option DebtPlace) → cond b (Some place) o ≡ None
    → (b ≡ false) × (o ≡ None)
absent_step true place o none = cc
absent_step false place o none = (refl, none)

-- a key apart from all of these has no place
pub absent_of : (p : Places) (n : ℕ) → All (λ m. n ≡ m → ⊥) (placed p) → place_at p n ≡ None
absent_of [] n apart = refl
absent_of (e ∷ p) n apart =
    ap (λ (b : Bool). cond b (Some e.1) (place_at p n))
    (ne_eqb e.0 n (λ same. All-head (λ m. n ≡ m → ⊥) e.0 (placed p) apart (sym same)))
    ∙ absent_of p n (All-tail (λ m. n ≡ m → ⊥) e.0 (placed p) apart)

gone_absent : (p : Places) (n : ℕ) → place_at p n ≡ None → gone p n ≡ p
gone_absent [] n none = refl
gone_absent (e ∷ p) n none =
    let parts = absent_step (e.0 == n) e.1 (place_at p n) none in
    ap (λ (b : Bool). cond (cond b false true) (e ∷ gone p n) (gone p n)) parts.0
    ∙ ap (λ (l : Places). e ∷ l) (gone_absent p n parts.1)

-- ---- put in, and taken out again

at_step : (order : Ordering) (n : ℕ) (x : DebtPlace) (e : ℕ × DebtPlace) (p : Places) → nat_cmp n e.0 ≡ order
    → place_at (with_place p n x) n ≡ Some x → place_at (inserted order n x e p) n ≡ Some x
at_step Less n x e p is rest = ap (λ (b : Bool). cond b (Some x) (place_at (e ∷ p) n)) (eq-eqb n n refl)
at_step Equal n x e p is rest =
    ap (λ (b : Bool). cond b (Some x) (place_at p n)) (eq-eqb e.0 n (sym (same_key n e.0 is)))
at_step Greater n x e p is rest =
    ap (λ (b : Bool). cond b (Some e.1) (place_at (with_place p n x) n)) (ne_eqb e.0 n (apart_key n e.0 is)) ∙ rest

-- it has this place then
pub place_with : (p : Places) (n : ℕ) (x : DebtPlace) → place_at (with_place p n x) n ≡ Some x
place_with [] n x = ap (λ (b : Bool). cond b (Some x) None) (eq-eqb n n refl)
place_with (e ∷ p) n x = at_step (nat_cmp n e.0) n x e p refl (place_with p n x)

-- no connection holds it once it is ready
pub unheld_with : (p : Places) (n : ℕ) → IsUnheld (with_place p n Ready) n
unheld_with p n = ap (option_map is_held) (place_with p n Ready)

gone_step : (order : Ordering) (n : ℕ) (x : DebtPlace) (e : ℕ × DebtPlace) (p : Places) → nat_cmp n e.0 ≡ order
    → place_at (e ∷ p) n ≡ None → gone (with_place p n x) n ≡ p → gone (inserted order n x e p) n ≡ e ∷ p
gone_step Less n x e p is none rest =
    ap (λ (b : Bool). cond (cond b false true) ((n, x) ∷ gone (e ∷ p) n) (gone (e ∷ p) n)) (eq-eqb n n refl)
    ∙ gone_absent (e ∷ p) n none
gone_step Equal n x e p is none rest =
    absurd (eqb-false e.0 n (absent_step (e.0 == n) e.1 (place_at p n) none).0 (sym (same_key n e.0 is)))
gone_step Greater n x e p is none rest =
    ap (λ (b : Bool). cond (cond b false true) (e ∷ gone (with_place p n x) n) (gone (with_place p n x) n))
    (ne_eqb e.0 n (apart_key n e.0 is)) ∙ ap (λ (l : Places). e ∷ l) rest

-- taken out again it leaves the others
pub gone_with : (p : Places) (n : ℕ) (x : DebtPlace) → place_at p n ≡ None → gone (with_place p n x) n ≡ p
gone_with [] n x none = ap (λ (b : Bool). cond (cond b false true) ((n, x) ∷ []) []) (eq-eqb n n refl)
gone_with (e ∷ p) n x none =
    gone_step (nat_cmp n e.0) n x e p refl none (gone_with p n x (absent_step (e.0 == n) e.1 (place_at p n) none).1)

-- ---- the keys alone

with_key : List ℕ → ℕ → List ℕ
with_key [] k = k ∷ []
with_key (n ∷ ns) k = match_ordering (nat_cmp k n) (k ∷ n ∷ ns) (n ∷ ns) (n ∷ with_key ns k)

keys_step : {X : Type 0} (order : Ordering) (e : ℕ × X) (es others : List (ℕ × X)) (k : ℕ) (x : X) (ns : List ℕ)
    → map (λ (entry : ℕ × X). entry.0) others ≡ ns
    → map (λ (entry : ℕ × X). entry.0) (match_ordering order ((k, x) ∷ e ∷ es) ((e.0, x) ∷ es) (e ∷ others))
    ≡ match_ordering order (k ∷ e.0 ∷ map (λ (entry : ℕ × X). entry.0) es)
    (e.0 ∷ map (λ (entry : ℕ × X). entry.0) es) (e.0 ∷ ns)
keys_step Less e es others k x ns same = refl
keys_step Equal e es others k x ns same = refl
keys_step Greater e es others k x ns same = ap (λ (l : List ℕ). e.0 ∷ l) same

keys_with : {X : Type 0} (es : List (ℕ × X)) (k : ℕ) (x : X)
    → map (λ (entry : ℕ × X). entry.0) (insert_entry nat_cmp es k x) ≡ with_key (map (λ (entry : ℕ × X). entry.0) es) k
unfolding with_key
keys_with [] k x = refl
keys_with (e ∷ es) k x =
    keys_step (nat_cmp k e.0) e es (insert_entry nat_cmp es k x) k x (with_key (map (λ (entry : ℕ × _). entry.0) es) k)
    (keys_with es k x)

-- of two lists with the same keys both have the same with one more
pub same_with : {X Y : Type 0} (es : List (ℕ × X)) (ds : List (ℕ × Y)) (k : ℕ) (x : X) (y : Y)
    → map (λ (entry : ℕ × X). entry.0) es ≡ map (λ (entry : ℕ × Y). entry.0) ds
    → map (λ (entry : ℕ × X). entry.0) (insert_entry nat_cmp es k x)
    ≡ map (λ (entry : ℕ × Y). entry.0) (insert_entry nat_cmp ds k y)
same_with es ds k x y same = keys_with es k x ∙ (ap (λ (ns : List ℕ). with_key ns k) same ∙ sym (keys_with ds k y))

-- ---- put in above all others

-- each key is below this one
abbrev pub AreBelow : ℕ → Places → Type 0
AreBelow n [] = Unit {0}
AreBelow n (e ∷ p) = (e.0 < n) × AreBelow n p

cmp_above : (n m : ℕ) → m < n → nat_cmp n m ≡ Greater
cmp_above n m h = rw (le-ltb n m (omega arith), ne_eqb n m (omega arith))

pub with_last : (p : Places) (n : ℕ) (x : DebtPlace) → AreBelow n p → with_place p n x ≡ p ++ (n, x) ∷ []
with_last [] n x below = refl
with_last (e ∷ p) n x below =
    ap (λ (o : Ordering). inserted o n x e p) (cmp_above n e.0 below.0)
    ∙ ap (λ (l : Places). e ∷ l) (with_last p n x below.1)

pub absent_last : (p : Places) (n : ℕ) → AreBelow n p → place_at p n ≡ None
absent_last [] n below = refl
absent_last (e ∷ p) n below =
    ap (λ (b : Bool). cond b (Some e.1) (place_at p n)) (ne_eqb e.0 n (λ same. omega (arith, below.0, same)))
    ∙ absent_last p n below.1
