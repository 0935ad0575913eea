-- The places of a peer's debts once one more debt has a place, by its key.
use Rattle.std.proofs.Common.{◌≡◌, ℕ, suc, Bool, false, cond, Option, None, Some, List, [], ◌∷◌, refl}
use Rattle.std.proofs.Common.{sym, ap, ◌∙◌, subst, arith}
use Rattle.std.specs.Prelude.{◌==◌}
use Rattle.std.proofs.lemmas.Bool.{eq-eqb, ne_eqb}
use Rattle.std.proofs.lemmas.Bool.Decides.{nat_tests}
use Rattle.std.specs.List.{All}
use Rattle.std.specs.Ordering.{match_ordering, nat_cmp}
use Rattle.std.specs.declared.cmp.Ordering.{Ordering}
use Rattle.std.specs.declared.cmp.Ordering.TheVariants.{Less, Equal, Greater}
use Rattle.peer_queue.specs.DebtPlace.{DebtPlace, Places, place_at, placed, with_place}

same_key : (m n : ℕ) → nat_cmp m n ≡ Equal → m ≡ n
same_key m n same = grind (arith, nat_tests)

above_apart : (m n : ℕ) → nat_cmp m n ≡ Greater → n ≡ m → ⊥
above_apart m n greater same = grind (arith, nat_tests)

abbrev placed_by : Ordering → ℕ → DebtPlace → ℕ × DebtPlace → Places → Places
placed_by order key place e p =
    match_ordering order ((key, place) ∷ e ∷ p) ((e.0, place) ∷ p) (e ∷ with_place p key place)

other_step : (order : Ordering) (key m : ℕ) (place : DebtPlace) (e : ℕ × DebtPlace) (p : Places)
    → nat_cmp key e.0 ≡ order
    → (m ≡ key → ⊥) → place_at (with_place p key place) m ≡ place_at p m
    → place_at (placed_by order key place e p) m ≡ place_at (e ∷ p) m
other_step Less key m place e p is apart rest =
    ap (λ (b : Bool). cond b (Some place) (place_at (e ∷ p) m)) (ne_eqb key m (λ same. apart (sym same)))
other_step Equal key m place e p is apart rest =
    let miss : (e.0 == m) ≡ false = ne_eqb e.0 m (λ same. apart (sym same ∙ sym (same_key key e.0 is))) in
    ap (λ (b : Bool). cond b (Some place) (place_at p m)) miss
    ∙ ap (λ (b : Bool). cond b (Some e.1) (place_at p m)) (sym miss)
other_step Greater key m place e p is apart rest =
    ap (λ (o : Option DebtPlace). cond (e.0 == m) (Some e.1) o) rest

-- any other key keeps its place
pub with_other : (p : Places) (key m : ℕ) (place : DebtPlace) → (m ≡ key → ⊥)
    → place_at (with_place p key place) m ≡ place_at p m
with_other [] key m place apart =
    ap (λ (b : Bool). cond b (Some place) None) (ne_eqb key m (λ same. apart (sym same)))
with_other (e ∷ p) key m place apart =
    other_step (nat_cmp key e.0) key m place e p refl apart (with_other p key m place apart)

here_step : (order : Ordering) (key : ℕ) (place : DebtPlace) (e : ℕ × DebtPlace) (p : Places) → nat_cmp key e.0 ≡ order
    → place_at (with_place p key place) key ≡ Some place → place_at (placed_by order key place e p) key ≡ Some place
here_step Less key place e p is rest =
    ap (λ (b : Bool). cond b (Some place) (place_at (e ∷ p) key)) (eq-eqb key key refl)
here_step Equal key place e p is rest =
    ap (λ (b : Bool). cond b (Some place) (place_at p key)) (eq-eqb e.0 key (sym (same_key key e.0 is)))
here_step Greater key place e p is rest =
    ap (λ (b : Bool). cond b (Some e.1) (place_at (with_place p key place) key))
    (ne_eqb e.0 key (above_apart key e.0 is)) ∙ rest

-- the new key has its place
pub with_here : (p : Places) (key : ℕ) (place : DebtPlace) → place_at (with_place p key place) key ≡ Some place
with_here [] key place = ap (λ (b : Bool). cond b (Some place) None) (eq-eqb key key refl)
with_here (e ∷ p) key place = here_step (nat_cmp key e.0) key place e p refl (with_here p key place)

none_at : (p : Places) (key : ℕ) → All (λ k. key ≡ k → ⊥) (placed p) → place_at p key ≡ None
none_at [] key apart = refl
none_at (e ∷ p) key apart =
    ap (λ (b : Bool). cond b (Some e.1) (place_at p key)) (ne_eqb e.0 key (λ same. apart 0 0 (omega arith) (sym same)))
    ∙ none_at p key (λ k d within. apart (suc k) d (omega (arith, within)))

-- a key that is not owed has no place
pub no_place : (p : Places) (key : ℕ) (keys : List ℕ) → placed p ≡ keys → All (λ k. key ≡ k → ⊥) keys
    → place_at p key ≡ None
no_place p key keys are apart = none_at p key (subst (All (λ k. key ≡ k → ⊥)) (sym are) apart)
