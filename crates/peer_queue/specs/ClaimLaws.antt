-- The number that may be claimed first: no connection holds it.
use Rattle.std.proofs.Common.{◌≡◌, ◌==◌, ℕ, ◌<◌, Bool, true, false, cond, Option, Some, [], ◌∷◌, refl, ap, ◌∙◌, arith}
use Rattle.std.specs.Prelude.{find, option_map}
use Rattle.std.proofs.lemmas.Bool.{eq-eqb, ne_eqb}
use Rattle.peer_queue.specs.DebtPlace.{AreAbove, AreRising, DebtPlace, Held, IsUnheld, Later, Places, Ready}
use Rattle.peer_queue.specs.DebtPlace.{is_candidate}
use Rattle.peer_queue.specs.DebtPlace.{is_held, least_candidate, place_at}

above_step : (n m : ℕ) (e : ℕ × DebtPlace) (found : Option (ℕ × DebtPlace)) (b : Bool) → m < e.0
    → (option_map (λ (entry : ℕ × DebtPlace). entry.0) found ≡ Some n → m < n)
    → option_map (λ (entry : ℕ × DebtPlace). entry.0) (cond b (Some e) found) ≡ Some n → m < n
above_step n m e found true low rest is = let same : e.0 ≡ n = cc in omega (arith, same)
above_step n m e found false low rest is = rest is

candidate_above : (now n m : ℕ) (p : Places) → AreAbove m p → least_candidate now p ≡ Some n → m < n
candidate_above now n m [] above is = absurd (cc)
candidate_above now n m (e ∷ p) above is = above_step n m e (find (λ (entry : ℕ × DebtPlace). is_candidate now entry.1) p) (is_candidate now e.1) above.0 (λ there. candidate_above now n m p above.1 there) is

not_held : (now : ℕ) (place : DebtPlace) → is_candidate now place ≡ true → is_held place ≡ false
not_held now Ready may = refl
not_held now (Held c) may = cc
not_held now (Later m) may = refl

unheld_step : (now n : ℕ) (e : ℕ × DebtPlace) (p : Places) (b : Bool) → is_candidate now e.1 ≡ b
    → (least_candidate now p ≡ Some n → e.0 < n) → (least_candidate now p ≡ Some n → IsUnheld p n)
    → option_map (λ (entry : ℕ × DebtPlace). entry.0) (cond b (Some e) (find (λ (entry : ℕ × DebtPlace). is_candidate now entry.1) p)) ≡ Some n → option_map is_held (cond (e.0 == n) (Some e.1) (place_at p n)) ≡ Some false
unheld_step now n e p true may above rest is =
    let same : e.0 ≡ n = cc in
    ap (λ (t : Bool). option_map is_held (cond t (Some e.1) (place_at p n))) (eq-eqb e.0 n same) ∙ ap (λ (t : Bool). Some t) (not_held now e.1 may)
unheld_step now n e p false may above rest is =
    ap (λ (t : Bool). option_map is_held (cond t (Some e.1) (place_at p n))) (ne_eqb e.0 n (λ same. omega (arith, above is, same))) ∙ rest is

-- no connection holds it
pub candidate_unheld : (now n : ℕ) (p : Places) → AreRising p → least_candidate now p ≡ Some n → IsUnheld p n
candidate_unheld now n [] rising is = absurd (cc)
candidate_unheld now n (e ∷ p) rising is =
    unheld_step now n e p (is_candidate now e.1) refl (λ there. candidate_above now n e.0 p rising.0 there) (λ there. candidate_unheld now n p rising.1 there) is
