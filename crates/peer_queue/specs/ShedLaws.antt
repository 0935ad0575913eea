-- What is shed: no connection holds it.
use Rattle.std.proofs.Common.{◌≡◌, ◌==◌, ℕ, zero, suc, ◌<◌, Bool, true, false, cond, Some, List, [], ◌∷◌, length}
use Rattle.std.proofs.Common.{take, refl, sym, ap, ◌∙◌, subst, inl, inr, arith}
use Rattle.std.specs.Prelude.{filter, option_map}
use Rattle.std.proofs.lemmas.Bool.{eq-eqb, ne_eqb}
use Rattle.ledger_core.specs.State.{State, owed_bytes}
use Rattle.peer_queue.specs.DebtPlace.{AreAbove, AreRising, AreUnheld, DebtPlace, IsUnheld, Places, gone, is_held}
use Rattle.peer_queue.specs.DebtPlace.{place_at}
use Rattle.peer_queue.specs.DebtPlace.{placed, unheld}
use Rattle.peer_queue.specs.Shed.{IsShedOf, IsShedSet, owed_without}
use Rattle.peer_queue.specs.declared.limits.Limits.{Limits}

gone_above : (n : ℕ) (p : Places) → AreAbove n p → gone p n ≡ p
gone_above n [] above = refl
gone_above n (e ∷ p) above =
    ap (λ (b : Bool). cond (cond b false true) (e ∷ gone p n) (gone p n)) (ne_eqb e.0 n (λ same. omega (arith, above.0, same)))
    ∙ ap (λ (l : Places). e ∷ l) (gone_above n p above.1)

above_step : (m : ℕ) (b : Bool) (e : ℕ × DebtPlace) (p : Places) → m < e.0 → AreAbove m p
    → AreAbove m (cond (cond b false true) (e ∷ p) p)
above_step m true e p here rest = rest
above_step m false e p here rest = (here, rest)

above_gone : (m n : ℕ) (p : Places) → AreAbove m p → AreAbove m (gone p n)
above_gone m n [] above = tt
above_gone m n (e ∷ p) above = above_step m (e.0 == n) e (gone p n) above.0 (above_gone m n p above.1)

rising_step : (b : Bool) (e : ℕ × DebtPlace) (p : Places) → AreAbove e.0 p → AreRising p
    → AreRising (cond (cond b false true) (e ∷ p) p)
rising_step true e p above rest = rest
rising_step false e p above rest = (above, rest)

rising_gone : (n : ℕ) (p : Places) → AreRising p → AreRising (gone p n)
rising_gone n [] rising = tt
rising_gone n (e ∷ p) rising = rising_step (e.0 == n) e (gone p n) (above_gone e.0 n p rising.0) (rising_gone n p rising.1)

-- the first number that no connection holds is above whatever all numbers are above
unheld_above : (m : ℕ) (p : Places) (n : ℕ) (rest : List ℕ) → AreAbove m p → unheld p ≡ n ∷ rest → m < n
unheld_above m [] n rest above is = cc
unheld_above m (e ∷ p) n rest above is = on (is_held e.1) (λ behind. unheld_above m p n rest above.1 behind) is
  where
    free : Places
    free = filter (λ (entry : ℕ × DebtPlace). cond (is_held entry.1) false true) p

    on : (b : Bool) → (placed free ≡ n ∷ rest → m < n) → placed (cond (cond b false true) (e ∷ free) free) ≡ n ∷ rest → m < n
    on true later behind = later behind
    on false later here = let same : e.0 ≡ n = cc in omega (arith, above.0, same)

-- what is left without the first number that no connection holds
unheld_first : (p : Places) (n : ℕ) (rest : List ℕ) → AreRising p → unheld p ≡ n ∷ rest
    → IsUnheld p n × (unheld (gone p n) ≡ rest)
unheld_first [] n rest rising is = cc
unheld_first (e ∷ p) n rest rising is = on (λ behind. unheld_first p n rest rising.1 behind) (is_held e.1) refl is
  where
    free : Places
    free = filter (λ (entry : ℕ × DebtPlace). cond (is_held entry.1) false true) p

    on : (unheld p ≡ n ∷ rest → IsUnheld p n × (unheld (gone p n) ≡ rest)) → (b : Bool) → is_held e.1 ≡ b → placed (cond (cond b false true) (e ∷ free) free) ≡ n ∷ rest → IsUnheld (e ∷ p) n × (unheld (gone (e ∷ p) n) ≡ rest)
    on within true held behind =
        let later = within behind in
        let up : e.0 < n = unheld_above e.0 p n rest rising.0 behind in
        let apart : (e.0 == n) ≡ false = ne_eqb e.0 n (omega arith) in (
          ap (λ (b : Bool). option_map is_held (cond b (Some e.1) (place_at p n))) apart ∙ later.0,
          ap (λ (b : Bool). unheld (cond (cond b false true) (e ∷ gone p n) (gone p n))) apart
              ∙ (ap (λ (b : Bool). placed (cond (cond b false true) (e ∷ filter (λ (entry : ℕ × DebtPlace). cond (is_held entry.1) false true) (gone p n)) (filter (λ (entry : ℕ × DebtPlace). cond (is_held entry.1) false true) (gone p n)))) held ∙ later.1),
        )
    on within false held behind =
        let here : e.0 ≡ n = cc in
        let after_it : unheld p ≡ rest = cc in (
          ap (λ (b : Bool). option_map is_held (cond b (Some e.1) (place_at p n))) (eq-eqb e.0 n here) ∙ ap (λ (b : Bool). Some b) held,
          ap (λ (b : Bool). unheld (cond (cond b false true) (e ∷ gone p n) (gone p n))) (eq-eqb e.0 n here)
              ∙ (ap unheld (gone_above n p (subst (λ (m : ℕ). AreAbove m p) here rising.0)) ∙ after_it),
        )

are_unheld : (p : Places) (k : ℕ) (l : List ℕ) → AreRising p → unheld p ≡ l → AreUnheld p (take k l)
are_unheld p zero l rising is = tt
are_unheld p (suc k) [] rising is = tt
are_unheld p (suc k) (n ∷ l) rising is = let first = unheld_first p n l rising is in (first.0, are_unheld (gone p n) k l (rising_gone n p rising) first.1)

-- a prefix of them may be taken out one after another
prefix_unheld : (p : Places) (k : ℕ) → AreRising p → AreUnheld p (take k (unheld p))
prefix_unheld p k rising = are_unheld p k (unheld p) rising refl

take_both : (k c : ℕ) (l : List ℕ) → (j : ℕ) × (take k (take c l) ≡ take j l)
take_both zero c l = (0, refl)
take_both (suc k) zero l = (0, refl)
take_both (suc k) (suc c) [] = (0, refl)
take_both (suc k) (suc c) (n ∷ l) = let rest = take_both k c l in (suc rest.0, ap (λ (r : List ℕ). n ∷ r) rest.1)

-- a prefix of what is to be shed is a prefix of the numbers that no connection holds
pub prefix_in : (limits : Limits) (octets : ℕ) (octets_without : List ℕ → ℕ) (places : Places) (set : List ℕ) (k : ℕ)
    → IsShedOf limits octets octets_without places set
    → (j : ℕ) × (take k set ≡ take j (unheld places))
prefix_in limits octets octets_without places set k is = elim is [
  | inl none ↦ (0, ap (λ (l : List ℕ). take k l) none.1 ∙ take-nil k)
  | inr some ↦
      let both = take_both k (length set) (unheld places) in
      (both.0, ap (λ (l : List ℕ). take k l) some.1.prefix ∙ both.1)
]
  where
    take-nil : (n : ℕ) → (let none : List ℕ = [] in take n none ≡ none)
    take-nil zero = refl
    take-nil (suc n) = refl

pub set_unheld : (limits : Limits) (octets : ℕ) (octets_without : List ℕ → ℕ) (places : Places) (set : List ℕ) (k : ℕ)
    → AreRising places → IsShedOf limits octets octets_without places set → AreUnheld places (take k set)
set_unheld limits octets octets_without places set k rising is =
    let prefix = prefix_in limits octets octets_without places set k is in
    subst (λ (l : List ℕ). AreUnheld places l) (sym prefix.1) (prefix_unheld places prefix.0 rising)

pub prefix_of : (limits : Limits) (state : State) (places : Places) (set : List ℕ) (k : ℕ)
    → IsShedSet limits state places set
    → (j : ℕ) × (take k set ≡ take j (unheld places))
prefix_of limits state places set k is = prefix_in limits (owed_bytes state) (owed_without state) places set k is

pub shed_unheld : (limits : Limits) (state : State) (places : Places) (set : List ℕ) (k : ℕ) → AreRising places
    → IsShedSet limits state places set → AreUnheld places (take k set)
shed_unheld limits state places set k rising is =
    set_unheld limits (owed_bytes state) (owed_without state) places set k rising is
