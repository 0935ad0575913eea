-- The numbers that have a place, and the ledger's, when one changes.
use Rattle.std.proofs.Common.{◌≡◌, ◌==◌, ℕ, Bool, true, false, cond, not, List, [], ◌∷◌, refl, sym, ap, ◌∙◌}
use Rattle.std.specs.Prelude.{filter}
use Rattle.std.proofs.lemmas.Bool.{eqb-true}
use Rattle.ledger_core.specs.declared.note.Note.{Note}
use Rattle.ledger_core.specs.declared.note.Note.TheVariants.{Owe, Final, Drop, Seen, Closed}
use Rattle.ledger_core.specs.Shape.{Shape, Size, keys_sized, shape_step, without_key}
use Rattle.ledger_core.specs.StateLaws.{keys-without}
use Rattle.ledger_core.specs.State.{State, keys, step}
use Rattle.peer_queue.specs.DebtPlace.{DebtPlace, Places, gone, moved, placed}
use Rattle.peer_queue.specs.Words.{IsEnd}

moved_number : (e : ℕ × DebtPlace) (n : ℕ) (place : DebtPlace) (b : Bool) (rest : List ℕ) → (e.0 == n) ≡ b → (cond b (n, place) e).0 ∷ rest ≡ e.0 ∷ rest
moved_number e n place true rest same = ap (λ (m : ℕ). m ∷ rest) (sym (eqb-true e.0 n same))
moved_number e n place false rest same = refl

-- the same numbers have a place
pub placed-moved : (p : Places) (n : ℕ) (place : DebtPlace) → placed (moved p n place) ≡ placed p
placed-moved [] n place = refl
placed-moved (e ∷ p) n place = moved_number e n place (e.0 == n) (placed (moved p n place)) refl ∙ ap (λ (l : List ℕ). e.0 ∷ l) (placed-moved p n place)

gone_number : (e : ℕ × DebtPlace) (b : Bool) (p : Places) (l : List ℕ) → placed p ≡ l → placed (cond (cond b false true) (e ∷ p) p) ≡ cond (not b) (e.0 ∷ l) l
gone_number e true p l same = same
gone_number e false p l same = ap (λ (k : List ℕ). e.0 ∷ k) same

pub placed-gone : (p : Places) (n : ℕ) → placed (gone p n) ≡ filter (λ m. not (m == n)) (placed p)
placed-gone [] n = refl
placed-gone (e ∷ p) n = gone_number e (e.0 == n) (gone p n) (filter (λ m. not (m == n)) (placed p)) (placed-gone p n)

-- the end of a debt takes its number from the ledger
pub ended : (state : State) (note : Note) (n : ℕ) → IsEnd note n → keys (step state note) ≡ filter (λ m. not (m == n)) (keys state)
ended state (Owe other token id) n end = absurd end
ended state (Final other code) n end = keys-without other state.debts ∙ ap (λ (k : ℕ). filter (λ m. not (m == k)) (keys state)) end
ended state (Drop other cause) n end = keys-without other state.debts ∙ ap (λ (k : ℕ). filter (λ m. not (m == k)) (keys state)) end
ended state (Seen other) n end = absurd end
ended state (Closed source) n end = absurd end

pub placed_ended : (p : Places) (state : State) (note : Note) (n : ℕ) → IsEnd note n → placed p ≡ keys state → placed (gone p n) ≡ keys (step state note)
placed_ended p state note n end same = placed-gone p n ∙ (ap (λ (l : List ℕ). filter (λ m. not (m == n)) l) same ∙ sym (ended state note n end))

-- ---- the shape of the ledger

without_step : (b : Bool) (size : Size) (sizes : List Size) (l : List ℕ) → keys_sized sizes ≡ l
    → keys_sized (cond (not b) (size ∷ sizes) sizes) ≡ cond (not b) (size.0 ∷ l) l
without_step true size sizes l same = same
without_step false size sizes l same = ap (λ (k : List ℕ). size.0 ∷ k) same

pub sized-without : (n : ℕ) (sizes : List Size) → keys_sized (without_key n sizes) ≡ filter (λ m. not (m == n))
    (keys_sized sizes)
sized-without n [] = refl
sized-without n (size ∷ sizes) =
    without_step (size.0 == n) size (without_key n sizes) (filter (λ m. not (m == n)) (keys_sized sizes))
    (sized-without n sizes)

shape_ended : (shape : Shape) (note : Note) (n : ℕ) → IsEnd note n
    → keys_sized (shape_step shape note).sizes ≡ filter (λ m. not (m == n)) (keys_sized shape.sizes)
shape_ended shape (Owe other token id) n end = absurd end
shape_ended shape (Final other code) n end =
    sized-without other shape.sizes ∙ ap (λ (k : ℕ). filter (λ m. not (m == k)) (keys_sized shape.sizes)) end
shape_ended shape (Drop other cause) n end =
    sized-without other shape.sizes ∙ ap (λ (k : ℕ). filter (λ m. not (m == k)) (keys_sized shape.sizes)) end
shape_ended shape (Seen other) n end = absurd end
shape_ended shape (Closed source) n end = absurd end

pub placed_shape : (p : Places) (shape : Shape) (note : Note) (n : ℕ) → IsEnd note n → placed p ≡ keys_sized shape.sizes
    → placed (gone p n) ≡ keys_sized (shape_step shape note).sizes
placed_shape p shape note n end same =
    placed-gone p n ∙ (ap (λ (l : List ℕ). filter (λ m. not (m == n)) l) same ∙ sym (shape_ended shape note n end))
