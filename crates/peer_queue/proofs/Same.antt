-- A station whose tape stays the same.
use Rattle.std.proofs.Common.{◌≡◌, ℕ, Bool, true, false, cond, None, List, [], ◌∷◌, refl, sym, ap, ◌∙◌, subst}
use Rattle.std.proofs.Props.{props}
use Rattle.disk_model.specs.declared.Disk.{Ghosts}
use Rattle.ledger_core.specs.State.{keys}
use Rattle.recovery.specs.Words.{ledger_of as tape_ledger, place_of}
use Rattle.recovery.specs.declared.tape.Tape.{Tape}
use Rattle.peer_queue.specs.declared.station.Station.{Station}
use Rattle.peer_queue.specs.DebtPlace.{DebtPlace, Places, Ready, is_held_by, placed, released}

released_number : (e : ℕ × DebtPlace) (b : Bool) (rest : List ℕ) → (cond b (e.0, Ready) e).0 ∷ rest ≡ e.0 ∷ rest
released_number e true rest = refl
released_number e false rest = refl

-- the same numbers have a place
pub placed-released : (c : ℕ) (p : Places) → placed (released c p) ≡ placed p
placed-released c [] = refl
placed-released c (e ∷ p) = released_number e (is_held_by c e.1) (placed (released c p)) ∙ ap (λ (l : List ℕ). e.0 ∷ l) (placed-released c p)

-- A station whose tape is the same is the same: what else it keeps is a fact.
pub same_station : {D : Type 0} {g : Ghosts D} (station : Station D g) (tape : Tape D g) → tape ≡ station.tape
    → (all_placed : placed station.index ≡ keys (tape_ledger tape)) (unplaced : place_of tape ≡ None)
    → record station { tape = tape; all_placed = all_placed; unplaced = unplaced } ≡ station
same_station {D} {g} station tape same =
    subst (λ (t : Tape D g). (all_placed : placed station.index ≡ keys (tape_ledger t)) (unplaced : place_of t ≡ None)
    → record station { tape = t; all_placed = all_placed; unplaced = unplaced } ≡ station) (sym same)
    (λ all_placed unplaced.
    ap (λ (x : placed station.index ≡ keys (tape_ledger station.tape)). record station {
      all_placed = x;
      unplaced = unplaced;
    }) (placed_prop all_placed station.all_placed)
    ∙ ap (λ (x : place_of station.tape ≡ None). record station { unplaced = x })
    (unplaced_prop unplaced station.unplaced))
  where
    placed_prop : IsProp (placed station.index ≡ keys (tape_ledger station.tape))
    placed_prop = hlevel props

    unplaced_prop : IsProp (place_of station.tape ≡ None)
    unplaced_prop = hlevel props
