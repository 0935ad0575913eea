-- What a claim leaves, and a key that is given back.
use Rattle.std.proofs.Common.{◌≡◌, ◌==◌, ℕ, Bool, true, false, true≢false, cond, Option, Some, [], ◌∷◌, refl, sym, ap}
use Rattle.std.proofs.Common.{◌∙◌, ◌⊎◌, inl, inr, subst}
use Rattle.std.specs.Prelude.{Result, Ok, Err, IfErr, IsErrOf, OnErr, OnOk, ◌↔◌, find, option_map}
use Rattle.std.proofs.lemmas.Bool.{eq-eqb}
use Rattle.peer_queue.specs.Front.{IsBroken, IsSame, KeepsNotes, places_of}
use Rattle.peer_queue.specs.DebtPlace.{DebtPlace, Held, IsHeldBy, Places, Ready, is_candidate, least_candidate, moved}
use Rattle.peer_queue.specs.DebtPlace.{place_at}
use Rattle.peer_queue.specs.declared.fault.StationFault.{StationFault}
use Rattle.peer_queue.specs.declared.fault.StationFault.TheVariants.{Broken, NotHeld}
use Rattle.peer_queue.specs.declared.front.Front.{Front}
use Rattle.peer_queue.specs.declared.outbox.Outbox.{Outbox}
use Rattle.flusher.specs.Claims.{Unclaims}

held_step : (key : ℕ) (place : DebtPlace) (e : ℕ × DebtPlace) (rest : Option DebtPlace) (b : Bool) → (e.0 == key) ≡ b
    → (b ≡ false → rest ≡ Some place)
    → (let f : ℕ × DebtPlace = cond b (key, place) e in cond (f.0 == key) (Some f.1) rest ≡ Some place)
held_step key place e rest true is behind = ap (λ (t : Bool). cond t (Some place) rest) (eq-eqb key key refl)
held_step key place e rest false is behind = ap (λ (t : Bool). cond t (Some e.1) rest) is ∙ behind refl

behind_it : (now key : ℕ) (place : DebtPlace) (e : ℕ × DebtPlace) (places : Places) (b : Bool)
    → (least_candidate now places ≡ Some key → place_at (moved places key place) key ≡ Some place)
    → option_map (λ (entry : ℕ × DebtPlace). entry.0)
    (cond b (Some e) (find (λ (entry : ℕ × DebtPlace). is_candidate now entry.1) places)) ≡ Some key
    → (e.0 == key) ≡ false → place_at (moved places key place) key ≡ Some place
behind_it now key place e places true within is apart =
    let same : e.0 ≡ key = cc in absurd (true≢false (sym (eq-eqb e.0 key same) ∙ apart))
behind_it now key place e places false within is apart = within is

-- the connection holds the least candidate once that is moved to it
pub held_after : (connection now key : ℕ) (places : Places) → least_candidate now places ≡ Some key
    → IsHeldBy (moved places key (Held connection)) connection key
held_after connection now key [] is = absurd (cc)
held_after connection now key (e ∷ places) is =
    held_step key (Held connection) e (place_at (moved places key (Held connection)) key) (e.0 == key) refl
    (behind_it now key (Held connection) e places (is_candidate now e.1)
    (λ there. held_after connection now key places there) is)

pub not_err : {A : Type 0} (a : A) (fault : StationFault) → ◌≡◌ {A = Result A StationFault} (Ok a) (Err fault) → ⊥
not_err a fault is = cc

-- A key that was claimed is given back, and nothing refuses that.
pub given_back : {A : Type 0} (connection now key : ℕ) (old held new : Front) (result : Result A StationFault)
    → least_candidate now (places_of old) ≡ Some key → (IsBroken old → ⊥) → KeepsNotes old held
    → places_of held ≡ moved (places_of old) key (Held connection)
    → OnOk result (KeepsNotes held new × IsHeldBy (places_of held) connection key
    × (places_of new ≡ moved (places_of held) key Ready))
    → (IsErrOf result Broken ↔ IsBroken held)
    → (IsErrOf result NotHeld ↔ ((IsBroken held → ⊥) × (IsHeldBy (places_of held) connection key → ⊥)))
    → IfErr result (λ e. (e ≡ Broken) ⊎ (e ≡ NotHeld))
    → KeepsNotes old new × (places_of new ≡ moved (moved (places_of old) key (Held connection)) key Ready)
given_back connection now key old held new (Ok a) least works keeps places ok broken not_held kinds = (
  record { outbox = ok.0.outbox ∙ keeps.outbox; limits = ok.0.limits ∙ keeps.limits },
  ok.2 ∙ ap (λ (p : Places). moved p key Ready) places,
)
given_back connection now key old held new (Err e) least works keeps places ok broken not_held kinds =
    absurd (elim kinds as (λ _. ⊥) [
      | inl is ↦ works (sym (ap (λ (o : Outbox). o.broken) keeps.outbox) ∙ broken.0 (ap (λ (f : StationFault). Err f) is))
      | inr is ↦
          (not_held.0 (ap (λ (f : StationFault). Err f) is)).1
          (subst (λ (p : Places). IsHeldBy p connection key) (sym places)
          (held_after connection now key (places_of old) least))
    ])

-- a key is given back, whatever came of it
pub unclaims : {A : Type 0} (connection key : ℕ) (old new : Front) (result : Result A StationFault)
    → OnOk result (KeepsNotes old new × IsHeldBy (places_of old) connection key
    × (places_of new ≡ moved (places_of old) key Ready))
    → (IsErrOf result Broken ↔ IsBroken old)
    → (IsErrOf result NotHeld ↔ ((IsBroken old → ⊥) × (IsHeldBy (places_of old) connection key → ⊥)))
    → IfErr result (λ e. (e ≡ Broken) ⊎ (e ≡ NotHeld)) → OnErr result (IsSame old new)
    → Unclaims connection key old new
unclaims connection key old new (Ok a) ok broken not_held kinds unchanged = record {
  ready = λ works held. (ok.0, ok.2);
  broken = λ is. absurd (not_err a Broken (broken.1 is));
  not_held = λ none. absurd (none ok.1);
}
unclaims connection key old new (Err e) ok broken not_held kinds unchanged = record {
  ready = λ works held. absurd (elim kinds as (λ _. ⊥) [
    | inl is ↦ works (broken.0 (ap (λ (f : StationFault). Err f) is))
    | inr is ↦ (not_held.0 (ap (λ (f : StationFault). Err f) is)).1 held
  ]);
  broken = λ is. unchanged;
  not_held = λ none. unchanged;
}
