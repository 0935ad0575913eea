-- The message-id that is read from the body of the one field.
use Rattle.std.proofs.Common.{◌≡◌, ◌↔◌, ℕ, Bool, true, false, List, Option, Some, None, Result, Ok, Err, IfOk}
use Rattle.std.proofs.Common.{IfSome, IsSome, IsTrue, count_by, refl, sym, ap, ◌∙◌}
use Rattle.std.proofs.lemmas.Bool.{false≢true}
use Rattle.funnel.specs.Names.{is_msg_id}
use Rattle.header_fields.specs.Header.{begins_field, first_body, id_in, trimmed}

by_form : (lines : List (List ℕ)) (text : List ℕ) (found : Option (List ℕ)) (form : Bool) → is_msg_id text ≡ form
    → count_by begins_field lines ≡ 1 → text ≡ trimmed (first_body lines) → IsSome found ↔ IsTrue (is_msg_id text)
    → IfSome found (λ id. id ≡ text) → found ≡ id_in lines
by_form lines text None true h one is whether value = absurd (false≢true (whether.1 h))
by_form lines text None false h one is whether value = rw one (rw (sym is) (rw h refl))
by_form lines text (Some id) true h one is whether value = rw one (rw (sym is) (rw h (ap Some value)))
by_form lines text (Some id) false h one is whether value = absurd (false≢true (sym h ∙ whether.0 refl))

pub found_is : {E : Type 0} (lines : List (List ℕ)) (text : List ℕ) (r : Result (Option (List ℕ)) E)
    → count_by begins_field lines ≡ 1 → text ≡ trimmed (first_body lines)
    → IfOk r (λ found. IsSome found ↔ IsTrue (is_msg_id text))
    → IfOk r (λ found. IfSome found (λ id. id ≡ text)) → IfOk r (λ found. found ≡ id_in lines)
found_is lines text (Err e) one is whether value = tt
found_is lines text (Ok found) one is whether value =
    by_form lines text found (is_msg_id text) refl one is whether value
