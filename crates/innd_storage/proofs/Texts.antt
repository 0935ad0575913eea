-- The text of a token of the storage API: its length, and the digits between its ends.
use Rattle.std.proofs.Common.{arith, ◌≡◌, ℕ, ◌+◌, ◌-◌, ◌<◌, ◌≤◌, true, false, List, length, get_or, take, drop, sym}
use Rattle.std.proofs.Common.{ap, inl, inr, ◌∙◌}
use Rattle.std.specs.Char.{is_ascii_hexdigit}
use Rattle.std.specs.List.{list_all}
use Rattle.std.proofs.lemmas.Bool.{and_parts, cases_Bool, eqb-true, false≢true}
use Rattle.std.proofs.lemmas.List.{get_or-drop, get_or-take, length-drop, length-take-le}
use Rattle.std.proofs.lemmas.List.Folds.{list_all_at}
use Rattle.innd_storage.specs.Tokens.{is_storage_text}

-- it has 38 octets
pub text_length : (text : List ℕ) → is_storage_text text ≡ true → length text ≡ 38
text_length text is = eqb-true (length text) 38 (and_parts _ _ (and_parts _ _ (and_parts _ _ is).0).0).0

place_again : (k : ℕ) → 1 ≤ k → 1 + (k - 1) ≡ k
place_again k low = omega arith

-- each octet but the first and the last is a digit
pub hex_at : (text : List ℕ) (k : ℕ) → is_storage_text text ≡ true → 1 ≤ k → k < 37
    → is_ascii_hexdigit (get_or text k 0) ≡ true
hex_at text k is low high =
    let digits = drop 1 text in
    let long = text_length text is in
    let room : 36 ≤ length digits = omega (arith, long, length-drop 1 text) in
    let within : k - 1 < length (take 36 digits) = omega (arith, high, length-take-le 36 digits room) in
    let same : get_or (take 36 digits) (k - 1) 0 ≡ get_or text k 0 =
    get_or-take 36 digits (k - 1) 0 (omega arith) ∙ get_or-drop 1 text (k - 1) 0
    ∙ ap (λ i. get_or text i 0) (place_again k low) in
    let falls : is_ascii_hexdigit (get_or text k 0) ≡ false → list_all is_ascii_hexdigit (take 36 digits) ≡ false =
    λ other. list_all_at is_ascii_hexdigit (take 36 digits) (k - 1) 0 within (ap is_ascii_hexdigit same ∙ other) in
    elim (cases_Bool (is_ascii_hexdigit (get_or text k 0))) [
      | inl digit ↦ digit
      | inr other ↦ absurd (false≢true (sym (falls other) ∙ (and_parts _ _ is).1))
    ]
