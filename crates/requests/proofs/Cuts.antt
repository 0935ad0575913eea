-- Fields that are cut off a text, and the text again.
use Rattle.std.proofs.Common.{◌≡◌, ◌∙◌, ℕ, Bool, true, false, cond, not, eqb, List, [], ◌∷◌, ◌++◌, length}
use Rattle.std.proofs.Common.{take, drop, refl, sym, ap, one-add, Some, None}
use Rattle.std.proofs.lemmas.Bool.{and_parts}
use Rattle.std.proofs.lemmas.Bool.Decides.{Decides-eqb}
use Rattle.std.proofs.lemmas.List.{take-append-drop, take_at, drop_at}
use Rattle.std.proofs.lemmas.List.Prefix.{front_rest}
use Rattle.std.proofs.lemmas.Slice.Eq.{starts_is}
use Rattle.std.specs.Prelude.{nat_eq}
use Rattle.std.specs.List.{list_all, starts_with}
use Rattle.requests.specs.Fields.{behind, end_of, field, fields_text, id_key, key_key, peer_key, texts_in, value_at}

-- no octet is a space
abbrev pub IsSolid : List ℕ → Type 0
IsSolid xs = list_all (λ octet. not (eqb octet 32)) xs ≡ true

-- nothing, or a space first
abbrev pub Stops : List ℕ → Type 0
Stops [] = Unit {0}
Stops (x ∷ xs) = eqb x 32 ≡ true

pub end_is : (xs ys : List ℕ) → IsSolid xs → Stops ys → end_of (xs ++ ys) ≡ length xs
end_is [] [] h s = refl
end_is [] (y ∷ ys) h s = rw s refl
end_is (x ∷ xs) ys h s =
    let both = and_parts (not (eqb x 32)) (list_all (λ octet. not (eqb octet 32)) xs) h in
    rw (both.0, end_is xs ys both.1 s, one-add) refl

-- a field that stands first is cut off
pub field_cut : (key text value rest : List ℕ) → text ≡ key ++ (value ++ rest) → IsSolid value → Stops rest
    → (value_at key text ≡ Some value) × (behind key text ≡ rest)
field_cut key text value rest e h s =
    let starts : starts_with nat_eq text key ≡ true = (starts_is Decides-eqb text key _ refl).1 (value ++ rest) e in
    let after : drop (length key) text ≡ value ++ rest = front_rest text key (value ++ rest) e in
    let end : length value ≡ end_of (drop (length key) text) = sym (ap end_of after ∙ end_is value rest h s) in
    let first : take (end_of (drop (length key) text)) (drop (length key) text) ≡ value =
    ap (take (end_of (drop (length key) text))) after ∙ take_at value rest _ end in
    let last : drop (end_of (drop (length key) text)) (drop (length key) text) ≡ rest =
    ap (drop (end_of (drop (length key) text))) after ∙ drop_at value rest _ end in
    (rw starts (ap Some first), rw starts last)

-- another one stays
pub field_not_cut : (key text : List ℕ) → starts_with nat_eq text key ≡ false
    → (value_at key text ≡ None) × (behind key text ≡ text)
field_not_cut key text e = (rw e refl, rw e refl)

-- what was cut off, and what is behind it, are the text
back_by : (key text : List ℕ) (b : Bool) → starts_with nat_eq text key ≡ b
    → field key (cond b (Some (take (end_of (drop (length key) text)) (drop (length key) text))) None)
    (cond b (drop (end_of (drop (length key) text)) (drop (length key) text)) text)
    ≡ text
back_by key text true e =
    ap (λ x. key ++ x) (take-append-drop (end_of (drop (length key) text)) (drop (length key) text))
    ∙ sym ((starts_is Decides-eqb text key _ refl).0 e)
back_by key text false e = refl

pub field_back : (key text : List ℕ) → field key (value_at key text) (behind key text) ≡ text
field_back key text = back_by key text (starts_with nat_eq text key) refl

pub texts_back : (text : List ℕ) → fields_text (texts_in text) ≡ text
texts_back text =
    let after_peer = behind peer_key text in
    let after_id = behind id_key after_peer in
    ap (λ x. field peer_key (value_at peer_key text) (field id_key (value_at id_key after_peer) x))
    (field_back key_key after_id)
    ∙ ap (λ x. field peer_key (value_at peer_key text) x) (field_back id_key after_peer) ∙ field_back peer_key text
