-- No two notes have one spelling.
use Rattle.std.proofs.Common.{false, true, ◌==◌, Option, None, IsSome, is_some, ◌≡◌, ℕ, zero, suc, ◌<◌, ◌≤◌}
use Rattle.std.proofs.Common.{◌+◌, ◌*◌, ◌^◌, List, [], ◌∷◌, ◌++◌, length, get_or, take, drop, IsTrue, refl, sym, ap}
use Rattle.std.proofs.Common.{◌∙◌, subst, arith, length-take}
use Rattle.std.proofs.lemmas.List.{append-nil, append_assoc, nil_from_length, take-append-drop}
use Rattle.std.specs.Int.{to_be_bytes, from_be_bytes, w16, w32, w64}
use Rattle.std.proofs.lemmas.Nat.{be_bytes_2, be_bytes_4, be_bytes_8}
use Rattle.std.proofs.lemmas.Bool.{false≢true}
use Rattle.std.proofs.lemmas.Bool.Decides.{nat_tests}
use Rattle.funnel.specs.Names.{is_msg_id, is_token}
use Rattle.ledger_core.specs.declared.note.Note.TheVariants.{Owe}
use Rattle.ledger_core.specs.SpellingLaws.{head-far, key-apart, sized-apart}
use Rattle.ledger_core.specs.Keys.{IsKey, number_of, source_of}
use Rattle.ledger_core.specs.Note.{IsNote}
use Rattle.ledger_core.specs.Spelling.{SpellsOwe, key_head, sized_text, spelling}

-- an Owe of a key is spelled by nothing else than its texts
pub owe-none : (key other : ℕ) (octets behind token id : List ℕ) → IsKey key → IsKey other
    → octets ≡ key_head 1 6 key ++ behind → spelling (Owe other token id) ≡ octets
    → (other ≡ key) × (behind ≡ sized_text token ++ sized_text id)
owe-none key other octets behind token id is is' split e =
    let parts = key-apart 1 6 other key (sized_text token ++ sized_text id) behind (λ e. omega (arith, e)) is' is (e ∙ split) in
    (parts.0, sym parts.1)

-- no other texts spell an Owe
pub owe-same : (key other : ℕ) (token id text text' octets : List ℕ) → IsKey key → IsKey other
    → octets ≡ spelling (Owe key token id) → spelling (Owe other text text') ≡ octets
    → (other ≡ key) × (token ≡ text) × (id ≡ text')
owe-same key other token id text text' octets is is' e e' =
    let parts = owe-none key other octets (sized_text token ++ sized_text id) text text' is is' e e' in
    let first = sized-apart token text (sized_text id) (sized_text text') parts.1 in
    let second = sized-apart id text' [] []
    (append-nil (sized_text id) ∙ first.1 ∙ sym (append-nil (sized_text text'))) in
    (parts.0, first.0, second.0)

-- an Owe of a key is one of the same key
pub spelled-of : (octets : List ℕ) (key other : ℕ) (token id : List ℕ) → other ≡ key
    → IsNote (Owe key token id) × (octets ≡ spelling (Owe key token id))
    → IsNote (Owe other token id) × (octets ≡ spelling (Owe other token id))
spelled-of octets key other token id is found =
    subst (λ (k : ℕ). IsNote (Owe k token id) × (octets ≡ spelling (Owe k token id))) (sym is) found

-- an Owe is spelled by its two texts
pub owe-some : (key : ℕ) (octets behind text rest text' more token id : List ℕ) → IsKey key
    → octets ≡ key_head 1 6 key ++ behind
    → behind ≡ sized_text text ++ rest → rest ≡ sized_text text' ++ more → true ≡ (length more == 0)
    → (text ≡ token) × IsTrue (is_token token) → (text' ≡ id) × IsTrue (is_msg_id id)
    → IsNote (Owe key token id) × (octets ≡ spelling (Owe key token id))
owe-some key octets behind text rest text' more token id is split first second empty read read' =
    let none : length more ≡ 0 = grind (arith, nat_tests) in
    let last : rest ≡ sized_text text' =
    second ∙ ap (λ xs. sized_text text' ++ xs) (nil_from_length more none) ∙ append-nil (sized_text text') in
    let texts : behind ≡ sized_text token ++ sized_text id =
    first ∙ ap (λ xs. sized_text text ++ xs) last ∙ ap (λ xs. sized_text xs ++ sized_text text') read.0
    ∙ ap (λ xs. sized_text token ++ sized_text xs) read'.0 in
    ((is, read.1, read'.1), split ∙ ap (λ xs. key_head 1 6 key ++ xs) texts)

fits-take : (n : ℕ) (xs : List ℕ) → ((i : ℕ) → get_or xs i 0 < 256) → (i : ℕ) → get_or (take n xs) i 0 < 256
fits-take zero xs fits i = omega arith
fits-take (suc n) [] fits i = omega arith
fits-take (suc n) (x ∷ xs) fits zero = fits 0
fits-take (suc n) (x ∷ xs) fits (suc i) = fits-take n xs (λ j. fits (suc j)) i

-- a number that was read is spelled as what it was read of
pub number-read : (octets bytes behind : List ℕ) (number : ℕ)
    → bytes ≡ take 8 octets → behind ≡ drop 8 octets → 8 ≤ length octets
    → ((i : ℕ) → get_or octets i 0 < 256) → number ≡ from_be_bytes w64 bytes
    → octets ≡ to_be_bytes w64 number ++ behind
number-read octets bytes behind number b d l fits n =
    let e : to_be_bytes w64 number ≡ take 8 octets =
    be_bytes_8 (take 8 octets) number (omega (arith, length-take 8 octets))
    (fits-take 8 octets fits) (n ∙ ap (from_be_bytes w64) b) in
    sym (take-append-drop 8 octets) ∙ ap (λ xs. xs ++ drop 8 octets) (sym e)
    ∙ ap (λ xs. to_be_bytes w64 number ++ xs) (sym d)

-- the texts of an Owe that were read are its texts, and nothing is behind them
pub texts-apart : (octets token rest id more other other_id : List ℕ)
    → octets ≡ sized_text token ++ rest → rest ≡ sized_text id ++ more → octets ≡ sized_text other ++ sized_text other_id
    → (token ≡ other) × (id ≡ other_id) × (more ≡ [])
texts-apart octets token rest id more other other_id o r e =
    let first = sized-apart token other rest (sized_text other_id) (sym o ∙ e) in
    let second = sized-apart id other_id more [] (sym r ∙ first.1 ∙ sym (append-nil (sized_text other_id))) in
    (first.0, second.0, second.1)

pub not-empty : (xs : List ℕ) → xs ≡ [] → false ≡ (length xs == 0) → ⊥
not-empty [] e f = false≢true f
not-empty (x ∷ xs) e f = cc

pub not-some : {A : Type 0} (o : Option A) → o ≡ None → IsSome o → ⊥
not-some o e h = false≢true (sym (ap is_some e) ∙ h)

-- a code that was read is spelled as what it was read of
pub code-read : (octets : List ℕ) (number : ℕ) → length octets ≡ 2 → ((i : ℕ) → get_or octets i 0 < 256)
    → number ≡ get_or octets 0 0 * 256 + get_or octets 1 0 → octets ≡ to_be_bytes w16 number
code-read octets number l fits e = sym (be_bytes_2 octets number l fits e)

-- an Owe that is spelled so begins with its key, and its texts are behind that
pub owe-apart : (octets rest : List ℕ) (read key token_len id_len : ℕ) → IsKey read → IsKey key
    → octets ≡ key_head 1 6 read ++ rest → (is : SpellsOwe octets key token_len id_len)
    → (read ≡ key) × (rest ≡ sized_text is.token ++ sized_text is.id)
owe-apart octets rest read key token_len id_len is_read is_key split is =
    key-apart 1 6 read key rest (sized_text is.token ++ sized_text is.id) (λ e. omega (arith, e)) is_read is_key
    (sym split ∙ is.spelled)

-- a source or a count that was read is spelled as what it was read of
pub source-read : (octets bytes behind : List ℕ) (source : ℕ)
    → bytes ≡ take 4 octets → behind ≡ drop 4 octets → 4 ≤ length octets
    → ((i : ℕ) → get_or octets i 0 < 256) → source ≡ from_be_bytes w32 bytes
    → octets ≡ to_be_bytes w32 source ++ behind
source-read octets bytes behind source b d l fits n =
    let e : to_be_bytes w32 source ≡ take 4 octets =
    be_bytes_4 (take 4 octets) source (omega (arith, length-take 4 octets))
    (fits-take 4 octets fits) (n ∙ ap (from_be_bytes w32) b) in
    sym (take-append-drop 4 octets) ∙ ap (λ xs. xs ++ drop 4 octets) (sym e)
    ∙ ap (λ xs. to_be_bytes w32 source ++ xs) (sym d)

-- a key of a source beside the funnel, appended part by part
pub pushed-far : (old one two new : List ℕ) (line imported key : ℕ) → 2 ^ 64 ≤ key → one ≡ old ++ imported ∷ []
    → two ≡ one ++ to_be_bytes w32 (source_of key) → new ≡ two ++ to_be_bytes w64 (number_of key)
    → new ≡ old ++ key_head line imported key
pushed-far old one two new line imported key far a b d =
    let source = to_be_bytes w32 (source_of key) in
    let number = to_be_bytes w64 (number_of key) in
    d ∙ ap (λ xs. xs ++ number) b ∙ ap (λ xs. (xs ++ source) ++ number) a
    ∙ append_assoc (old ++ imported ∷ []) source number
    ∙ append_assoc old (imported ∷ []) (source ++ number)
    ∙ ap (λ xs. old ++ xs) (sym (head-far line imported key far))

-- and one that was read, part by part
pub far-key : (line imported key source number tag : ℕ) (octets behind one two : List ℕ) → 2 ^ 64 ≤ key
    → source_of key ≡ source → number_of key ≡ number → octets ≡ tag ∷ behind → tag ≡ imported
    → behind ≡ to_be_bytes w32 source ++ one → one ≡ to_be_bytes w64 number ++ two
    → octets ≡ key_head line imported key ++ two
far-key line imported key source number tag octets behind one two far s n whole t b o =
    whole ∙ ap (λ x. x ∷ behind) t ∙ ap (λ xs. imported ∷ xs) (b ∙ ap (λ xs. to_be_bytes w32 source ++ xs) o
    ∙ sym (append_assoc (to_be_bytes w32 source) (to_be_bytes w64 number) two)
    ∙ ap (λ x. (to_be_bytes w32 x ++ to_be_bytes w64 number) ++ two) (sym s)
    ∙ ap (λ x. (to_be_bytes w32 (source_of key) ++ to_be_bytes w64 x) ++ two) (sym n))
    ∙ ap (λ xs. xs ++ two) (sym (head-far line imported key far))

-- what spells a debt of these texts
pub spelled-owe : (octets rest token behind id last : List ℕ) (key token_len id_len : ℕ) → octets ≡ key_head 1 6 key ++ rest
    → rest ≡ sized_text token ++ behind → behind ≡ sized_text id ++ last → length token ≡ token_len
    → length id ≡ id_len → length last ≡ 0 → SpellsOwe octets key token_len id_len
spelled-owe octets rest token behind id last key token_len id_len o r b t i none = record {
  token = token;
  id = id;
  spelled = o ∙ ap (λ xs. key_head 1 6 key ++ xs) (r ∙ ap (λ xs. sized_text token ++ xs)
      (b ∙ ap (λ xs. sized_text id ++ xs) (nil_from_length last none) ∙ append-nil (sized_text id)));
  token_is = t;
  id_is = i;
}

pub true-empty : (more : List ℕ) → IsTrue (length more == 0) → length more ≡ 0
true-empty more is = grind (arith, nat_tests)

pub empty-true : (more : List ℕ) → more ≡ [] → IsTrue (length more == 0)
empty-true [] e = refl
empty-true (x ∷ more) e = cc e
