-- A reply line has one reading, and each line has one or does not begin with a code.
use Rattle.std.proofs.Common.{◌≡◌, ◌≢◌, ◌⊎◌, ℕ, false, Option, Some, None, List, [], ◌∷◌, sym, ◌∙◌, ap, refl, inl}
use Rattle.std.proofs.Common.{inr, arith, subst}
use Rattle.std.specs.Prelude.{slice_index, IsTrue}
use Rattle.std.proofs.lemmas.Bool.{cases_lt, cases_eq, cases_Bool, false≢true}
use Rattle.funnel.specs.Line.{LacksId, without_cr}
use Rattle.funnel.specs.Names.{is_msg_id}
use Rattle.funnel.specs.Words.{HasWords}
use Rattle.funnel.specs.WordLaws.{has_words, words_once}
use Rattle.reply_reader.specs.Reply.{BeginsWithCode, HasId, IsDigit, IsNoReply, IsReplyLine, IsText}

code-once : (octets : List ℕ) (code code' : ℕ) (rest rest' : List ℕ) → BeginsWithCode octets code rest
    → BeginsWithCode octets code' rest' → (code ≡ code') × (rest ≡ rest')
code-once octets code code' rest rest' p q =
    let e : (p.first ∷ p.second ∷ p.third ∷ rest) ≡ (q.first ∷ q.second ∷ q.third ∷ rest') = sym p.reads ∙ q.reads in
    let first : p.first ≡ q.first = cc in
    let second : p.second ≡ q.second = cc in
    let third : p.third ≡ q.third = cc in
    (omega (arith, p.value, q.value, first, second, third), cc)

no-id : (rest id : List ℕ) (words others : List (List ℕ)) → HasWords rest words → LacksId words
    → HasWords rest (id ∷ others) → IsTrue (is_msg_id id) → ⊥
no-id rest id words others h lacks k form =
    let e : words ≡ (id ∷ others) = words_once rest words (id ∷ others) h k in
    let not_id : is_msg_id id ≡ false = subst (λ ws. LacksId ws) e lacks in
    false≢true (sym not_id ∙ form)

id-once : (rest : List ℕ) (id id' : Option (List ℕ)) → HasId rest id → HasId rest id' → id ≡ id'
id-once rest None None h k = refl
id-once rest None (Some id') (words, h, lacks) (others, k, form) = absurd (no-id rest id' words others h lacks k form)
id-once rest (Some id) None (words, h, form) (others, k, lacks) = absurd (no-id rest id others words k lacks h form)
id-once rest (Some id) (Some id') (words, h, form) (others, k, form') =
    let e : (id ∷ words) ≡ (id' ∷ others) = words_once rest (id ∷ words) (id' ∷ others) h k in
    let same : id ≡ id' = cc in ap (λ i. Some i) same

no-space : (rest text : List ℕ) → rest ≡ 32 ∷ text → slice_index rest 0 ≢ 32 → ⊥
no-space rest text e other = other (ap (λ r. slice_index r 0) e)

text-once : (rest text text' : List ℕ) → IsText rest text → IsText rest text' → text ≡ text'
text-once rest text text' (inl a) (inl b) = let e : (32 ∷ text) ≡ (32 ∷ text') = sym a ∙ b in cc
text-once rest text text' (inl a) (inr b) = absurd (no-space rest text a b.1)
text-once rest text text' (inr a) (inl b) = absurd (no-space rest text' b a.1)
text-once rest text text' (inr a) (inr b) = sym a.0 ∙ b.0

-- a line has one code, one message-id or none, and one text
pub line-once : (line : List ℕ) (code code' : ℕ) (id id' : Option (List ℕ)) (text text' : List ℕ)
    → IsReplyLine line code id text → IsReplyLine line code' id' text'
    → (code ≡ code') × (id ≡ id') × (text ≡ text')
line-once line code code' id id' text text' p q =
    let same = code-once (without_cr line) code code' p.rest q.rest p.begins q.begins in
    let names : HasId p.rest id' = subst (λ r. HasId r id') (sym same.1) q.names in
    let says : IsText p.rest text' = subst (λ r. IsText r text') (sym same.1) q.says in
    (same.0, id-once p.rest id id' p.names names, text-once p.rest text text' p.says says)

-- a reply line begins with a code
pub line-apart : (line : List ℕ) (code : ℕ) (id : Option (List ℕ)) (text : List ℕ) → IsReplyLine line code id text
    → IsNoReply line → ⊥
line-apart line code id text p none = none code p.rest p.begins

id-of-words : (rest : List ℕ) (words : List (List ℕ)) → HasWords rest words → (id : Option (List ℕ)) × HasId rest id
id-of-words rest [] h = (None, ([], h, tt))
id-of-words rest (word ∷ words) h =
    elim (cases_Bool (is_msg_id word)) [ inl is ↦ (Some word, (words, h, is)) | inr not_id ↦ (None, (word ∷ words, h, not_id)) ]

-- what follows a code has a message-id or none
pub some-id : (rest : List ℕ) → (id : Option (List ℕ)) × HasId rest id
some-id rest = let words = has_words rest in id-of-words rest words.0 words.1

some-text : (rest : List ℕ) → (text : List ℕ) × IsText rest text
some-text [] = ([], inr (refl, λ e. cc))
some-text (octet ∷ rest) =
    elim (cases_eq octet 32) [ inl space ↦ (rest, inl (ap (λ o. o ∷ rest) space)) | inr other ↦ (octet ∷ rest, inr (refl, other)) ]

-- a line that begins with a code is a reply line
pub line-of-code : (line : List ℕ) (code : ℕ) (rest : List ℕ) → BeginsWithCode (without_cr line) code rest
    → (id : Option (List ℕ)) × (text : List ℕ) × IsReplyLine line code id text
line-of-code line code rest begins =
    let id = some-id rest in
    let text = some-text rest in
    (id.0, text.0, record { rest = rest; begins = begins; names = id.1; says = text.1 })

cases-digit : (octet : ℕ) → IsDigit octet ⊎ (IsDigit octet → ⊥)
cases-digit octet =
    elim (cases_lt octet 48) [
      | inl low ↦ inr (λ d. omega (arith, d.0))
      | inr above ↦ elim (cases_lt 57 octet) [ inl high ↦ inr (λ d. omega (arith, d.1)) | inr below ↦ inl (above, below) ]
    ]

abbrev NoCode : List ℕ → Type 0
NoCode octets = (code : ℕ) (rest : List ℕ) → BeginsWithCode octets code rest → ⊥

other-first : (a b c : ℕ) (rest : List ℕ) → (IsDigit a → ⊥) → NoCode (a ∷ b ∷ c ∷ rest)
other-first a b c rest other code behind p = let e = p.reads in let same : p.first ≡ a = cc in other (subst (λ d. IsDigit d) same p.digits.0)

other-second : (a b c : ℕ) (rest : List ℕ) → (IsDigit b → ⊥) → NoCode (a ∷ b ∷ c ∷ rest)
other-second a b c rest other code behind p = let e = p.reads in let same : p.second ≡ b = cc in other (subst (λ d. IsDigit d) same p.digits.1)

other-third : (a b c : ℕ) (rest : List ℕ) → (IsDigit c → ⊥) → NoCode (a ∷ b ∷ c ∷ rest)
other-third a b c rest other code behind p = let e = p.reads in let same : p.third ≡ c = cc in other (subst (λ d. IsDigit d) same p.digits.2)

code-or-none : (octets : List ℕ) → ((code : ℕ) × (rest : List ℕ) × BeginsWithCode octets code rest) ⊎ NoCode octets
code-or-none [] = inr (λ code rest p. let e = p.reads in cc)
code-or-none (a ∷ []) = inr (λ code rest p. let e = p.reads in cc)
code-or-none (a ∷ b ∷ []) = inr (λ code rest p. let e = p.reads in cc)
code-or-none (a ∷ b ∷ c ∷ rest) =
    elim (cases-digit a) [
      | inr other ↦ inr (other-first a b c rest other)
      | inl first ↦ elim (cases-digit b) [
        | inr other ↦ inr (other-second a b c rest other)
        | inl second ↦ elim (cases-digit c) [
          | inr other ↦ inr (other-third a b c rest other)
          | inl third ↦ inl (_, rest, record { first = a; second = b; third = c; reads = refl; digits = (first, second, third); value = refl })
        ]
      ]
    ]

-- each line is a reply line or does not begin with a code
pub line-either : (line : List ℕ)
    → IsNoReply line ⊎ ((code : ℕ) × (id : Option (List ℕ)) × (text : List ℕ) × IsReplyLine line code id text)
line-either line =
    elim (code-or-none (without_cr line)) [
      | inl p ↦ (let rest = line-of-code line p.0 p.1 p.2 in inr (p.0, rest.0, rest.1, rest.2))
      | inr none ↦ inl none
    ]
