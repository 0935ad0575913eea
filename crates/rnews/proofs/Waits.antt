-- The tokens that wait for one message-id, as tokens come and go.
use Rattle.std.proofs.Common.{◌≡◌, ◌≢◌, ◌++◌, ◌∷◌, [], ◌≤◌, ℕ, Bool, true, false, List, Some, None, Option}
use Rattle.std.proofs.Common.{length, map, filter, not, refl, sym, ap, ◌∙◌, subst, arith, append-nil}
use Rattle.std.proofs.Common.{length-append}
use Rattle.std.proofs.lemmas.Bool.{false_from_ne_true, false≢true}
use Rattle.std.proofs.lemmas.List.{map-append}
use Rattle.std.proofs.lemmas.List.Elements.{filter-append}
use Rattle.std.proofs.lemmas.Slice.Eq.{bytes_eq-Decides}
use Rattle.std.specs.Option.{is_some}
use Rattle.std.specs.Str.{bytes_eq}
use Rattle.rnews.specs.declared.waiting.Tokens.{Tokens}
use Rattle.rnews.specs.declared.waiting.Tokens.TheVariants.{One, Several}
use Rattle.rnews.specs.Waits.{IsKeptFor, Wait, is_for, tokens_for}

-- whether two message-ids are equal
pub data Same (a b : List ℕ) : Type 0 where
  same : a ≡ b → Same a b
  differ : a ≢ b → bytes_eq a b ≡ false → Same a b

by_answer : (a b : List ℕ) (answer : Bool) → bytes_eq a b ≡ answer → Same a b
by_answer a b true h = same ((bytes_eq-Decides a b).0 h)
by_answer a b false h = differ (λ e. false≢true (sym h ∙ (bytes_eq-Decides a b).1 e)) h

pub compare : (a b : List ℕ) → Same a b
compare a b = by_answer a b (bytes_eq a b) refl

is_same : (a : List ℕ) → bytes_eq a a ≡ true
is_same a = (bytes_eq-Decides a a).1 refl

-- one more token for this message-id
pub tokens_for-added : (id token : List ℕ) (waits : List Wait)
    → tokens_for id (waits ++ record { token = token; id = id } ∷ []) ≡ tokens_for id waits ++ token ∷ []
tokens_for-added id token waits =
    let wait : Wait = record { token = token; id = id } in
    let here : filter (is_for id) (wait ∷ []) ≡ wait ∷ [] = rw (is_same id) refl in
    ap (map (λ wait. wait.token)) (filter-append (is_for id) waits (wait ∷ []))
    ∙ (ap (λ ws. map (λ wait. wait.token) (filter (is_for id) waits ++ ws)) here
    ∙ map-append (λ wait. wait.token) (filter (is_for id) waits) (wait ∷ []))

-- one more token for another
pub tokens_for-other : (id other token : List ℕ) (waits : List Wait) → bytes_eq other id ≡ false
    → tokens_for other (waits ++ record { token = token; id = id } ∷ []) ≡ tokens_for other waits
tokens_for-other id other token waits h =
    let wait : Wait = record { token = token; id = id } in
    let here : filter (is_for other) (wait ∷ []) ≡ [] = rw h refl in
    ap (map (λ wait. wait.token)) (filter-append (is_for other) waits (wait ∷ [])
    ∙ (ap (λ ws. filter (is_for other) waits ++ ws) here
    ∙ append-nil (filter (is_for other) waits)))

-- Without the tokens for this message-id there is none left for it.
step_same : (id : List ℕ) (wait : Wait) (waits : List Wait) (answer : Bool) → is_for id wait ≡ answer
    → tokens_for id (filter (λ w. not (is_for id w)) waits) ≡ []
    → tokens_for id (filter (λ w. not (is_for id w)) (wait ∷ waits)) ≡ []
step_same id wait waits true h rest = rw h rest
step_same id wait waits false h rest = rw h (rw h rest)

pub tokens_for-taken : (id : List ℕ) (waits : List Wait) → tokens_for id (filter (λ w. not (is_for id w)) waits) ≡ []
tokens_for-taken id [] = refl
tokens_for-taken id (wait ∷ waits) = step_same id wait waits (is_for id wait) refl (tokens_for-taken id waits)

-- No token for another message-id is lost.
step_other : (id other : List ℕ) (wait : Wait) (waits : List Wait) (mine yours : Bool) → is_for id wait ≡ mine
    → is_for other wait ≡ yours → other ≢ id
    → tokens_for other (filter (λ w. not (is_for id w)) waits) ≡ tokens_for other waits
    → tokens_for other (filter (λ w. not (is_for id w)) (wait ∷ waits)) ≡ tokens_for other (wait ∷ waits)
step_other id other wait waits true true h k apart rest =
    absurd (apart ((bytes_eq-Decides other wait.id).0 k ∙ sym ((bytes_eq-Decides id wait.id).0 h)))
step_other id other wait waits true false h k apart rest = rw h (rw k rest)
step_other id other wait waits false true h k apart rest = rw h (rw k (ap (λ tokens. wait.token ∷ tokens) rest))
step_other id other wait waits false false h k apart rest = rw h (rw k rest)

pub tokens_for-kept : (id other : List ℕ) (waits : List Wait) → other ≢ id
    → tokens_for other (filter (λ w. not (is_for id w)) waits) ≡ tokens_for other waits
tokens_for-kept id other [] apart = refl
tokens_for-kept id other (wait ∷ waits) apart =
    step_other id other wait waits (is_for id wait) (is_for other wait) refl refl apart
    (tokens_for-kept id other waits apart)

-- what is kept once one more token waits
pub kept_added : (old : Option Tokens) (new : Tokens) (tokens : List (List ℕ)) (token : List ℕ) → IsKeptFor old tokens
    → (is_some old ≡ true → new ≡ Several) → (is_some old ≡ false → new ≡ One token)
    → IsKeptFor (Some new) (tokens ++ token ∷ [])
kept_added None new tokens token kept more one = rw (one refl, kept) refl
kept_added (Some (One first)) new tokens token kept more one = rw (more refl, kept) (omega arith)
kept_added (Some Several) new tokens token kept more one =
    rw (more refl, length-append tokens (token ∷ [])) (omega (arith, kept))

-- One token is not several.
abbrev pub is_one : Option Tokens → Bool
is_one None = false
is_one (Some (One token)) = true
is_one (Some Several) = false
