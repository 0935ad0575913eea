-- Laws of lines in a stream of octets: there is one first line, and one more line can follow others.
use Rattle.std.specs.Prelude.{◌≡◌, ◌≢◌, ℕ, List, [], ◌∷◌, ◌++◌, refl}
use Rattle.std.proofs.Common.{sym, ◌∙◌, ap}
use Rattle.std.proofs.lemmas.List.{append_assoc, append-nil}
use Rattle.std.proofs.lemmas.List.Concat.{flat_map-append}
use Rattle.std.proofs.lemmas.List.Elements.{All-head, All-tail}
use Rattle.funnel.specs.Stream.{IsUnended, ended}

pub unended_head : (octet : ℕ) (octets : List ℕ) → IsUnended (octet ∷ octets) → octet ≢ 10
unended_head octet octets unended = All-head (λ o. o ≢ 10) octet octets unended

pub unended_tail : (octet : ℕ) (octets : List ℕ) → IsUnended (octet ∷ octets) → IsUnended octets
unended_tail octet octets unended = All-tail (λ o. o ≢ 10) octet octets unended

-- octets have one first line, and one rest after it
pub first_line_once : (a b x y : List ℕ) → IsUnended a → IsUnended b → a ++ 10 ∷ x ≡ b ++ 10 ∷ y → (a ≡ b) × (x ≡ y)
first_line_once [] [] x y p q e = (refl, cc)
first_line_once [] (o ∷ b) x y p q e = let same : o ≡ 10 = cc in absurd (unended_head o b q same)
first_line_once (o ∷ a) [] x y p q e = let same : o ≡ 10 = cc in absurd (unended_head o a p same)
first_line_once (o ∷ a) (c ∷ b) x y p q e =
    let same : o ≡ c = cc in
    let behind : a ++ 10 ∷ x ≡ b ++ 10 ∷ y = cc in
    let cut = first_line_once a b x y (unended_tail o a p) (unended_tail c b q) behind in
    let others : a ≡ b = cut.0 in
    (cc, cut.1)

-- a whole line has its LF
pub whole_line_ends : (line behind : List ℕ) → IsUnended (line ++ 10 ∷ behind) → ⊥
whole_line_ends [] behind p = unended_head 10 behind p refl
whole_line_ends (o ∷ line) behind p = whole_line_ends line behind (unended_tail o (line ++ 10 ∷ behind) p)

-- the first of some lines
pub ended_first : (line : List ℕ) (lines : List (List ℕ)) (rest : List ℕ) → ended (line ∷ lines) ++ rest ≡ line ++ 10 ∷ (ended lines ++ rest)
ended_first line lines rest = append_assoc (line ++ 10 ∷ []) (ended lines) rest ∙ append_assoc line (10 ∷ []) (ended lines ++ rest)

-- octets that are some lines and a rest, if one more line begins that rest
pub ended_push : (octets rest line behind : List ℕ) (lines : List (List ℕ)) → octets ≡ ended lines ++ rest → rest ≡ line ++ 10 ∷ behind → octets ≡ ended (lines ++ line ∷ []) ++ behind
ended_push octets rest line behind lines whole parts =
    let last : ended (line ∷ []) ≡ line ++ 10 ∷ [] = append-nil (line ++ 10 ∷ []) in
    let all : ended (lines ++ line ∷ []) ≡ ended lines ++ (line ++ 10 ∷ []) =
    flat_map-append (λ l. l ++ 10 ∷ []) lines (line ∷ []) ∙ ap (λ l. ended lines ++ l) last
    in
    let first : rest ≡ (line ++ 10 ∷ []) ++ behind = parts ∙ sym (append_assoc line (10 ∷ []) behind) in
    whole ∙ ap (λ l. ended lines ++ l) first ∙ sym (append_assoc (ended lines) (line ++ 10 ∷ []) behind) ∙ ap (λ l. l ++ behind) (sym all)
