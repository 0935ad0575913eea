-- Whether a rest without LF is left.
use Rattle.std.specs.Prelude.{◌≡◌, ◌≢◌, ◌==◌, ℕ, Bool, false, true, not, List, [], ◌∷◌, ◌++◌, length, nat_lt, refl}
use Rattle.std.proofs.Common.{ap, sym, ◌∙◌, arith}
use Rattle.std.proofs.lemmas.Bool.{ne_eqb}
use Rattle.std.proofs.lemmas.Grind.{common_steps}
use Rattle.std.proofs.lemmas.List.Elements.{All-head, All-tail}
use Rattle.std.proofs.lemmas.List.Sums.{fold-append, fold_push}
use Rattle.funnel.specs.Stream.{IsUnended, Splits, ended}
use Rattle.funnel_files.specs.Rest.{leaves_rest}

-- more octets after some
pub leaves-append : (before : Bool) (a b : List ℕ) → leaves_rest before (a ++ b) ≡ leaves_rest (leaves_rest before a) b
leaves-append before a b = fold-append (λ (left : Bool) octet. not (octet == 10)) before a b

-- the last octet decides
pub leaves-push : (before : Bool) (prefix : List ℕ) (last : ℕ)
    → leaves_rest before (prefix ++ last ∷ []) ≡ not (last == 10)
leaves-push before prefix last = fold_push (λ (left : Bool) octet. not (octet == 10)) before prefix last

-- after whole lines none is left
lines_leave : (lines : List (List ℕ)) → leaves_rest false (ended lines) ≡ false
lines_leave [] = refl
lines_leave (line ∷ lines) =
    leaves-append false (line ++ 10 ∷ []) (ended lines)
    ∙ ap (λ left. leaves_rest left (ended lines)) (leaves-push false line 10)
    ∙ lines_leave lines

-- octets without an LF are all a rest
unended_leave : (octet : ℕ) (octets : List ℕ) → IsUnended (octet ∷ octets) → leaves_rest false (octet ∷ octets) ≡ true
unended_leave octet octets unended = all false octet octets unended
  where
    all : (before : Bool) (o : ℕ) (os : List ℕ) → IsUnended (o ∷ os) → leaves_rest before (o ∷ os) ≡ true
    all before o [] u = ap not (ne_eqb o 10 (All-head (λ x. x ≢ 10) o [] u))
    all before o (p ∷ os) u = all (not (o == 10)) p os (All-tail (λ x. x ≢ 10) o (p ∷ os) u)

rest_shows : (rest : List ℕ) → IsUnended rest → leaves_rest false rest ≡ nat_lt 0 (length rest)
rest_shows [] unended = refl
rest_shows (octet ∷ octets) unended =
    let some : nat_lt 0 (length (octet ∷ octets)) ≡ true = grind (arith, common_steps) in
    unended_leave octet octets unended ∙ sym some

-- a rest is left if there is one after the lines
pub rest_left : (octets : List ℕ) (lines : List (List ℕ)) (rest : List ℕ) → Splits octets lines rest
    → leaves_rest false octets ≡ nat_lt 0 (length rest)
rest_left octets lines rest splits =
    ap (leaves_rest false) splits.whole
    ∙ leaves-append false (ended lines) rest
    ∙ ap (λ left. leaves_rest left rest) (lines_leave lines)
    ∙ rest_shows rest splits.last
