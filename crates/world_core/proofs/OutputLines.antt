-- The lines of an output, taken one after another.
use Rattle.std.proofs.Common.{◌≡◌, ◌≢◌, ℕ, ◌<◌, Bool, true, false, cond, None, Some, List, [], ◌∷◌, ◌++◌, length}
use Rattle.std.proofs.Common.{map, refl, sym, ap, ◌∙◌, arith, append_assoc, append-nil}
use Rattle.std.specs.Prelude.{nat_lt, position}
use Rattle.std.specs.List.{position_or_len}
use Rattle.std.proofs.lemmas.Bool.{ltb-true, ne_eqb}
use Rattle.std.proofs.lemmas.List.{map-append}
use Rattle.std.proofs.lemmas.List.Elements.{All-head, All-tail}
use Rattle.funnel.specs.Line.{without_cr}
use Rattle.funnel.specs.Stream.{BeginsWithLine, IsUnended}
use Rattle.world_core.specs.Output.{SentLine, View, lines_from, lines_in, view_of}
use Rattle.world_core.specs.Pairs.{Reports}
use Rattle.world_core.specs.declared.output.Output.{Output}

-- a whole line, and the lines after it
begun : (line before behind : List ℕ) → IsUnended before
    → lines_from line (before ++ 10 ∷ behind) ≡ without_cr (line ++ before) ∷ lines_in behind
begun line [] behind each = ap (λ l. without_cr l ∷ lines_in behind) (sym (append-nil line))
begun line (x ∷ before) behind each =
    rw (ne_eqb x 10 (All-head (λ octet. octet ≢ 10) x before each)) (
    begun (line ++ x ∷ []) before behind (All-tail (λ octet. octet ≢ 10) x before each)
    ∙ ap (λ l. without_cr l ∷ lines_in behind) (append_assoc line (x ∷ []) before)
    )

-- no line without an LF
none : (line octets : List ℕ) → IsUnended octets → lines_from line octets ≡ []
none line [] each = refl
none line (x ∷ octets) each =
    rw (ne_eqb x 10 (All-head (λ octet. octet ≢ 10) x octets each))
    (none (line ++ x ∷ []) octets (All-tail (λ octet. octet ≢ 10) x octets each))

-- the first line, and the lines after it
first_of_lines : (octets line behind : List ℕ) → BeginsWithLine octets line behind
    → lines_in octets ≡ without_cr line ∷ lines_in behind
first_of_lines octets line behind begins = ap (λ l. lines_in l) begins.0 ∙ begun [] line behind begins.1

pub no_line : (octets : List ℕ) → IsUnended octets → lines_in octets ≡ []
no_line octets each = none [] octets each

-- one more line is reported, the first of those that are left
pub tells_line : (id : ℕ) (outputs new : List Output) (one : Output) (rest line behind : List ℕ) → new ≡ outputs
    ++ one ∷ []
    → view_of one ≡ SentLine id (without_cr line) → BeginsWithLine rest line behind
    → map view_of new ++ map (SentLine id) (lines_in behind) ≡ map view_of outputs ++ map (SentLine id) (lines_in rest)
tells_line id outputs new one rest line behind is says begins =
    rw (is, map-append view_of outputs (one ∷ []), says, first_of_lines rest line behind begins)
    (append_assoc (map view_of outputs) (SentLine id (without_cr line) ∷ []) (map (SentLine id) (lines_in behind)))

pub some_end : (b : Bool) (n end : ℕ) → cond b (Some n) None ≡ Some end → (b ≡ true) × (n ≡ end)
some_end true n end is = (refl, cc)
some_end false n end is = let never : None ≡ Some end = is in cc

-- a position is within the list
pub position_within : {A : Type 0} (p : A → Bool) (xs : List A) (n : ℕ) → position p xs ≡ Some n → n < length xs
position_within p xs n is =
    let at = some_end (nat_lt (position_or_len p xs) (length xs)) (position_or_len p xs) n is in
    omega (arith, ltb-true _ _ at.0, at.1)

-- ---- what is reported

-- a report in two parts
pub reports_both : (was mid outputs : List Output) (one other : List View) → Reports was one mid
    → Reports mid other outputs → Reports was (one ++ other) outputs
reports_both was mid outputs one other first second =
    second ∙ (ap (λ l. l ++ other) first ∙ append_assoc (map view_of was) one other)

pub reports_none : (was outputs : List Output) → outputs ≡ was → Reports was [] outputs
reports_none was outputs same = ap (map view_of) same ∙ sym (append-nil (map view_of was))
