-- What the first run says of octets, of a text and of a block.
use Rattle.std.proofs.Common.{◌≡◌, ℕ, zero, suc, ◌<◌, true, false, eqb, List, [], ◌∷◌, length, get_or, take, drop, refl, sym, ◌∙◌, ap, subst, inl, inr, arith}
use Rattle.std.proofs.lemmas.Bool.{and_from, false_from_ne_true, not_from_true, not_from_false}
use Rattle.memchr.specs.Find.{is_byte3}
use Rattle.dot_codec.specs.Lines.{is_line_octet, IsLine, IsFirstLine, HasLines}
use Rattle.dot_codec.specs.Fault.{IsFaultyLine}
use Rattle.dot_codec.specs.Scan.{IsStop, IsRun, EndsRun}
use Rattle.dot_codec.specs.declared.fault.BlockFault.TheVariants.{BareCr}
use Rattle.dot_codec.specs.declared.scan.RunEnd.{RunEnd}
use Rattle.dot_codec.specs.declared.scan.RunEnd.TheVariants.{End, Nul, Lf, CrLf, Cr}
use Rattle.dot_codec.specs.TextLaws.{cut_once, EndsLine, EndsRun-from_line, tail_of}

pub line_before : (octets : List ℕ) (n : ℕ) → ((k : ℕ) → k < n → k < length octets → is_byte3 0 10 13 (get_or octets k 0) ≡ true → ⊥) → IsLine (take n octets)
line_before [] zero none = refl
line_before [] (suc n) none = refl
line_before (x ∷ octets) zero none = refl
line_before (x ∷ octets) (suc n) none =
    and_from (is_line_octet x) _ (not_from_false _ (false_from_ne_true (is_byte3 0 10 13 x) (none 0 (omega arith) (omega arith))))
    (line_before octets n (λ k below inside. none (suc k) (omega arith) (omega arith)))

pub run_ends_at : (octets : List ℕ) (n : ℕ) → n < length octets → is_byte3 0 10 13 (get_or octets n 0) ≡ true → EndsRun (drop n octets)
run_ends_at [] n inside passes = absurd (omega arith)
run_ends_at (x ∷ octets) zero inside passes = not_from_true _ passes
run_ends_at (x ∷ octets) (suc n) inside passes = run_ends_at octets n (omega arith) passes

stop_ends : (stop : RunEnd) (tail rest : List ℕ) → IsStop stop tail rest → EndsRun tail
stop_ends End tail rest is = subst EndsRun (sym is.0) tt
stop_ends Nul tail rest is = subst EndsRun (sym is) refl
stop_ends Lf tail rest is = subst EndsRun (sym is) refl
stop_ends CrLf tail rest is = subst EndsRun (sym is) refl
stop_ends Cr tail rest is = subst EndsRun (sym is.0) refl

-- a text that has a first line has it up to the first stop
line_at_stop : (text run rest line next : List ℕ) (stop : RunEnd) → IsRun text run stop rest → IsFirstLine text line next → (tail : List ℕ) × IsStop stop tail rest × EndsLine tail next
line_at_stop text run rest line next stop (tail, is, is_line, at) first =
    let other = tail_of text line next first in
    let cut = cut_once run line tail other.0 is_line first.0 (stop_ends stop tail rest at) (EndsRun-from_line other.0 next other.2) (sym is ∙ other.1) in
    (tail, at, subst (λ (t : List ℕ). EndsLine t next) (sym cut.1) other.2)

-- no text has a line up to a NUL
pub no_line_at_nul : (text run rest : List ℕ) → IsRun text run Nul rest → (lines : List (List ℕ)) → HasLines text lines → text ≡ []
no_line_at_nul text run rest is [] has = has
no_line_at_nul text run rest is (line ∷ lines) (next, first, has) =
    let found = line_at_stop text run rest line next Nul is first in
    absurd (nul_ends_no_line found.0 found.1 found.2)
  where
    nul_ends_no_line : (tail : List ℕ) → tail ≡ 0 ∷ rest → EndsLine tail next → ⊥
    nul_ends_no_line tail nul ends = elim ends [ inl none ↦ cc (nul, none.0) | inr some ↦ elim some [ inl lf ↦ cc | inr crlf ↦ cc ] ]

-- nor up to a CR without an LF after it
pub no_line_at_cr : (text run rest : List ℕ) → IsRun text run Cr rest → (lines : List (List ℕ)) → HasLines text lines → text ≡ []
no_line_at_cr text run rest is [] has = has
no_line_at_cr text run rest is (line ∷ lines) (next, first, has) =
    let found = line_at_stop text run rest line next Cr is first in
    absurd (cr_ends_no_line found.0 found.1 found.2)
  where
    cr_ends_no_line : (tail : List ℕ) → IsStop Cr tail rest → EndsLine tail next → ⊥
    cr_ends_no_line tail (cr, bare) ends = elim ends [ inl none ↦ cc (cr, none.0) | inr some ↦ elim some [ inl lf ↦ cc | inr crlf ↦ bare next (cc (cr, crlf)) ] ]

-- another octet than LF after the CR
pub bare_cr : (octets run rest : List ℕ) → IsRun octets run Cr rest → eqb (length rest) 0 ≡ false → IsFaultyLine BareCr octets
bare_cr octets run [] is some = cc
bare_cr octets run (octet ∷ rest) (tail, is, is_line, (cr, bare)) some =
    (run, tail, is, is_line, (octet, rest, cr, λ lf. bare rest (ap (λ (o : ℕ). o ∷ rest) lf)))
