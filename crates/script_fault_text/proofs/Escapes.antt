-- A text with escapes, octet by octet.
use Rattle.std.proofs.Common.{◌≡◌, ◌<◌, ◌≤◌, ◌+◌, ◌-◌, ◌∙◌, ℕ, List, [], ◌∷◌, Option, None, Some, length, drop, take}
use Rattle.std.proofs.Common.{ap, arith, sym}
use Rattle.std.proofs.Math.Seq.{take-length}
use Rattle.std.proofs.lemmas.Bool.Decides.{nat_tests}
use Rattle.std.proofs.lemmas.List.{length-drop}
use Rattle.script_fault_text.specs.Parts.{bad_escape, first_count}

-- behind the first octet, the first bad one is the same
pub behind_first : (place count : ℕ) (text : List ℕ) → 0 < length text → first_count text ≡ Some count
    → bad_escape place text ≡ bad_escape (place + count) (drop count text)
behind_first place count [] some is = absurd (omega (arith, some))
behind_first place count (octet ∷ []) some is = grind (arith, nat_tests)
behind_first place count (octet ∷ letter ∷ rest) some is = grind (arith, nat_tests)

-- what is left behind so many octets, as a slice has it
pub left : (count : ℕ) (text : List ℕ) → take (length text - count) (drop count text) ≡ drop count text
left count text =
    ap (λ size. take size (drop count text)) (sym (length-drop count text)) ∙ take-length (drop count text)

-- place and length make up the whole still
pub still_whole : (place count all : ℕ) (text : List ℕ) → count ≤ length text → place + length text ≡ all
    → place + count + length (take (length text - count) (drop count text)) ≡ all
still_whole place count all text within whole =
    omega (arith, within, whole, ap length (left count text), length-drop count text)
