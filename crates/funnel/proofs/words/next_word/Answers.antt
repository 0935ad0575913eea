-- What the two lengths cut off is the gap and the first word.
use Rattle.std.proofs.Common.{◌≡◌, ◌<◌, ◌-◌, ◌==◌, ℕ, Bool, true, false, List, take, drop, length, sym, ◌∙◌, ap, arith}
use Rattle.std.proofs.lemmas.Bool.{eqb-true, eqb-false}
use Rattle.std.proofs.lemmas.List.{take_rest}
use Rattle.std.specs.List.{prefix_len}
use Rattle.funnel.specs.Words.{is_blank, IsFirstWord, IsGap}
use Rattle.funnel.specs.WordLaws.{is_solid, behind_gap, gap_alone, first_word_of}
use Rattle.funnel.proofs.words.next_word.Goals as goal

-- `&text[gap..]`
behind_is : (text : List ℕ) (gap : ℕ) → gap ≡ prefix_len is_blank text → take (length text - gap) (drop gap text) ≡ behind_gap text
behind_is text gap e = take_rest text gap ∙ ap (λ n. drop n text) e

blanks_alone : (text behind : List ℕ) (b : Bool) → behind ≡ behind_gap text → b ≡ (length behind == 0) → b ≡ true → IsGap text
blanks_alone text behind b e test is =
    gap_alone text (sym (ap length e) ∙ eqb-true (length behind) 0 (sym test ∙ is))

word_first : (text behind word rest : List ℕ) (n : ℕ) (b : Bool) → behind ≡ behind_gap text → b ≡ (length behind == 0) → b ≡ false
    → n ≡ prefix_len is_solid behind → word ≡ take n behind → rest ≡ drop n behind → IsFirstWord text word rest
word_first text behind word rest n b e test is len prefix back =
    let ne = eqb-false (length behind) 0 (sym test ∙ is) in
    let some : 0 < length (behind_gap text) = omega (arith, ap length e, ne) in
    rw (prefix, back, len, e) (first_word_of text some)

pub returns-then-is_empty-clause-word : goal.returns-then-is_empty-clause-word
returns-then-is_empty-clause-word c =
    blanks_alone c.args.text.now _ c.is_empty.result (behind_is c.args.text.now c.gap_len.result c.gap_len.ensures.value)
    c.is_empty.ensures c.if-is_empty.true

pub returns-clause-word : goal.returns-clause-word
returns-clause-word c =
    word_first c.args.text.now _ c.split_at.result.0.now c.split_at.result.1.now c.word_len.result c.is_empty.result
    (behind_is c.args.text.now c.gap_len.result c.gap_len.ensures.value)
    c.is_empty.ensures c.if-is_empty.false c.word_len.ensures.value c.split_at.ensures.front c.split_at.ensures.back
