-- The lines of a text, put out one after another.
use Rattle.std.proofs.Common.{◌≡◌, ℕ, ◌+◌, ◌<◌, ◌≤◌, List, [], ◌∷◌, ◌++◌, length, refl, sym, ◌∙◌, ap, subst, inl, inr, arith, append_assoc, length-append, take, true, false}
use Rattle.std.proofs.lemmas.List.{append-nil, take_at}
use Rattle.bytes.specs.Filled.{Filled}
use Rattle.dot_codec.specs.Lines.{HasLines, IsFirstLine}
use Rattle.dot_codec.specs.Block.{stuffed, written, end_of_block}
use Rattle.dot_codec.specs.Put.{AreWritten, Extends}
use Rattle.dot_codec.specs.Scan.{IsRun, ends_line}
use Rattle.dot_codec.specs.TextLaws.{lines_behind, none_of_nothing, rest_shorter}
use Rattle.dot_codec.specs.declared.scan.RunEnd.{RunEnd}
use Rattle.dot_codec.specs.declared.scan.RunEnd.TheVariants.{End, Nul, Lf, CrLf, Cr}
use Rattle.dot_codec.proofs.Runs.{no_line_at_cr, no_line_at_nul}

line_written : (text line rest : List ℕ) → IsFirstLine text line rest → AreWritten text rest (stuffed line ++ 13 ∷ 10 ∷ [])
line_written text line rest first = record {
  ahead = λ lines has.
      let behind = lines_behind text line rest lines first has in
      (behind.0, behind.2, ap written behind.1 ∙ sym (append_assoc (stuffed line) (13 ∷ 10 ∷ []) (written behind.0)));
  back = λ more has. (line ∷ more, (rest, first, has));
}

-- the first line, which is put out, and the rest after it
abbrev pub Puts : List ℕ → List ℕ → List ℕ → Type 0
Puts text line rest = AreWritten text rest (stuffed line ++ 13 ∷ 10 ∷ []) × (length rest < length text)

puts_first : (text line rest : List ℕ) → IsFirstLine text line rest → Puts text line rest
puts_first text line rest first = (line_written text line rest first, rest_shorter text line rest first)

puts_end : (text line rest : List ℕ) → 0 < length text → IsRun text line End rest → Puts text line rest
puts_end text line rest some (tail, is, is_line, (none, last)) =
    let whole : text ≡ line = is ∙ (ap (λ (t : List ℕ). line ++ t) none ∙ append-nil line) in
    puts_first text line rest (is_line, inl (whole, last, subst (λ (t : List ℕ). 0 < length t) whole some))

puts_lf : (text line rest : List ℕ) → IsRun text line Lf rest → Puts text line rest
puts_lf text line rest (tail, is, is_line, lf) = puts_first text line rest (is_line, inr (inl (is ∙ ap (λ (t : List ℕ). line ++ t) lf)))

puts_crlf : (text line rest : List ℕ) → IsRun text line CrLf rest → Puts text line rest
puts_crlf text line rest (tail, is, is_line, crlf) = puts_first text line rest (is_line, inr (inr (is ∙ ap (λ (t : List ℕ). line ++ t) crlf)))

pub puts_line : (text line rest : List ℕ) (stop : RunEnd) → ends_line stop ≡ true → 0 < length text → IsRun text line stop rest → Puts text line rest
puts_line text line rest End ends some is = puts_end text line rest some is
puts_line text line rest Nul ends some is = cc
puts_line text line rest Lf ends some is = puts_lf text line rest is
puts_line text line rest CrLf ends some is = puts_crlf text line rest is
puts_line text line rest Cr ends some is = cc

pub none_at : (text line rest : List ℕ) (stop : RunEnd) → ends_line stop ≡ false → 0 < length text → IsRun text line stop rest → (lines : List (List ℕ)) → HasLines text lines → ⊥
none_at text line rest End ends some is = cc
none_at text line rest Nul ends some is = λ lines has. absurd (omega (arith, some, ap length (no_line_at_nul text line rest is lines has)))
none_at text line rest Lf ends some is = cc
none_at text line rest CrLf ends some is = cc
none_at text line rest Cr ends some is = λ lines has. absurd (omega (arith, some, ap length (no_line_at_cr text line rest is lines has)))

-- the lines before the rest are put out
pub record PutSoFar (text rest : List ℕ) (old new : Filled) : Type 0 where
  pub form : List ℕ
  pub are : AreWritten text rest form
  pub items : new.items ≡ old.items ++ form
  pub room : length old.items + old.spare ≤ length new.items + new.spare

pub so_far_none : (text : List ℕ) (old : Filled) → PutSoFar text text old old
so_far_none text old = record {
  form = [];
  are = record { ahead = λ lines has. (lines, has, refl); back = λ more has. (more, has) };
  items = sym (append-nil old.items);
  room = omega arith;
}

pub so_far_more : (text rest next : List ℕ) (old new newer : Filled) → PutSoFar text rest old new → (form : List ℕ) × AreWritten rest next form × (newer.items ≡ new.items ++ form) → Extends new newer → PutSoFar text next old newer
so_far_more text rest next old new newer so_far (form, are, items) extends = record {
  form = so_far.form ++ form;
  are = record {
    ahead = λ lines has.
        let left = so_far.are.ahead lines has in
        let more = are.ahead left.0 left.1 in
        (more.0, more.1, left.2 ∙ (ap (λ (l : List ℕ). so_far.form ++ l) more.2 ∙ sym (append_assoc so_far.form form (written more.0))));
    back = λ more has. let left = are.back more has in so_far.are.back left.0 left.1;
  };
  items = items ∙ (ap (λ (l : List ℕ). l ++ form) so_far.items ∙ append_assoc old.items so_far.form form);
  room = omega (arith, so_far.room, extends.2);
}

pub extends_far : (text rest : List ℕ) (old new newer : Filled) → PutSoFar text rest old new → Extends new newer → Extends old newer
extends_far text rest old new newer so_far (more, items, room) =
    (so_far.form ++ more, items ∙ (ap (λ (l : List ℕ). l ++ more) so_far.items ∙ append_assoc old.items so_far.form more), omega (arith, so_far.room, room))

-- the rest of a text that has lines has them
pub none_far : (text rest : List ℕ) (old new : Filled) → PutSoFar text rest old new → ((lines : List (List ℕ)) → HasLines rest lines → ⊥) → (lines : List (List ℕ)) → HasLines text lines → ⊥
none_far text rest old new so_far none lines has = let left = so_far.are.ahead lines has in none left.0 left.1

-- all lines are put out, and the end of the block
pub all_put : (text form : List ℕ) (old new newer : List ℕ) → AreWritten text [] form → new ≡ old ++ form → newer ≡ new ++ end_of_block → (lines : List (List ℕ)) × HasLines text lines × (newer ≡ old ++ written lines)
all_put text form old new newer are is end =
    let found = are.back [] refl in
    let left = are.ahead found.0 found.1 in
    let none : left.0 ≡ [] = none_of_nothing left.0 left.1 in
    (found.0, found.1, end ∙ (ap (λ (l : List ℕ). l ++ end_of_block) is ∙ (append_assoc old form end_of_block ∙ ap (λ (l : List ℕ). old ++ l) (ap (λ (l : List (List ℕ)). form ++ written l) (sym none) ∙ sym left.2))))

pub extends_same : (old new : Filled) → new.items ≡ old.items → old.spare ≤ new.spare → Extends old new
extends_same old new items spare = ([], items ∙ sym (append-nil old.items), omega (arith, ap length items, spare))

pub extends_by : (old new : Filled) (more : List ℕ) → new.items ≡ old.items ++ more → old.spare ≤ new.spare + length more → Extends old new
extends_by old new more items spare = (more, items, omega (arith, ap length items, length-append old.items more, spare))

pub extends_more : (old new newer : Filled) → Extends old new → Extends new newer → Extends old newer
extends_more old new newer (front, items, room) (more, items', room') =
    (front ++ more, items' ∙ (ap (λ (l : List ℕ). l ++ more) items ∙ append_assoc old.items front more), omega (arith, room, room'))

-- what was put out is taken back
pub taken_back : (old new back : Filled) → Extends old new → back.items ≡ take (length old.items) new.items → length back.items + back.spare ≡ length new.items + new.spare → (back.items ≡ old.items) × (old.spare ≤ back.spare)
taken_back old new back (more, items, room) is all =
    let same : back.items ≡ old.items = is ∙ (ap (take (length old.items)) items ∙ take_at old.items more (length old.items) refl) in
    (same, omega (arith, room, all, ap length same))
