-- A line has one first word, or none.
use Rattle.std.proofs.Common.{List, ℕ, subst, sym}
use Rattle.std.specs.Prelude.{IsTrue, false}
use Rattle.funnel.specs.WordLaws.{first_word_once, gap_no_word}
use Rattle.owed_list.specs.Wanted.{IsNamed}
use Rattle.owed_list.proofs.wanted.begins_with_one.Goals as goal

pub returns-in-Some : goal.returns-in-Some
returns-in-Some c = (
  λ is. (c.in-Some.word.now, c.in-Some.field-0-1.now, c.in-Some.ensures.word, c.is_among.ensures.0 is),
  λ (word, rest, first, named).
      let same = first_word_once c.args.line.now c.in-Some.word.now c.in-Some.field-0-1.now word rest
      c.in-Some.ensures.word first in
      c.is_among.ensures.1 (subst (λ (w : List ℕ). IsNamed c.args.names.now w) (sym same.0) named),
)

pub returns-in-None : goal.returns-in-None
returns-in-None c = (
  λ never. let no : IsTrue false = never in cc,
  λ (word, rest, first, named). absurd (gap_no_word c.args.line.now word rest c.in-None.ensures.word first),
)
