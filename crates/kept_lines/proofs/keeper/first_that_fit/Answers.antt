use Rattle.std.proofs.Common.{◌≡◌, ◌+◌, ◌++◌, ◌∷◌, [], ◌<◌, ◌≤◌, ℕ, List, length, take, drop, ap, sym, ◌∙◌}
use Rattle.std.proofs.Common.{subst, arith, rules, get_or, take-append-drop}
use Rattle.std.proofs.lemmas.List.{drop_more, take_more}
use Rattle.std.proofs.Math.Seq.{take-append_seam}
use Rattle.std.specs.Prelude.{false}
use Rattle.kept_lines.specs.Fits.{Fits}
use Rattle.kept_lines.specs.Texts.{unknown_of, unknown_text}
use Rattle.kept_lines.specs.declared.read_line.ReadLine.{ReadLine}
use Rattle.kept_lines.proofs.Joined.{joined_on}
use Rattle.kept_lines.proofs.keeper.first_that_fit.Goals as goal

-- the text without a line that does not fit
cut_back : (left_out : List (List ℕ)) (lines : List ReadLine) (room i : ℕ) (line : ReadLine) (text more cut : List ℕ)
    → i < length lines → line ≡ get_or lines i line → text ≡ unknown_text left_out (take i lines)
    → length text ≤ room → more ≡ text ++ unknown_of left_out line → room < length more
    → cut ≡ take (length text) more → Fits left_out lines room cut false
cut_back left_out lines room i line text more cut inside is so_far fits one over short =
    let back : cut ≡ text = short ∙ (ap (take (length text)) one ∙ take-append_seam text (unknown_of left_out line)) in
    let whole : more ≡ unknown_text left_out (take (i + 1) lines) =
    joined_on (unknown_of left_out) lines i line [] text more inside is so_far one in
    let next : take (i + 1) lines ≡ take i lines ++ line ∷ [] =
    take_more lines i line inside ∙ ap (λ l. take i lines ++ l ∷ []) (sym is) in
    record {
      some = take i lines;
      rest = drop i lines;
      parts = sym (take-append-drop i lines);
      written = back ∙ so_far;
      short = omega (arith, ap length back, fits);
      left = (
        line,
        drop (i + 1) lines,
        drop_more lines i line inside ∙ ap (λ l. l ∷ drop (i + 1) lines) (sym is),
        omega (arith, over, ap length (whole ∙ ap (unknown_text left_out) next)),
      );
    }

pub loop-line-preserved : goal.loop-line-preserved
loop-line-preserved c = (
  joined_on (unknown_of c.args.left_out.now) c.args.lines.now c.loop-line.line-index c.line-item.result []
      c.loop-line.text.items c.add_unknown.new.text.items c.loop-line-test.true c.line-item.is c.loop-line.invariant.0
      (search c.in_ok-add_unknown.ensures),
  search (rules, arith),
)

pub returns-then-len-room : goal.returns-then-len-room
returns-then-len-room c =
    cut_back c.args.left_out.now c.args.lines.now c.args.room c.loop-line.line-index c.line-item.result
    c.loop-line.text.items c.add_unknown.new.text.items c.truncate.new.self.items c.loop-line-test.true
    c.line-item.is c.loop-line.invariant.0 c.loop-line.invariant.1 (search c.in_ok-add_unknown.ensures)
    (search (rules, arith)) (search (rules, c.truncate.ensures.items))
