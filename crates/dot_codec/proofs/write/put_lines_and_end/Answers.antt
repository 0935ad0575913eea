use Rattle.std.proofs.Common.{ℕ, List, ◌++◌, ap, ◌∙◌}
use Rattle.dot_codec.proofs.Puts.{all_put}
use Rattle.dot_codec.proofs.write.put_lines_and_end.Goals as goal

pub returns-clause-block : goal.returns-clause-block
returns-clause-block c = λ is.
    let found = c.in_ok-put_lines.ensures.lines (cc c.if-not-branch.false) in
    all_put c.args.text.now found.0 c.args.output.now.items c.put_lines.new.output.items c.reserve-2.new.self.items found.1
    (found.2 ∙ ap (λ (l : List ℕ). l ++ found.0) c.in_ok-reserve.ensures.items)
    (c.in_ok-reserve-2.ensures.items ∙ c.in_ok-extend_from_slice.ensures.ok)
