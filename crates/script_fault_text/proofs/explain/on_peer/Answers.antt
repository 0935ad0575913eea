-- A line that has its form, and does not begin with `peer ` and a space.
use Rattle.std.proofs.Common.{◌≡◌, ◌∙◌, List, ℕ, [], arith, inr, length, sym}
use Rattle.std.proofs.lemmas.Bool.Decides.{nat_tests}
use Rattle.std.proofs.lemmas.List.{nil_from_length}
use Rattle.script_fault_text.proofs.explain.on_peer.Goals as goal

pub returns-in-None : goal.returns-in-None
returns-in-None c =
    let lines = c.in_ok-lines.lines.items in
    let none : length lines ≡ 0 = grind (arith, nat_tests) in
    let empty : lines ≡ [] = nil_from_length lines none in
    inr (record {
      formed = sym c.in_ok-lines.ensures ∙ empty;
      declared = λ declaration is. let cases = rw is at c.in-None.ensures.cases in cc;
      others = λ none. empty;
    })
