-- The last of those that begin at or below the line after the mark.
use Rattle.std.proofs.Common.{arith, ap, ◌∙◌, ◌≡◌, get_or, ◌-◌}
use Rattle.std.proofs.lemmas.List.{get_or_default}
use Rattle.segments.proofs.Rising.{Parts, is_place}
use Rattle.segments.proofs.segments.Segments.place_of.Goals as goal

pub returns-clause-some : goal.returns-clause-some
returns-clause-some c =
    let facts = c.count_up_to-count.ensures in
    let xs = c.args.self.now in
    let at = c.count_up_to-count.result - 1 in
    let first = c.index-first.result.now in
    let is : first ≡ get_or xs at 0 =
    c.index-first.ensures ∙ ap (λ ys. get_or ys at first) c.self.view_is
    ∙ get_or_default xs at first 0 (omega (arith, facts.within)) in
    let parts : Parts xs c.saturating_add.result c.count_up_to-count.result =
    record { within = facts.within; up_to = facts.up_to; above = facts.above } in
    is_place xs c.args.mark c.saturating_add.result c.count_up_to-count.result first facts.firsts parts
    c.saturating_add.ensures (omega arith) is
