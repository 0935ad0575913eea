-- The article is cut at each LF, and lines are taken up to the first empty one.
use Rattle.std.proofs.Common.{◌==◌, not, rules, ap, ◌∙◌}
use Rattle.std.proofs.lemmas.Iterator.Consumers.{map_from_collect}
use Rattle.std.proofs.lemmas.Iterator.Search.{YieldsList-from_take_while}
use Rattle.std.proofs.lemmas.Iterator.Splits.{YieldsList-from_slice_split}
use Rattle.std.specs.Slice.Iter.{split_callee, split_done, split_rest}
use Rattle.header_fields.specs.Header.{is_empty_line}
use Rattle.header_fields.proofs.header.header_lines.Goals as goal
use borrow.Author.Tests.{tests}

pub returns : goal.returns
returns c =
    map_from_collect _ c.collect.ensures.ran
    (YieldsList-from_take_while _ (λ line. not (is_empty_line line))
    (YieldsList-from_slice_split _ (λ octet. octet == 10) c.args.article.now
    (ap split_rest c.take_while.ensures.source ∙ c.split.ensures.rest)
    (ap split_done c.take_while.ensures.source ∙ c.split.ensures.done)
    (ap split_callee c.take_while.ensures.source ∙ c.split.ensures.closure)
    (λ x b q k. search (rules, tests)))
    c.take_while.ensures.closure c.take_while.ensures.done (λ x b q k. search (rules, tests)))
