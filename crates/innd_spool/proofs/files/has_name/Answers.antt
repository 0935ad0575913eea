-- The names that `split` gives are those of `slice_split`, and `any` tests each of them.
use Rattle.std.proofs.Common.{rules, ◌==◌}
use Rattle.std.proofs.lemmas.Iterator.Search.{any_from_yields_List}
use Rattle.std.proofs.lemmas.Iterator.Splits.{YieldsList-from_slice_split}
use Rattle.innd_spool.specs.Files.{is_entry}
use Rattle.innd_spool.proofs.files.has_name.Goals as goal
use borrow.Author.Tests.{tests}

pub returns : goal.returns
returns c =
    any_from_yields_List is_entry _ _ c.any.result c.any.ensures.ran
    (YieldsList-from_slice_split _ (λ octet. octet == 0) c.args.names.now c.split.ensures.rest c.split.ensures.done
    c.split.ensures.closure (λ x b q k. search (rules, tests)))
    (λ x b q k. search (rules, tests))
