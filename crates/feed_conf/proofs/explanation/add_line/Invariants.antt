use Rattle.std.proofs.Common.{◌≡◌, ◌++◌, length}
use Rattle.std.specs.Prelude.{flat_map}
use Rattle.feed_conf.specs.Explanation.{item_text}
use Rattle.feed_conf.specs.Items.{items_of}
use Rattle.feed_conf.proofs.explanation.add_line.Given as goal

abbrev pub invariant-items : goal.invariant-items
invariant-items l =
    l.out.items ++ flat_map (item_text l.file l.line) (items_of l.rest)
    ≡ l.initial.out.items ++ flat_map (item_text l.file l.line) (items_of l.text)

abbrev pub decreases-items : goal.decreases-items
decreases-items l = length l.rest
