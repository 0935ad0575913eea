use Rattle.std.proofs.Common.{◌≡◌, length}
use Rattle.std.specs.Prelude.{filter}
use Rattle.feed_conf.specs.Explanation.{may_have}
use Rattle.feed_conf.specs.Items.{items_of}
use Rattle.feed_conf.proofs.explanation.next_suspect.Given as goal

abbrev pub invariant-items : goal.invariant-items
invariant-items l = filter (may_have l.kind) (items_of l.rest) ≡ filter (may_have l.kind) (items_of l.line)

abbrev pub decreases-items : goal.decreases-items
decreases-items l = length l.rest
