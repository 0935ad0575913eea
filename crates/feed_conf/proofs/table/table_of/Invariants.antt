use Rattle.std.proofs.Common.{◌≡◌, ℕ, map, take}
use Rattle.std.specs.Option.{option_map}
use Rattle.std.specs.BTreeMap.{get}
use Rattle.feed_conf.specs.ValueView.{value_view}
use Rattle.feed_conf.specs.ReaderView.{use_view}
use Rattle.feed_conf.specs.Settings.{last_value}
use Rattle.feed_conf.specs.TableView.{index_cmp}
use Rattle.feed_conf.proofs.table.table_of.Given as goal

abbrev pub invariant-loop-held : goal.invariant-loop-held
invariant-loop-held l = (block index : ℕ) →
    option_map value_view (get index_cmp l.values (block, index)) ≡ last_value block index (map use_view (take l.held-index l.uses))
