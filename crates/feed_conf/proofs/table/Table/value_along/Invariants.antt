use Rattle.std.proofs.Common.{◌≡◌, ◌-◌, List}
use Rattle.feed_conf.specs.Keys.{row_of}
use Rattle.feed_conf.specs.Reading.{Use}
use Rattle.feed_conf.specs.Settings.{path_of, path_within, value_along}
use Rattle.feed_conf.specs.TableView.{IsTableOf}
use Rattle.feed_conf.proofs.table.Table.value_along.Given as goal

abbrev pub invariant-loop-step : goal.invariant-loop-step
invariant-loop-step l = (uses : List Use) → IsTableOf l.self uses →
    value_along (row_of l.key).index uses (path_within (l.block - l.step) l.outer l.at)
    ≡ value_along (row_of l.key).index uses (path_of l.outer l.block)
