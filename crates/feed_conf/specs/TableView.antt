-- The uses that a table of values stands for.
use Rattle.std.specs.Prelude.{◌≡◌, ℕ, List, map}
use Rattle.std.specs.Option.{option_map}
use Rattle.std.specs.BTreeMap.{get}
use Rattle.std.specs.Ordering.{nat_cmp, ordering_then}
use Rattle.std.specs.declared.cmp.Ordering.{Ordering}
use Rattle.feed_conf.specs.Reading.{Use}
use Rattle.feed_conf.specs.ReaderView.{use_view}
use Rattle.feed_conf.specs.ValueView.{value_view}
use Rattle.feed_conf.specs.Settings.{last_value}
use Rattle.feed_conf.specs.declared.reader.Use.{Use as HeldUse}
use Rattle.feed_conf.specs.declared.table.Table.{Table}

-- the order of the indexes of a table
abbrev pub index_cmp : ℕ × ℕ → ℕ × ℕ → Ordering
index_cmp one other = ordering_then (nat_cmp one.0 other.0) (nat_cmp one.1 other.1)

abbrev pub uses_view : List HeldUse → List Use
uses_view uses = map use_view uses

-- the table holds the value of the last use of each key in each block
abbrev pub IsTableOf : Table → List Use → Type 0
IsTableOf table uses = (block index : ℕ) → option_map value_view (get index_cmp table.values (block, index)) ≡ last_value block index uses
