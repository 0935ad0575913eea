-- The row of the definition that one of the reader's table of keys stands for.
use Rattle.std.specs.Prelude.{ℕ, List, Option, None, Some}
use Rattle.feed_conf.specs.Keys.{Row}
use Rattle.feed_conf.specs.Values.{Value, TextOf}
use Rattle.feed_conf.specs.ValueView.{value_view}
use Rattle.feed_conf.specs.declared.value.Value.{Value as HeldValue}
use Rattle.feed_conf.specs.declared.key.Row.{Row as HeldRow}

-- a default; `None` stands for the name of the peer
abbrev pub default_view : Option HeldValue → List ℕ → Value
default_view None = λ peer. TextOf peer
default_view (Some value) = λ peer. value_view value

abbrev pub row_view : HeldRow → Row
row_view row = record {
  index = row.index;
  name = row.name.now;
  kind = row.kind;
  of_file = row.of_file;
  default = default_view row.default;
}
