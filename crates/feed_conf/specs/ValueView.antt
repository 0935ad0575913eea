-- The value of the definition that one of the reader stands for.
use Rattle.std.specs.Prelude.{◌<◌, ◌^◌}
use Rattle.feed_conf.specs.Values.{Value, TextOf, SwitchOf, NumberOf, Taken}
use Rattle.feed_conf.specs.declared.value.Value.{Value as HeldValue}
use Rattle.feed_conf.specs.declared.value.Value.TheVariants as held
use Rattle.feed_conf.specs.declared.value.Taken.{Taken as HeldTaken}
use Rattle.feed_conf.specs.declared.key.Kind.{Kind}
use Rattle.feed_conf.specs.declared.key.Kind.TheVariants.{AnyText, ShortText, Switch, Connections, Number, Whole, Fraction}

abbrev pub value_view : HeldValue → Value
value_view (held.Text octets) = TextOf octets.now
value_view (held.Switch on) = SwitchOf on
value_view (held.Number number) = NumberOf number

abbrev pub taken_view : HeldTaken → Taken
taken_view taken = record { value = value_view taken.value; limited = taken.limited }

-- 64 bits are enough to see that a value is above the greatest
abbrev pub HasSmallBounds : Kind → Type 0
HasSmallBounds AnyText = Unit {0}
HasSmallBounds ShortText = Unit {0}
HasSmallBounds Switch = Unit {0}
HasSmallBounds Connections = Unit {0}
HasSmallBounds (Number least greatest) = (least < 2 ^ 63) × (greatest < 2 ^ 63)
HasSmallBounds (Whole least greatest) = (least < 2 ^ 63) × (greatest < 2 ^ 63)
HasSmallBounds (Fraction least greatest) = (least < 2 ^ 63) × (greatest < 2 ^ 63)
