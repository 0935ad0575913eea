-- The item of the definition that one of the reader stands for.
use Rattle.std.specs.Prelude.{ℕ, List}
use Rattle.std.specs.Borrow.{Bor}
use Rattle.std.specs.Option.{option_map}
use Rattle.feed_conf.specs.Items.{Item, Sort, Stop}
use Rattle.feed_conf.specs.declared.item.Item.{Item as HeldItem}
use Rattle.feed_conf.specs.declared.item.Item.TheVariants.{Peer, Group, Closes, Uses, Stops}
use Rattle.feed_conf.specs.declared.item.Stop.{Stop as HeldStop}
use Rattle.feed_conf.specs.declared.item.Stop.TheVariants.{NoColon, NoBrace, NoName, LoneBrace, LoneQuote}
use Rattle.feed_conf.specs.declared.item.Sort.{Sort as HeldSort}
use Rattle.feed_conf.specs.declared.item.Sort.TheVariants.{PeerWord, GroupWord, Pair, Plain}

abbrev pub stop_view : HeldStop → Stop
stop_view (NoColon word) = Stop.NoColon word.now
stop_view (NoBrace name) = Stop.NoBrace name.now
stop_view NoName = Stop.NoName
stop_view LoneBrace = Stop.LoneBrace
stop_view LoneQuote = Stop.LoneQuote

abbrev pub item_view : HeldItem → Item
item_view (Peer name braced) = Item.Peer name.now braced
item_view Group = Item.Group
item_view Closes = Item.Closes
item_view (Uses key value) = Item.Uses key.now (option_map (λ (v : Bor (List ℕ)). v.now) value)
item_view (Stops stop) = Item.Stops (stop_view stop)

abbrev pub sort_view : HeldSort → Sort
sort_view PeerWord = Sort.PeerWord
sort_view GroupWord = Sort.GroupWord
sort_view (Pair key value) = Sort.Pair key.now value.now
sort_view (Plain word) = Sort.Plain word.now
