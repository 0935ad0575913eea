-- What is known of what feeds peers, over one order.
use Rattle.std.specs.Prelude.{◌≡◌, ℕ, Bool, true, false, List, Option}
use Rattle.feed_conf.specs.Settings.{Outcome}
use Rattle.feed_ends.specs.Source.{Source}
use Rattle.feed_ends.specs.declared.feed_end.FeedEnd.{FeedEnd}
use Rattle.feed_ends.specs.declared.listing.Listing.{Listing}
use Rattle.cli.specs.declared.order.Order.{Order}
use Rattle.cli.specs.declared.order.Order.TheVariants.{DrillFromInput, Drill, Check, PrintConf, Owed, Feed}
use Rattle.cli.specs.declared.order.Order.TheVariants.{Print, Mistake}

-- What became of it and of standard output in each case: it fed by these settings, from this source, dropping each
-- missing article or not, logging or not, and ended like this; it listed what is owed by these settings, or all that
-- waits, logging or not, and ended like this; it was not asked.
pub record Feeding : Type 1 where
  pub fed : Outcome → Source → (drops_missing verbose : Bool) → FeedEnd → Type 0
  pub listed : Outcome → Listing → Bool → FeedEnd → Type 0
  pub unasked : Type 0

-- the same for this value of what feeds, before and after the order, and for what standard output had and has
abbrev pub feeding_of : {P : Type 0}
    → (fed : P → Option (List ℕ) → Outcome → Source → Bool → Bool → FeedEnd → P → Option (List ℕ) → Type 0)
    → (listed : P → Option (List ℕ) → Outcome → Listing → Bool → FeedEnd → P → Option (List ℕ) → Type 0)
    → (before after : P) → (old new : Option (List ℕ)) → Feeding
feeding_of fed listed before after old new = record {
  fed = λ conf source drops_missing verbose end. fed before old conf source drops_missing verbose end after new;
  listed = λ conf listing verbose end. listed before old conf listing verbose end after new;
  unasked = after ≡ before;
}

-- whether an order asks what feeds peers
abbrev pub asks_feeds : Order → Bool
asks_feeds DrillFromInput = false
asks_feeds (Drill path) = false
asks_feeds (Check path verbose) = false
asks_feeds (PrintConf path verbose) = false
asks_feeds (Owed path listing verbose) = true
asks_feeds (Feed path source drops_missing verbose) = true
asks_feeds (Print text) = false
asks_feeds (Mistake what) = false
