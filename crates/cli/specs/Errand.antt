-- What an errand asks of what feeds peers.
use Rattle.std.specs.Prelude.{ℕ, Bool, List, Option}
use Rattle.feed_conf.specs.Settings.{Outcome}
use Rattle.feed_ends.specs.Source.{Source, source_view}
use Rattle.cli.specs.Feeding.{feeding_of}
use Rattle.feed_ends.specs.declared.feed_end.FeedEnd.{FeedEnd}
use Rattle.feed_ends.specs.declared.listing.Listing.{Listing}
use Rattle.cli.specs.declared.runner.Errand.{Errand}
use Rattle.cli.specs.declared.runner.Errand.TheVariants.{List as ListOwed, Feed}

-- the errand was run by these settings, and ended like this
abbrev pub DoesErrand : {P : Type 0}
    → (fed : P → Option (List ℕ) → Outcome → Source → Bool → Bool → FeedEnd → P → Option (List ℕ) → Type 0)
    → (listed : P → Option (List ℕ) → Outcome → Listing → Bool → FeedEnd → P → Option (List ℕ) → Type 0)
    → (before after : P) → (old new : Option (List ℕ)) → Errand → Outcome → FeedEnd → Type 0
DoesErrand fed listed before after old new (ListOwed listing verbose) conf end =
    (feeding_of fed listed before after old new).listed conf listing verbose end
DoesErrand fed listed before after old new (Feed source drops_missing verbose) conf end =
    (feeding_of fed listed before after old new).fed conf (source_view source) drops_missing verbose end
