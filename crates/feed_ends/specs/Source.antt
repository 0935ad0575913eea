-- Where the lines of a feed come from.
use Rattle.std.specs.Prelude.{ℕ, Bool, List}
use Rattle.feed_ends.specs.declared.source.Source.{Source as HeldSource}
use Rattle.feed_ends.specs.declared.source.Source.TheVariants as held

-- where the lines of a feed come from
pub data Source : Type 0 where
  -- from nowhere: peers are fed only from their backlogs
  Backlogs : Source
  -- from the funnel at this path, with what is added to it or up to its end, and with its acknowledged segments removed
  -- or kept
  Funnel : List ℕ → (followed tidied : Bool) → Source

abbrev pub source_view : HeldSource → Source
source_view held.Backlogs = Backlogs
source_view (held.Funnel path followed tidied) = Funnel path.now followed tidied
