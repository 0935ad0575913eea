-- Where the lines of a feed come from.
use Rattle.std.specs.Prelude.{Bool, true, false}
use Rattle.feed_ends.specs.declared.source.Source.{Source}
use Rattle.feed_ends.specs.declared.source.Source.TheVariants.{Backlogs, Funnel}

-- whether that is a funnel
abbrev pub is_funnel : Source → Bool
is_funnel Backlogs = false
is_funnel (Funnel path followed tidied) = true

-- whether that is a funnel that is followed
abbrev pub is_followed : Source → Bool
is_followed Backlogs = false
is_followed (Funnel path followed tidied) = followed
