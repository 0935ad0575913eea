-- What a search for it answers.
use Rattle.std.proofs.Common.{refl}
use Rattle.segments.proofs.Rising.{found_or_not}
use Rattle.segments.proofs.segments.has.Goals as goal

pub returns : goal.returns
returns c =
    found_or_not _ _ _ _ _ c.requires refl refl c.binary_search.ensures.position _ c.is_ok.ensures.value
