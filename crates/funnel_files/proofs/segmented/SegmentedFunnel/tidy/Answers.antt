-- What begins before the place of the mark is done.
use Rattle.std.proofs.Common.{arith, ◌≡◌, ◌<◌, ◌≤◌, ◌+◌}
use Rattle.funnel_files.proofs.segmented.SegmentedFunnel.tidy.Goals as goal

pub remove-requires : goal.remove-requires
remove-requires g c first is =
    let place = c.in-Some.ensures.some in
    let before = (c.before-done.ensures.which first).0 is in
    let kept = c.min-kept.ensures in
    let mark = c.number-mark.ensures in (
      c.in-Some.place.first,
      place.there,
      omega (arith, before.1, kept),
      omega (arith, place.skipped, mark),
    )
