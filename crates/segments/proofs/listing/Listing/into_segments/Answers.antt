-- Sorted, and each once, they are the same numbers.
use Rattle.std.proofs.Common.{subst, sym}
use Rattle.std.specs.Prelude.{Contains}
use Rattle.std.proofs.lemmas.List.Filters.{dedup_is}
use Rattle.segments.proofs.Rising.{sorted_adds_none, sorted_firsts, sorted_keeps}
use Rattle.segments.proofs.listing.Listing.into_segments.Goals as goal

pub of_rising-requires : goal.of_rising-requires
of_rising-requires c =
    let sort = c.sort_unstable.ensures in
    let kept = dedup_is _ _ _ c.dedup.ensures.filtered in
    sorted_firsts _ _ _ sort.permutation kept sort.sorted c.self.invariant

pub returns : goal.returns
returns c first =
    let moved = c.sort_unstable.ensures.permutation in
    let kept = dedup_is _ _ _ c.dedup.ensures.filtered in
    let is = c.of_rising.ensures in (
      λ h.
          let there = sorted_adds_none _ _ _ moved kept first (subst (λ ys. Contains ys first) is h) in
          subst (λ ys. Contains ys first) c.self.view_is there,
      λ h.
          let there = subst (λ ys. Contains ys first) (sym c.self.view_is) h in
          subst (λ ys. Contains ys first) (sym is) (sorted_keeps _ _ _ moved kept first there),
    )
