-- Where reading began, what is not known after that, and what was read before it.
use Rattle.std.proofs.Common.{ℕ, refl}
use Rattle.funnel_files.specs.Held.{IsBetweenRead}
use Rattle.funnel_files.proofs.HeldOnes.{all_known, has_place, if_none, is_between, none_read}
use Rattle.funnel_files.proofs.held_names.HeldNames.overlap.Goals as goal

pub returns-in_err-from-clause-none : goal.returns-in_err-from-clause-none
returns-in_err-from-clause-none c =
    let held = c.args.self.now.segments in
    let listed = c.args.listed.now in
    let none : (segment next : ℕ) → IsBetweenRead held listed c.args.begun c.args.reached segment next → ⊥ =
    λ segment next is. none_read held listed c.args.begun c.args.reached _ segment next c.saturating_sub.ensures
    c.in_err-from.ensures.firsts c.in_err-from.ensures.none is in
    if_none _ _ none

pub returns-in_err-next-clause-none : goal.returns-in_err-next-clause-none
returns-in_err-next-clause-none c =
    let held = c.args.self.now.segments in
    let listed = c.args.listed.now in
    let none : (segment next : ℕ) → IsBetweenRead held listed c.args.begun c.args.reached segment next → ⊥ =
    λ segment next is. all_known held listed c.args.begun c.args.reached _ c.in_ok-from.from segment next
    c.saturating_sub.ensures c.in_ok-from.ensures.firsts c.in_ok-from.ensures.some c.in_err-next.ensures.none is in
    if_none _ _ none

pub returns-in_err-place-clause-none : goal.returns-in_err-place-clause-none
returns-in_err-place-clause-none c =
    let held = c.args.self.now.segments in
    let listed = c.args.listed.now in
    let none : (segment next : ℕ) → IsBetweenRead held listed c.args.begun c.args.reached segment next → ⊥ =
    λ segment next is. has_place held listed c.args.reached _ c.in_ok-from.from c.in_ok-next.next _
    c.in_ok-from.ensures.some c.in_ok-next.ensures.some refl c.in_err-place.ensures.none in
    if_none _ _ none

pub returns-clause-some : goal.returns-clause-some
returns-clause-some c = (
  c.in_ok-place.place.first,
  c.in_ok-next.next,
  refl,
  is_between
      c.args.self.now.segments
      c.args.listed.now
      c.args.begun
      c.args.reached
      _
      c.in_ok-from.from
      c.in_ok-next.next
      _
      c.in_ok-place.place
      c.saturating_sub.ensures
      c.in_ok-from.ensures.some
      c.in_ok-next.ensures.some
      refl
      c.in_ok-place.ensures.some,
)
