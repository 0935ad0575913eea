-- What listed names tell beside held ones, and which held one is the last.
use Rattle.std.proofs.Common.{arith, ◌≡◌, ◌⊎◌, ℕ, ◌+◌, ◌-◌, ◌<◌, ◌≤◌, ◌^◌, max, List, subst, inl, inr, ⊎_elim}
use Rattle.std.specs.Prelude.{◌↔◌, Contains, IfNone, None, Option, Some}
use Rattle.std.proofs.lemmas.List.Elements.{All-contains}
use Rattle.segments.specs.declared.place.SegmentPlace.{SegmentPlace}
use Rattle.segments.specs.Firsts.{AreFirsts, IsNext, IsPlaceOf, IsUnknown}
use Rattle.funnel_files.specs.declared.position.Misfit.{Misfit}
use Rattle.funnel_files.specs.Held.{IsBetweenRead, IsDurable}

-- a held one is the number of a line
a_line : (held : List ℕ) (x : ℕ) → AreFirsts held → Contains held x → (1 ≤ x) × (x < 2 ^ 64)
a_line held x are is = All-contains (λ y. (1 ≤ y) × (y < 2 ^ 64)) held x are.within is

on_side : (m n : ℕ) → (m < n) ⊎ (n ≤ m)
on_side m n = grind arith

same_or_less : (m n : ℕ) → m ≤ n → (m ≡ n) ⊎ (m < n)
same_or_less m n h = grind arith

-- none is held from where reading began
pub none_read : (held listed : List ℕ) (begun reached low segment next : ℕ) → low ≡ begun - 1 → AreFirsts held
    → ((x : ℕ) → Contains held x → x ≤ low) → IsBetweenRead held listed begun reached segment next → ⊥
none_read held listed begun reached low segment next e are below is =
    let le = below segment is.held_one in
    let line = a_line held segment are is.held_one in
    let read = is.read in
    absurd (omega (arith, e, le, line.0, read))

-- the first that was read comes before the one in between
after_first : (held listed : List ℕ) (begun reached low first segment next : ℕ) → low ≡ begun - 1 → AreFirsts held
    → IsNext held low first → IsBetweenRead held listed begun reached segment next → first < next
after_first held listed begun reached low first segment next e are from is =
    let line = a_line held segment are is.held_one in
    let read = is.read in
    let le = from.least segment is.held_one (omega (arith, e, line.0, read)) in
    let over = is.over in
    omega (arith, le, over)

-- each listed one after the first that was read is held
pub all_known : (held listed : List ℕ) (begun reached low first segment next : ℕ) → low ≡ begun - 1 → AreFirsts held
    → IsNext held low first → ((x : ℕ) → IsUnknown listed held first reached x → ⊥)
    → IsBetweenRead held listed begun reached segment next → ⊥
all_known held listed begun reached low first segment next e are from none is =
    none next (record {
      there = is.listed_one;
      over = after_first held listed begun reached low first segment next e are from is;
      under = is.under;
      new = is.new;
    })

-- one is held before one that is not known
pub has_place : (held listed : List ℕ) (reached low first next mark : ℕ) → IsNext held low first
    → IsUnknown listed held first reached next → mark ≡ next - 1
    → ((x : ℕ) → Contains held x → mark + 1 < x) → ⊥
has_place held listed reached low first next mark from is e all =
    let more = all first from.there in
    let over = is.over in
    absurd (omega (arith, more, over, e))

-- the one before it was read
pub is_between : (held listed : List ℕ) (begun reached low first next mark : ℕ) (place : SegmentPlace)
    → low ≡ begun - 1 → IsNext held low first → IsUnknown listed held first reached next → mark ≡ next - 1
    → IsPlaceOf held mark place → IsBetweenRead held listed begun reached place.first next
is_between held listed begun reached low first next mark place e from is f at =
    let over = is.over in
    let skipped = at.skipped in
    let le : place.first ≤ next = omega (arith, skipped, f, over) in
    record {
      held_one = at.there;
      read = ⊎_elim
          (λ early.
          let above = from.above in
          let more = at.last first from.there (omega (arith, early, above, e)) in
          absurd (omega (arith, more, over, f)))
          (λ late. late)
          (on_side place.first begun);
      listed_one = is.there;
      over = ⊎_elim
          (λ same. absurd (is.new (subst (λ x. Contains held x) same at.there)))
          (λ less. less)
          (same_or_less place.first next le);
      under = is.under;
      new = is.new;
    }

-- the place of the greatest mark is the last one
pub last_durable : (held : List ℕ) (durable border : ℕ) (place : SegmentPlace) (first : ℕ) → AreFirsts held
    → IsPlaceOf held (2 ^ 64 - 1) place → border ≡ max durable place.first
    → (first < border) ↔ IsDurable held durable first
last_durable held durable border place first are at e = (
  λ h. ⊎_elim
      (λ less. inl less)
      (λ le. inr (place.first, at.there, omega (arith, e, h, le)))
      (on_side first durable),
  λ h. ⊎_elim
      (λ less. omega (arith, less))
      (λ later. ⊎_elim
      (λ more.
      let above = at.last later.0 later.1 more in
      let line = a_line held later.0 are later.1 in
      absurd (omega (arith, above, line.1)))
      (λ le. omega (arith, e, le, later.2))
      (on_side place.first later.0))
      h,
)

-- none is held
pub none_durable : (held : List ℕ) (durable first : ℕ) → AreFirsts held
    → ((x : ℕ) → Contains held x → 2 ^ 64 - 1 + 1 < x) → (first < durable) ↔ IsDurable held durable first
none_durable held durable first are none = (
  λ h. inl h,
  λ h. ⊎_elim
      (λ less. less)
      (λ later.
      let above = none later.0 later.1 in
      let line = a_line held later.0 are later.1 in
      absurd (omega (arith, above, line.1)))
      h,
)

pub if_none : (answer : Option Misfit) (P : Type 0) → P → IfNone answer P
if_none None P it = it
if_none (Some fault) P it = tt
