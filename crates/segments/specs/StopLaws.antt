-- Whatever a crash leaves of a directory of segments, the line after the mark is found in it.
use Rattle.std.proofs.Common.{arith, ◌≡◌, ◌==◌, ◌⊎◌, ℕ, ◌+◌, ◌<◌, ◌≤◌, zero, suc, get_or, true, not, Option, Some}
use Rattle.std.proofs.Common.{None}
use Rattle.std.proofs.Common.{List, [], ◌∷◌, ◌++◌, filter, refl, sym, subst, inl, inr, ⊎_elim}
use Rattle.std.specs.Prelude.{Contains, IfNone, IfSome, IsSomeAnd}
use Rattle.std.proofs.lemmas.Bool.{eq-eqb, eqb-true}
use Rattle.std.proofs.lemmas.List.Elements.{All-contains, All-contains_itself, All-filter, Contains-append_cases}
use Rattle.std.proofs.lemmas.List.Elements.{Contains-append_left, Contains-push, Contains-push_cases, filter_passes}
use Rattle.std.proofs.lemmas.List.Sorted.{Contains-permutation, IsPermutation-filter_both}
use Rattle.segments.specs.declared.place.SegmentPlace.{SegmentPlace}
use Rattle.segments.specs.Firsts.{IsBefore, IsPlaceOf}
use Rattle.segments.specs.Stops.{State, Event, Write, Name, Sync, Acknowledge, Remove, Crash, Holds, IsAllowed}
use Rattle.segments.specs.Stops.{IsLeft, Runs, after, start, without}

-- ---- one segment less

from_without : (first : ℕ) (xs : List ℕ) (x : ℕ) → Contains (without first xs) x → Contains xs x
from_without first xs x h =
    let all = All-filter (λ other. not (other == first)) (Contains xs) xs (All-contains_itself xs) in
    All-contains (Contains xs) (without first xs) x all h

to_without : (first : ℕ) (xs : List ℕ) (x : ℕ) → (x ≡ first → ⊥) → Contains xs x → Contains (without first xs) x
to_without first xs x other h =
    let split = IsPermutation-filter_both (λ y. y == first) (λ y. not (y == first)) (λ y. refl) xs in
    ⊎_elim
    (λ gone. absurd (other (eqb-true x first (All-contains (λ y. (y == first) ≡ true)
    (filter (λ y. y == first) xs) x (filter_passes (λ y. y == first) xs) gone))))
    (λ stays. stays)
    (Contains-append_cases (filter (λ y. y == first) xs) (without first xs) x
    (Contains-permutation xs (filter (λ y. y == first) xs ++ without first xs) x split h))

not_in_without : (first : ℕ) (xs : List ℕ) (x : ℕ) → Contains (without first xs) x → x ≡ first → ⊥
not_in_without first xs x h e =
    let passes : not (x == first) ≡ true = All-contains (λ y. not (y == first) ≡ true) (without first xs) x
    (filter_passes (λ y. not (y == first)) xs) h in
    let same : (x == first) ≡ true = eq-eqb x first e in
    cc

-- ---- what all states keep

pub record IsSound (state : State) : Type 0 where
  -- the segment of the mark is sure
  pub holder : (first : ℕ) × Contains state.sure first × Holds first state.mark state.named
  pub written : state.mark ≤ state.lines
  pub kept : (first : ℕ) → Contains state.sure first → Contains state.there first
  pub known : (first : ℕ) → Contains state.there first → Contains state.named first

pub starts_sound : IsSound start
starts_sound = record {
  holder = (
    1,
    (0, omega arith, refl),
    record {
      is_named = (0, omega arith, refl);
      begins = omega arith;
      last = λ other is more. absurd (one_other other more (only other is));
    },
  );
  written = omega arith;
  kept = λ first is. is;
  known = λ first is. is;
}
  where
    only : (x : ℕ) → Contains (1 ∷ []) x → x ≡ 1
    only x h = only_at h.0 h.1 h.2
      where
        only_at : (k : ℕ) → k < 1 → get_or (1 ∷ []) k x ≡ x → x ≡ 1
        only_at zero l e = sym e
        only_at (suc k) l e = absurd (omega arith)

    one_other : (x : ℕ) → 1 < x → x ≡ 1 → ⊥
    one_other x h e = omega arith

-- a segment more begins above the mark
named_more : (state : State) → IsSound state → IsSound (after state Name)
named_more state sound =
    let (first, is_sure, holds) = sound.holder in
    let named : List ℕ = state.named ++ (state.lines + 1) ∷ [] in
    record {
      holder = (
        first,
        is_sure,
        record {
          is_named = Contains-append_left state.named _ first holds.is_named;
          begins = holds.begins;
          last = λ other is more. ⊎_elim
              (λ old. holds.last other old more)
              (λ e. omega (arith, e, sound.written))
              (Contains-push_cases state.named (state.lines + 1) other is);
        },
      );
      written = sound.written;
      kept = λ x is. Contains-append_left state.there _ x (sound.kept x is);
      known = λ x is. ⊎_elim
          (λ old. Contains-append_left state.named _ x (sound.known x old))
          (λ e. subst (λ y. Contains named y) e (Contains-push state.named (state.lines + 1)))
          (Contains-push_cases state.there (state.lines + 1) x is);
    }

same_or_not : (m n : ℕ) → (m ≡ n) ⊎ (m ≡ n → ⊥)
same_or_not m n = grind arith

removed : (state : State) (gone : ℕ) → IsAllowed state (Remove gone) → IsSound state
    → IsSound (after state (Remove gone))
removed state gone (later, is_later, less, by_mark) sound =
    let (first, is_sure, holds) = sound.holder in
    let stays : (x : ℕ) → (x ≡ gone → ⊥) → Contains state.sure x → Contains (without gone state.sure) x =
    λ x other is. to_without gone state.sure x other is in
    record {
      holder = elim (same_or_not first gone) [
        | inl e ↦ (
          later,
          stays later (λ same. omega arith) is_later,
          record {
            is_named = sound.known later (sound.kept later is_later);
            begins = by_mark;
            last = λ other is more. holds.last other is (omega arith);
          },
        )
        | inr other ↦ (first, stays first other is_sure, holds)
      ];
      written = sound.written;
      kept = λ x is. elim (same_or_not x gone) [
        | inl e ↦ absurd (not_in_without gone state.sure x is e)
        | inr other ↦ to_without gone state.there x other (sound.kept x (from_without gone state.sure x is))
      ];
      known = λ x is. sound.known x (from_without gone state.there x is);
    }

pub stays_sound : (state : State) (event : Event) → IsAllowed state event → IsSound state → IsSound (after state event)
stays_sound state Write allowed sound = record {
  holder = sound.holder;
  written = omega (arith, sound.written);
  kept = sound.kept;
  known = sound.known;
}
stays_sound state Name allowed sound = named_more state sound
stays_sound state Sync allowed sound =
    let (first, is_sure, holds) = sound.holder in
    record {
      holder = (first, sound.kept first is_sure, holds);
      written = sound.written;
      kept = λ x is. is;
      known = sound.known;
    }
stays_sound state (Acknowledge line) allowed sound = record {
  holder = (allowed.2, allowed.3, allowed.4);
  written = allowed.1;
  kept = sound.kept;
  known = sound.known;
}
stays_sound state (Remove gone) allowed sound = removed state gone allowed sound
stays_sound state (Crash left lines) (is_left, enough) sound =
    let (first, is_sure, holds) = sound.holder in
    record {
      holder = (
        first,
        is_sure,
        record {
          is_named = is_left.keeps first is_sure;
          begins = holds.begins;
          last = λ other is more. holds.last other (is_left.knows other is) more;
        },
      );
      written = enough;
      kept = is_left.keeps;
      known = λ x is. is;
    }

pub runs_sound : (events : List Event) (old new : State) → Runs old events new → IsSound old → IsSound new
runs_sound [] old new is sound = subst IsSound (sym is) sound
runs_sound (event ∷ rest) old new (allowed, more) sound =
    runs_sound rest (after old event) new more (stays_sound old event allowed sound)

on_side : (m n : ℕ) → (m < n) ⊎ (n ≤ m)
on_side m n = grind arith

-- ---- the laws

-- a place that is found among the names that are left is where the line after the mark is
pub place_holds : (events : List Event) (state : State) → Runs start events state
    → (left : List ℕ) → IsLeft state left → (place : SegmentPlace) → IsPlaceOf left state.mark place
    → Holds place.first state.mark state.named
place_holds events state runs left is_left place is =
    let (holder, is_sure, holds) = (runs_sound events start state runs starts_sound).holder in
    let too_high : place.first < holder → ⊥ = λ above.
    let more = is.last holder (is_left.keeps holder is_sure) above in
    omega (arith, more, holds.begins) in
    let below : holder ≤ place.first = ⊎_elim
    (λ above. absurd (too_high above))
    (λ le. le)
    (on_side place.first holder) in
    record {
      is_named = is_left.knows place.first is.there;
      begins = omega (arith, is.skipped);
      last = λ other named more. holds.last other named (omega arith);
    }

-- and one is found: whatever a crash leaves, the next line that is read is the one after the mark
pub place_found : (events : List Event) (state : State) → Runs start events state
    → (left : List ℕ) → IsLeft state left → (answer : Option SegmentPlace) → IfSome answer (IsPlaceOf left state.mark)
    → IfNone answer ((first : ℕ) → Contains left first → state.mark + 1 < first)
    → IsSomeAnd answer (λ place. Holds place.first state.mark state.named × IsPlaceOf left state.mark place)
place_found events state runs left is_left None some none =
    let (holder, is_sure, holds) = (runs_sound events start state runs starts_sound).holder in
    let more : state.mark + 1 < holder = none holder (is_left.keeps holder is_sure) in
    absurd (omega (arith, more, holds.begins))
place_found events state runs left is_left (Some place) some none =
    (place_holds events state runs left is_left place some, some)

-- what begins below a place that is sure may be removed
pub before_may_go : (state : State) (left : List ℕ) (place : SegmentPlace) → IsPlaceOf left state.mark place
    → Contains state.sure place.first → (other : ℕ) → IsBefore left place.first other → IsAllowed state (Remove other)
before_may_go state left place is is_sure other before = (place.first, is_sure, before.1, omega (arith, is.skipped))

-- no line above the mark is removed
pub removed_is_done : (events : List Event) (state : State) → Runs start events state → (first : ℕ)
    → IsAllowed state (Remove first) → (line : ℕ) → Holds first line state.named → line ≤ state.mark
removed_is_done events state runs first (later, is_sure, less, by_mark) line holds =
    let sound = runs_sound events start state runs starts_sound in
    let above : line < later = holds.last later (sound.known later (sound.kept later is_sure)) less in
    omega (arith, above)
