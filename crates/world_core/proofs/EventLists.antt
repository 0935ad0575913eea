-- Events one after another, up to one that is refused.
use Rattle.std.proofs.Common.{◌≡◌, ℕ, zero, suc, ◌+◌, ◌<◌, ◌≤◌, Some, List, [], ◌∷◌, ◌++◌, length, take, refl, sym, ap}
use Rattle.std.proofs.Common.{◌∙◌, subst, inl, inr, arith, append_assoc, append-nil, add-one}
use Rattle.std.proofs.lemmas.Bool.{cases_lt}
use Rattle.std.specs.List.{slice_get}
use Rattle.disk_model.specs.declared.Disk.{Ghosts}
use Rattle.sections.specs.ListLaws.{get_left, get_within}
use Rattle.world_core.specs.Past.{Past}
use Rattle.world_core.specs.Events.{AllDo, Does, Event, Fails, Refuses, each_rank}
use Rattle.world_core.specs.Events.AllDo.{Start, Next}
use Rattle.world_core.specs.Safe.{IsSafe}
use Rattle.world_core.specs.Stands.{DidOne, FailedOne, Stands}
use Rattle.world_core.specs.Stepped.{Did, Failed}
use Rattle.world_core.specs.declared.fault.Fault.{Fault}
use Rattle.world_core.specs.declared.stations.Stations.{Stations}
use Rattle.world_core.proofs.SoundOverEvents.{safe_of}

-- ---- lists

zero_more : (k : ℕ) → 0 + k ≡ k
zero_more k = omega arith

one_more : (n k : ℕ) → suc n + k ≡ suc (n + k)
one_more n k = omega arith

pub get_right : {A : Type 0} (xs ys : List A) (k : ℕ) → slice_get (xs ++ ys) (length xs + k) ≡ slice_get ys k
get_right [] ys k = ap (slice_get ys) (zero_more k)
get_right (x ∷ xs) ys k = ap (slice_get (x ∷ (xs ++ ys))) (one_more (length xs) k) ∙ get_right xs ys k

pub take_left : {A : Type 0} (xs ys : List A) (k : ℕ) → k ≤ length xs → take k (xs ++ ys) ≡ take k xs
take_left xs ys zero within = refl
take_left [] ys (suc k) within = absurd (omega (arith, within))
take_left (x ∷ xs) ys (suc k) within = ap (λ l. x ∷ l) (take_left xs ys k (omega (arith, within)))

pub take_right : {A : Type 0} (xs ys : List A) (k : ℕ) → take (length xs + k) (xs ++ ys) ≡ xs ++ take k ys
take_right [] ys k = ap (λ (n : ℕ). take n ys) (zero_more k)
take_right (x ∷ xs) ys k =
    ap (λ (n : ℕ). take n (x ∷ (xs ++ ys))) (one_more (length xs) k) ∙ ap (λ l. x ∷ l) (take_right xs ys k)

-- ---- chains

pub all_then : (begun mid later : Past) (events next : List Event) → AllDo begun events mid → AllDo mid next later
    → AllDo begun (events ++ next) later
all_then begun mid _ events _ first Start =
    subst (λ (es : List Event). AllDo begun es mid) (sym (append-nil events)) first
all_then begun mid _ events _ first (Next more event past later does one safe) =
    subst (λ (es : List Event). AllDo begun es later) (append_assoc events more (event ∷ []))
    (Next (events ++ more) event past later (all_then begun mid past events more first does) one safe)

-- a list of one event
pub all_one : (past later : Past) (event : Event) → Does event past later → IsSafe later → AllDo past (event ∷ []) later
all_one past later event does safe = Next [] event past later Start does safe

-- a list in which an event was refused, with more events after it
abbrev pub fails_before : (begun later : Past) (events next : List Event) (fault : Fault)
    → Fails begun events fault later
    → Fails begun (events ++ next) fault later
fails_before begun later events next fault fails =
    let within = get_within events fails.count fails.event fails.here in
    record {
      count = fails.count;
      mid = fails.mid;
      event = fails.event;
      prefix = subst (λ (es : List Event). AllDo begun es fails.mid)
          (sym (take_left events next fails.count (omega (arith, within)))) fails.prefix;
      here = get_left events next fails.count fails.event fails.here;
      refused = fails.refused;
      safe = fails.safe;
    }

-- a list in which an event was refused, with more events before it
abbrev pub fails_behind : (begun mid later : Past) (events next : List Event) (fault : Fault) → AllDo begun events mid
    → Fails mid next fault later
    → Fails begun (events ++ next) fault later
fails_behind begun mid later events next fault does fails = record {
  count = length events + fails.count;
  mid = fails.mid;
  event = fails.event;
  prefix = subst (λ (es : List Event). AllDo begun es fails.mid) (sym (take_right events next fails.count))
      (all_then begun mid fails.mid events (take fails.count next) does fails.prefix);
  here = get_right events next fails.count ∙ fails.here;
  refused = fails.refused;
  safe = fails.safe;
}

abbrev pub fails_one : (past later : Past) (event : Event) (fault : Fault) → Refuses event past fault later
    → IsSafe later → Fails past (event ∷ []) fault later
fails_one past later event fault refuses safe =
    record { count = 0; mid = past; event = event; prefix = Start; here = refl; refused = refuses; safe = safe }

-- ---- the same of stations

module _ {D : Type 0} {g : Ghosts D} where
  abbrev pub did_none : (past : Past) (stations : Stations D g) → Stands stations past → Did past [] stations
  did_none past stations stands = record { later = past; does = Start; stands = stands }

  abbrev pub did_one : (past : Past) (event : Event) (stations : Stations D g) → DidOne past event stations
      → Did past (event ∷ []) stations
  did_one past event stations one =
      record {
        later = one.later;
        does =
            all_one past one.later event one.does (safe_of stations one.later one.stands);
        stands = one.stands;
      }

  -- one more event
  abbrev pub did_more : (past : Past) (events all : List Event) (event : Event) (old new : Stations D g)
      → all ≡ events ++ event ∷ []
      → (did : Did past events old) → DidOne did.later event new → Did past all new
  did_more past events all event old new e did one = record {
    later = one.later;
    does = subst (λ (es : List Event). AllDo past es one.later) (sym e)
        (Next events event did.later one.later did.does one.does (safe_of new one.later one.stands));
    stands = one.stands;
  }

  abbrev pub did_then : (past : Past) (events next : List Event) (old new : Stations D g) (did : Did past events old)
      → Did did.later next new
      → Did past (events ++ next) new
  did_then past events next old new did more =
      record {
        later = more.later;
        does = all_then past did.later more.later events next did.does more.does;
        stands =
            more.stands;
      }

  abbrev pub failed_one : (past : Past) (event : Event) (fault : Fault) (stations : Stations D g)
      → FailedOne past event fault stations
      → Failed past (event ∷ []) fault stations
  failed_one past event fault stations one = record {
    later = one.later;
    fails = fails_one past one.later event fault one.refused (safe_of stations one.later one.stands);
    stands = one.stands;
  }

  -- the event after these was refused
  abbrev pub failed_next :
      (past : Past) (events : List Event) (event : Event) (behind : List Event) (fault : Fault) (old new : Stations D g)
      → (did : Did past events old) → FailedOne did.later event fault new
      → Failed past ((events ++ event ∷ []) ++ behind) fault new
  failed_next past events event behind fault old new did one = record {
    later = one.later;
    fails = fails_before past one.later (events ++ event ∷ []) behind fault
        (fails_behind past did.later one.later events (event ∷ []) fault did.does
        (fails_one did.later one.later event fault one.refused (safe_of new one.later one.stands)));
    stands = one.stands;
  }

  abbrev pub failed_then :
      (past : Past) (events next : List Event) (fault : Fault) (old new : Stations D g) (did : Did past events old)
      → Failed did.later next fault new → Failed past (events ++ next) fault new
  failed_then past events next fault old new did failed = record {
    later = failed.later;
    fails = fails_behind past did.later failed.later events next fault did.does failed.fails;
    stands = failed.stands;
  }

  abbrev pub failed_before : (past : Past) (events next : List Event) (fault : Fault) (stations : Stations D g)
      → Failed past events fault stations
      → Failed past (events ++ next) fault stations
  failed_before past events next fault stations failed = record {
    later = failed.later;
    fails = fails_before past failed.later events next fault failed.fails;
    stands = failed.stands;
  }

-- ---- an event at each rank

pub each_more : (event : ℕ → Event) (n : ℕ) → each_rank event (n + 1) ≡ each_rank event n ++ event n ∷ []
each_more event n = rw add-one refl

-- those at the ranks below this one, the one at it, and those above
pub each_split : (event : ℕ → Event) (n k : ℕ) → k < n
    → (behind : List Event) × (each_rank event n ≡ (each_rank event k ++ event k ∷ []) ++ behind)
each_split event zero k within = absurd (omega (arith, within))
each_split event (suc n) k within = elim (cases_lt k n) [
  | inl less ↦
      let is = each_split event n k less in (
        is.0 ++ event n ∷ [],
        ap (λ (l : List Event). l ++ event n ∷ []) is.1
            ∙ append_assoc (each_rank event k ++ event k ∷ []) is.0 (event n ∷ []),
      )
  | inr more ↦
      let same : k ≡ n = omega (arith, within, more) in (
        [],
        ap (λ (m : ℕ). each_rank event m ++ event m ∷ []) (sym same)
            ∙ sym (append-nil (each_rank event k ++ event k ∷ [])),
      )
]
