-- In the middle of a step on tapes all tapes are sound: each event of its plan keeps them so, and a number is noted
-- only once each peer was flushed since it was kept.
use Rattle.std.proofs.Common.{◌≡◌, ◌⊎◌, ℕ, zero, suc, ◌+◌, ◌<◌, Bool, true, false, Some, List, []}
use Rattle.std.proofs.Common.{◌∷◌, ◌++◌, length, take, drop, map, refl, sym, ap, ◌∙◌, subst, inl, inr, arith}
use Rattle.std.specs.Prelude.{if◌then◌else◌, nat_lt}
use Rattle.std.proofs.Math.ListN.{set}
use Rattle.std.proofs.lemmas.Bool.{cases_eq}
use Rattle.std.specs.List.{AllByRecursion, slice_get}
use Rattle.ledger_core.specs.declared.note.Note.TheVariants.{Owe, Seen}
use Rattle.peer_queue.specs.Shed.{dropped}
use Rattle.peer_queue.specs.declared.limits.Owed.{Owed}
use Rattle.peer_queue.specs.declared.limits.Owed.TheVariants.{New, Already}
use Rattle.recovery.specs.Leaving.{pending_notes}
use Rattle.recovery.specs.Notes.{History, recovered}
use Rattle.sections.specs.ListLaws.{all_set, at_all, drop_more, get_once, get_within}
use Rattle.sections.specs.Tapes.{IsAbove, TapePast, mark_at}
use Rattle.world_core.specs.Past.{Life, Past, PeerPast, with_intake, with_peer, with_tape}
use Rattle.world_core.specs.Crashes.{IsUnderWay}
use Rattle.world_core.specs.Events.{Acknowledges, AllDo, Closes, Does, Event, Imports, Opens, OpensIntake, Owes, Parts}
use Rattle.world_core.specs.Events.{Rotates, Sees, Sheds, Spills, closing, each_rank, import_key, imported_as}
use Rattle.world_core.specs.Events.{opened_peer, owed_as, owing_as, parted, shed_peer}
use Rattle.world_core.specs.Events.AllDo.{Start, Next}
use Rattle.world_core.specs.Halts.{restart_events}
use Rattle.world_core.specs.Imports.{IsImport}
use Rattle.world_core.specs.Safe.{HasAcknowledged, IsSafe}
use Rattle.world_core.specs.Sound.{HasParted, IsSound}
use Rattle.world_core.specs.Steps.{Good, IsPlan, IsSealable, NotGood, Plan, Reading, begun_at, flush_events}
use Rattle.world_core.specs.Steps.{reading_plan, seal_events}
use Rattle.world_core.specs.Tapes.{noted_at}
use Rattle.world_core.specs.declared.step.Step.{Step}
use Rattle.world_core.specs.declared.step.Step.TheVariants.{Begin, Flush, Import, Line, Part, Restart, Rotate, Seal}
use Rattle.world_core.specs.declared.step.Step.TheVariants.{Shed}
use Rattle.world_core.proofs.ImportEvents.{all_import}
use Rattle.world_core.proofs.MarksAndNotes.{first_all, last_all, prefix_all, above_more}
use Rattle.world_core.proofs.PeerInWorld.{get_apart, get_set}
use Rattle.world_core.proofs.SoundOverEvents.{names_set, owed_conf, owed_parted, sound_begun, sound_flushed}
use Rattle.world_core.proofs.SoundOverEvents.{sound_kept, sound_noted, sound_spilled}
use Rattle.world_core.proofs.WalkOverTapes.{each_on, owes_all}

-- ---- lists

cut_at_next : {A : Type 0} (P : A → Type 0) (n : ℕ) (xs : List A) → AllByRecursion P (drop n (take n xs))
cut_at_next P zero xs = tt
cut_at_next P (suc n) [] = tt
cut_at_next P (suc n) (x ∷ xs) = cut_at_next P n xs

ends_apart : {A : Type 0} (xs : List A) (x : A) → [] ≡ xs ++ x ∷ [] → ⊥
ends_apart [] x is = cc
ends_apart (y ∷ xs) x is = cc

-- two lists are the same, so all but the last of each, and the last
last_same : {A : Type 0} (xs ys : List A) (x y : A) → xs ++ x ∷ [] ≡ ys ++ y ∷ [] → (xs ≡ ys) × (x ≡ y)
last_same [] [] x y is = (refl, cc)
last_same [] (b ∷ ys) x y is = let rest : [] ≡ ys ++ y ∷ [] = cc in absurd (ends_apart ys y rest)
last_same (a ∷ xs) [] x y is = let rest : [] ≡ xs ++ x ∷ [] = cc in absurd (ends_apart xs x rest)
last_same (a ∷ xs) (b ∷ ys) x y is =
    let first : a ≡ b = cc in
    let rest : xs ++ x ∷ [] ≡ ys ++ y ∷ [] = cc in
    let both = last_same xs ys x y rest in
    (ap (λ z. z ∷ xs) first ∙ ap (λ l. b ∷ l) both.0, both.1)

-- what comes before an element of a list is a prefix of all but the last
before_last : {A : Type 0} (xs : List A) (y : A) (count : ℕ) (e : A) → slice_get (xs ++ y ∷ []) count ≡ Some e
    → (n : ℕ) × (take count (xs ++ y ∷ []) ≡ take n xs)
before_last [] y zero e here = (0, refl)
before_last [] y (suc count) e here = absurd cc
before_last (x ∷ xs) y zero e here = (0, refl)
before_last (x ∷ xs) y (suc count) e here =
    let rest = before_last xs y count e here in
    (suc rest.0, ap (λ l. x ∷ l) rest.1)

-- or, of all but the last two; or it is all but the last
before_two : {A : Type 0} (xs : List A) (y z : A) (count : ℕ) (e : A) → slice_get (xs ++ y ∷ z ∷ []) count ≡ Some e
    → ((n : ℕ) × (take count (xs ++ y ∷ z ∷ []) ≡ take n xs)) ⊎ (take count (xs ++ y ∷ z ∷ []) ≡ xs ++ y ∷ [])
before_two [] y z zero e here = inl (0, refl)
before_two [] y z (suc zero) e here = inr refl
before_two [] y z (suc (suc count)) e here = absurd cc
before_two (x ∷ xs) y z zero e here = inl (0, refl)
before_two (x ∷ xs) y z (suc count) e here = elim (before_two xs y z count e here) [
  | inl some ↦ inl (suc some.0, ap (λ l. x ∷ l) some.1)
  | inr all ↦ inr (ap (λ l. x ∷ l) all)
]

length_set : {A : Type 0} (xs : List A) (i : ℕ) (x : A) → length (set xs i x) ≡ length xs
length_set [] i x = refl
length_set (y ∷ xs) zero x = refl
length_set (y ∷ xs) (suc i) x = ap suc (length_set xs i x)

-- ---- an event

-- an event that keeps all tapes sound, whatever came before it
abbrev StaysSound : Event → Type 0
StaysSound (Owes rank token id) = Unit {0}
StaysSound (Imports rank number token id) = Unit {0}
StaysSound (Closes rank) = Unit {0}
StaysSound (Spills rank) = Unit {0}
StaysSound (Parts rank) = Unit {0}
StaysSound (Rotates rank generation) = Unit {0}
StaysSound (Sheds rank numbers) = Unit {0}
StaysSound (Opens rank) = Unit {0}
StaysSound event = ⊥

has_owed : (mark number : ℕ) (token id : List ℕ) (peer : PeerPast) (owed : Owed) → mark < number
    → HasAcknowledged mark peer → HasAcknowledged mark (owing_as owed number token id peer)
has_owed mark number token id peer New above has =
    above_more mark peer.tape.history (Owe number token id) has above
has_owed mark number token id peer Already above has = has

-- a line under a key above the numbers of all lines
owed_sound : (past : Past) (rank : ℕ) (peer : PeerPast) (key : ℕ) (token id : List ℕ) (owed : Owed) → IsSound past
    → slice_get past.peers rank ≡ Some peer → past.last < key
    → IsSound (with_peer past rank (owing_as owed key token id peer))
owed_sound past rank peer key token id owed sound here above =
    sound_kept past rank peer _ sound here (owed_conf key token id peer owed) (owed_parted key token id peer owed)
    (λ mark below has. has_owed mark key token id peer owed (omega (arith, below, above)) has)

drops_above : (mark : ℕ) (numbers : List ℕ) → AllByRecursion (IsAbove mark) (dropped numbers)
drops_above mark [] = tt
drops_above mark (number ∷ numbers) = (tt, drops_above mark numbers)

history_of : (one other : TapePast) → one ≡ other → one.history ≡ other.history
history_of one other same = ap (λ (t : TapePast). t.history) same

-- nothing pends
opened_has : (mark count : ℕ) (peer : PeerPast) (tape : TapePast) → tape.history ≡ recovered peer.tape.history count
    → HasAcknowledged mark (opened_peer peer tape)
opened_has mark count peer tape is =
    subst (λ (h : History). AllByRecursion (IsAbove mark) (pending_notes h)) (sym is)
    (cut_at_next (IsAbove mark) count peer.tape.history.notes)

opened_sound : (past : Past) (rank count : ℕ) (peer : PeerPast) (tape : TapePast) → IsSound past
    → slice_get past.peers rank ≡ Some peer → tape.history ≡ recovered peer.tape.history count
    → IsSound (with_peer past rank (opened_peer peer tape))
opened_sound past rank count peer tape sound here is = record {
  names = names_set past rank peer (opened_peer peer tape) sound.names here refl;
  fits = sound.fits;
  marked = sound.marked;
  acknowledged = all_set (HasAcknowledged (mark_at past.intake)) past.peers rank (opened_peer peer tape)
      sound.acknowledged (opened_has (mark_at past.intake) count peer tape is);
  kept = sound.kept;
  parted = λ number e. all_set (HasParted number) past.peers rank (opened_peer peer tape) (sound.parted number e)
      (λ _. opened_has number count peer tape is);
}

event_sound : (event : Event) → StaysSound event → (was now : Past) → IsSound was → Does event was now → IsSound now
event_sound (Owes rank token id) may was now sound d =
    subst IsSound (sym d.changed)
    (owed_sound was rank d.peer (was.last + 1) token id (owed_as (was.last + 1) d.peer) sound d.here (omega arith))
event_sound (Imports rank number token id) may was now sound d =
    subst IsSound (sym d.changed)
    (owed_sound was rank d.peer (import_key number d.peer) token id (imported_as number d.peer) sound d.here
    (omega (arith, sound.fits)))
event_sound (Closes rank) may was now sound d =
    subst IsSound (sym d.changed)
    (sound_kept was rank d.peer (with_tape d.peer (noted_at d.peer.tape (closing d.peer))) sound d.here refl refl
    (λ mark below has. above_more mark d.peer.tape.history (closing d.peer) has tt))
event_sound (Spills rank) may was now sound d =
    subst IsSound (sym d.changed) (sound_spilled was rank d.peer d.tape sound d.here (history_of _ _ d.flushes.all))
event_sound (Parts rank) may was now sound d =
    subst IsSound (sym d.changed) (sound_flushed was rank d.peer d.tape sound d.here (history_of _ _ d.flushes.all))
event_sound (Rotates rank generation) may was now sound d =
    subst IsSound (sym d.changed) (sound_spilled was rank d.peer d.tape sound d.here (history_of _ _ d.rotates.all))
event_sound (Sheds rank numbers) may was now sound d =
    subst IsSound (sym d.changed)
    (sound_kept was rank d.peer (shed_peer numbers d.peer) sound d.here refl refl
    (λ mark below has. drop_more (IsAbove mark) d.peer.tape.history.kept d.peer.tape.history.notes (dropped numbers)
    has (drops_above mark numbers)))
event_sound (Opens rank) may was now sound d =
    subst IsSound (sym d.changed)
    (opened_sound was rank d.opens.count d.peer d.tape sound d.here (history_of _ _ d.opens.all))
event_sound event may was now sound d = absurd may

events_sound : (was now : Past) (events : List Event) → AllDo was events now → AllByRecursion StaysSound events
    → IsSound was → IsSound now
events_sound was _ _ Start all sound = sound
events_sound was now _ (Next events event past _ does one safe) all sound =
    event_sound event (last_all StaysSound events event all) past now
    (events_sound was past events does (prefix_all StaysSound events (event ∷ []) all) sound) one

-- ---- a number is noted

see_sound : (was now : Past) (number : ℕ) → IsSound was → IsSealable was number → Does (Sees number) was now
    → IsSound now
see_sound was now number sound may d =
    subst IsSound (sym d.changed) (by (nat_lt (mark_at was.intake) number))
  where
    by : (b : Bool) → IsSound (with_intake was (if b then noted_at was.intake (Seen number) else was.intake))
    by true = sound_noted was number sound may
    by false = sound

-- the last of some events, and those before it
pub record LastDone (begun : Past) (events : List Event) (event : Event) (later : Past) : Type 0 where
  pub mid : Past
  pub before : AllDo begun events mid
  pub last : Does event mid later
  pub safe : IsSafe later

pub last_done : (begun later : Past) (all events : List Event) (event : Event) → AllDo begun all later
    → all ≡ events ++ event ∷ [] → LastDone begun events event later
last_done begun _ _ events event Start is = absurd (ends_apart events event is)
last_done begun later _ events event (Next some one past _ does last safe) is =
    let same = last_same some events one event is in
    record {
      mid = past;
      before = subst (λ (es : List Event). AllDo begun es past) same.0 does;
      last = subst (λ (e : Event). Does e past later) same.1 last;
      safe = safe;
    }

-- the first peers, so many, were flushed since a number was kept
abbrev ArePartedBelow : ℕ → Past → Type 0
ArePartedBelow n past = (rank : ℕ) (peer : PeerPast) → rank < n → slice_get past.peers rank ≡ Some peer
    → peer.parted ≡ true

record PartsDone (begun : Past) (n : ℕ) (later : Past) : Type 0 where
  sound : IsSound later
  kept : later.begun ≡ begun.begun
  size : length later.peers ≡ length begun.peers
  parts : ArePartedBelow n later

part_below : (n : ℕ) (was now : Past) → ArePartedBelow n was → Does (Parts n) was now → ArePartedBelow (suc n) now
part_below n was now before d rank peer below here =
    let new = parted d.peer d.tape in
    let there : slice_get (with_peer was n new).peers rank ≡ Some peer =
    subst (λ (p : Past). slice_get p.peers rank ≡ Some peer) d.changed here in
    elim (cases_eq rank n) [
      | inl same ↦
          let own : new ≡ peer = get_once (with_peer was n new).peers n peer new
          (ap (slice_get (with_peer was n new).peers) (sym same) ∙ there) (get_set was.peers n d.peer new d.here) in
          ap (λ (p : PeerPast). p.parted) (sym own)
      | inr apart ↦ before rank peer (less apart) (sym (get_apart was.peers n rank new apart) ∙ there)
    ]
  where
    less : (rank ≡ n → ⊥) → rank < n
    less apart = omega (arith, below, apart)

none_done : (was now : Past) (events : List Event) → AllDo was events now → events ≡ [] → now ≡ was
none_done was _ _ Start is = refl
none_done was now _ (Next some one past _ does last safe) is = absurd (ends_apart some one (sym is))

parts_done : (n : ℕ) (begun later : Past) → IsSound begun → AllDo begun (each_rank Parts n) later
    → PartsDone begun n later
parts_done zero begun later sound does =
    let same = none_done begun later [] does refl in
    record {
      sound = subst IsSound (sym same) sound;
      kept = ap (λ (p : Past). p.begun) same;
      size = ap (λ (p : Past). length p.peers) same;
      parts = λ rank peer below here. absurd (omega (arith, below));
    }
parts_done (suc n) begun later sound does =
    let l = last_done begun later _ (each_rank Parts n) (Parts n) does refl in
    let before = parts_done n begun l.mid sound l.before in
    let new = parted l.last.peer l.last.tape in
    record {
      sound = event_sound (Parts n) tt l.mid later before.sound l.last;
      kept = ap (λ (p : Past). p.begun) l.last.changed ∙ before.kept;
      size = ap (λ (p : Past). length p.peers) l.last.changed ∙ length_set l.mid.peers n new ∙ before.size;
      parts = part_below n l.mid later before.parts l.last;
    }

-- once each peer is flushed, the number that was kept before may be noted
sees_last : (begun later : Past) (number : ℕ) → IsSound begun → begun.begun ≡ Some number
    → AllDo begun (each_rank Parts (length begun.peers) ++ Sees number ∷ []) later → IsSound later
sees_last begun later number sound kept does =
    let n = length begun.peers in
    let l = last_done begun later _ (each_rank Parts n) (Sees number) does refl in
    let parts = parts_done n begun l.mid sound l.before in
    see_sound l.mid later number parts.sound (
      parts.kept ∙ kept,
      at_all (λ (peer : PeerPast). peer.parted ≡ true) l.mid.peers
          (λ rank peer here. parts.parts rank peer
          (omega (arith, get_within l.mid.peers rank peer here, parts.size)) here),
    ) l.last

-- ---- plans

-- Before each of these events, all tapes are sound.
abbrev StaysSoundOver : Past → List Event → Type 0
StaysSoundOver begun events = (count : ℕ) (event : Event) (was : Past) → AllDo begun (take count events) was
    → slice_get events count ≡ Some event → IsSound was

-- and before each event of a plan
abbrev StaysSoundIn : Plan → Type 0
StaysSoundIn plan = StaysSoundOver plan.begun plan.events

-- events each of which keeps all tapes sound
all_sound : (begun : Past) (events : List Event) → IsSound begun → AllByRecursion StaysSound events
    → (count : ℕ) (was : Past) → AllDo begun (take count events) was → IsSound was
all_sound begun events sound all count was does =
    events_sound begun was (take count events) does (first_all StaysSound count events all) sound

-- a prefix of such events
some_sound : (begun was : Past) (some events : List Event) (n : ℕ) → IsSound begun → AllByRecursion StaysSound events
    → AllDo begun some was → some ≡ take n events → IsSound was
some_sound begun was some events n sound all does is =
    all_sound begun events sound all n was (subst (λ (es : List Event). AllDo begun es was) is does)

reading_sound : (reading : Reading) (past : Past) → IsSound past → StaysSoundIn (reading_plan reading past)
reading_sound (Good token id named) past sound count event was does here =
    all_sound past _ sound (owes_all StaysSound token id (λ rank. tt) 0 named past.peers) count was does
reading_sound (NotGood fault) past sound count event was does here = all_sound past [] sound tt count was does

flush_sound : (past : Past) → IsSound past → StaysSoundOver (begun_at past) (flush_events past)
flush_sound past sound count event was does here =
    elim (before_two (each_rank Parts (length past.peers)) (Sees past.last) Acknowledges count event here) [
      | inl some ↦ some_sound (begun_at past) was _ (each_rank Parts (length past.peers)) some.0
          (sound_begun past sound) (each_on StaysSound Parts (λ rank. tt) (length past.peers)) does some.1
      | inr all ↦ sees_last (begun_at past) was past.last (sound_begun past sound) refl
          (subst (λ (n : ℕ). AllDo (begun_at past) (each_rank Parts n ++ Sees past.last ∷ []) was)
          (sym (size past.peers))
          (subst (λ (es : List Event). AllDo (begun_at past) es was) all does))
    ]
  where
    size : (peers : List PeerPast)
        → length (map (λ (peer : PeerPast). record peer { parted = false }) peers) ≡ length peers
    size [] = refl
    size (peer ∷ peers) = ap suc (size peers)

seal_sound : (past : Past) (number : ℕ) → IsSound past → IsSealable past number
    → StaysSoundOver past (seal_events number)
seal_sound past number sound may count event was does here =
    elim (before_two [] (Sees number) Acknowledges count event here) [
      | inl some ↦ some_sound past was _ [] some.0 sound tt does some.1
      | inr all ↦
          let l = last_done past was _ [] (Sees number) does all in
          let same = none_done past l.mid [] l.before refl in
          see_sound past was number sound may (subst (λ (p : Past). Does (Sees number) p was) same l.last)
    ]

restart_sound : (past : Past) → IsSound past → StaysSoundOver past (restart_events past)
restart_sound past sound count event was does here =
    let some = before_last (each_rank Opens (length past.peers)) OpensIntake count event here in
    some_sound past was _ (each_rank Opens (length past.peers)) some.0 sound
    (each_on StaysSound Opens (λ rank. tt) (length past.peers)) does some.1

one_sound : (past : Past) (event : Event) → StaysSound event → IsSound past → StaysSoundOver past (event ∷ [])
one_sound past event one sound count e was does here = all_sound past (event ∷ []) sound (one, tt) count was does

import_sound : (name text : List ℕ) (past : Past) (events : List Event) → IsImport name text past events
    → IsSound past → StaysSoundOver past events
import_sound name text past events is sound count event was does here =
    all_sound past events sound (subst (AllByRecursion StaysSound) (sym is.events_are)
    (all_import StaysSound is.rank tt tt (λ number token id. tt) _ _ is.lines)) count was does

plan_sound : (step : Step) (past : Past) (plan : Plan) → IsPlan step past plan → IsSound past → StaysSoundIn plan
plan_sound (Line text) past plan (fits, (reading, reads, is)) sound =
    subst StaysSoundIn (sym is) (reading_sound reading past sound)
plan_sound Flush past plan is sound = subst StaysSoundIn (sym is) (flush_sound past sound)
plan_sound Begin past plan is sound =
    subst StaysSoundIn (sym is) (λ count event was does here. absurd cc)
plan_sound (Part name) past plan (rank, here, is) sound =
    subst StaysSoundIn (sym is) (one_sound past (Parts rank) tt sound)
plan_sound Seal past plan (number, may, is) sound =
    subst StaysSoundIn (sym is) (seal_sound past number sound may)
plan_sound (Shed name) past plan (rank, here, (numbers, is)) sound =
    subst StaysSoundIn (sym is) (one_sound past (Sheds rank numbers) tt sound)
plan_sound (Rotate name) past plan (rank, here, (generation, is)) sound =
    subst StaysSoundIn (sym is) (one_sound past (Rotates rank generation) tt sound)
plan_sound (Import name text) past plan (events, its, is) sound =
    subst StaysSoundIn (sym is) (import_sound name text.items past events its sound)
plan_sound Restart past plan is sound = subst StaysSoundIn (sym is) (restart_sound past sound)
plan_sound step past plan none sound = absurd none

-- before each event of a step that is under way, all tapes are sound
pub under_way_sound : (step : Step) (life : Life) (was now : Past) → IsUnderWay step life was now → IsSound life.past
    → IsSound was
under_way_sound step life was now way sound =
    plan_sound step life.past way.plan way.is_plan sound way.count way.event was way.prefix way.here
