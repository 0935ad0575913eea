-- One walk over events and steps on tapes: what events of some kind keep of all tapes, and what each refused event
-- keeps, is also kept by the steps made of them, taken or refused, and by a stop that is met in one.
use Rattle.std.proofs.Common.{◌≡◌, ◌⊎◌, ◌+◌, ℕ, zero, suc, Bool, true, false, Some, List, []}
use Rattle.std.proofs.Common.{◌∷◌, length, take, refl, sym, ap, subst, inl, inr}
use Rattle.std.specs.Prelude.{if◌then◌else◌}
use Rattle.std.specs.Global.{Vec}
use Rattle.std.specs.List.{AllByRecursion, AllZip, slice_get}
use Rattle.sections.specs.ListLaws.{all_weaker, both_all, zip_put, zip_same, zip_weaker}
use Rattle.sections.specs.Tapes.{TapePast}
use Rattle.world_core.specs.Past.{Armed, Life, Past, PeerPast, with_intake, with_last, with_peer, with_tape}
use Rattle.world_core.specs.Safe.{KeepsLines, KeepsNotes}
use Rattle.world_core.specs.Events.{Acknowledges, AllDo, Claims, Closes, Does, Event, Fails, Imports, Opens}
use Rattle.world_core.specs.Events.{OpensIntake, Owes, Parts, Refuses, Returns, Rotates, Sees, Settles, Sheds, Spills}
use Rattle.world_core.specs.Events.{each_rank}
use Rattle.world_core.specs.Events.AllDo.{Start, Next}
use Rattle.world_core.specs.Crashes.{AreStopped, At_intake, At_peer, Before, Between, Crashes, IsMoment, IsMomentOf}
use Rattle.world_core.specs.Crashes.{IsStoppedPeer, Within, with_log}
use Rattle.world_core.specs.Halts.{AtRest, ByChoice, Manner, halted, left, left_peer, restart_events}
use Rattle.world_core.specs.Imports.{IsImport}
use Rattle.world_core.specs.Runs.{Meets, Strikes, StrikesUnreported}
use Rattle.world_core.specs.Steps.{FailsPlan, Good, IsPlan, NotGood, Plan, Reading, RefusesPlan, TakesPlan, begun_at}
use Rattle.world_core.specs.Steps.{flush_events, is_named, must_run, owes_from, planned, reading_plan, seal_events}
use Rattle.world_core.specs.Output.{View}
use Rattle.recovery.specs.declared.fault.TapeFault.TheVariants.{Disk}
use Rattle.world_core.specs.declared.fault.Fault.{Fault}
use Rattle.world_core.specs.declared.fault.Fault.TheVariants.{Tape}
use Rattle.world_core.specs.declared.step.Step.{Step}
use Rattle.world_core.specs.declared.step.Step.TheVariants.{Begin, Flush, Import, Line, Part, Restart, Rotate, Seal}
use Rattle.world_core.specs.declared.step.Step.TheVariants.{Shed}
use Rattle.world_core.proofs.ImportEvents.{all_import}
use Rattle.world_core.proofs.MarksAndNotes.{first_all, prefix_all, last_all}
use Rattle.world_core.proofs.RelatedLists.{zip_made}
use Rattle.world_core.proofs.SheddingIsSafe.{same_rotated}
use Rattle.world_core.proofs.StationCalls.{same_history}

-- ---- a refused event

-- one peer has another tape, which has the same notes
pub record HasOtherTape (was now : Past) : Type 0 where
  pub rank : ℕ
  pub peer : PeerPast
  pub tape : TapePast
  pub here : slice_get was.peers rank ≡ Some peer
  pub changed : now ≡ with_peer was rank (with_tape peer tape)
  pub same : tape.history ≡ peer.tape.history

-- the intake has another tape, which has the same notes
pub record HasOtherIntake (was now : Past) : Type 0 where
  pub tape : TapePast
  pub changed : now ≡ with_intake was tape
  pub same : tape.history ≡ was.intake.history

abbrev pub KeepsHistories : Past → Past → Type 0
KeepsHistories was now = HasOtherIntake was now ⊎ HasOtherTape was now

other_tape : (was now : Past) (rank : ℕ) (peer : PeerPast) (tape : TapePast)
    → slice_get was.peers rank ≡ Some peer → now ≡ with_peer was rank (with_tape peer tape)
    → tape.history ≡ peer.tape.history → KeepsHistories was now
other_tape was now rank peer tape here changed same =
    inr (record { rank = rank; peer = peer; tape = tape; here = here; changed = changed; same = same })

history_of : (one other : TapePast) → one ≡ other → one.history ≡ other.history
history_of one other same = ap (λ (t : TapePast). t.history) same

other_intake : (was now : Past) (tape : TapePast) → now ≡ with_intake was tape → tape.history ≡ was.intake.history
    → KeepsHistories was now
other_intake was now tape changed same = inl (record { tape = tape; changed = changed; same = same })

refused_so : (event : Event) (was now : Past) (fault : Fault) → Refuses event was fault now → KeepsHistories was now
refused_so (Owes rank token id) was now fault r =
    other_tape was now rank r.peer r.tape r.here r.changed (history_of _ _ r.refused.2)
refused_so (Imports rank number token id) was now fault r =
    other_tape was now rank r.peer r.tape r.here r.changed (history_of _ _ r.refused.2)
refused_so (Closes rank) was now fault r =
    other_tape was now rank r.peer r.tape r.here r.changed (history_of _ _ r.refused.1)
refused_so (Spills rank) was now fault r =
    other_tape was now rank r.peer r.tape r.here r.changed
    (same_history (KeepsNotes r.peer) r.peer.tape fault r.tape r.refused)
refused_so (Parts rank) was now fault r =
    other_tape was now rank r.peer r.tape r.here r.changed
    (same_history (KeepsNotes r.peer) r.peer.tape fault r.tape r.refused)
refused_so (Rotates rank generation) was now fault r =
    other_tape was now rank r.peer r.tape r.here r.changed
    (same_rotated (KeepsNotes r.peer) r.peer.tape fault r.tape r.refused)
refused_so (Sheds rank numbers) was now fault r =
    other_tape was now rank r.peer r.tape r.here r.changed (history_of _ _ r.refused.1)
refused_so (Claims rank id moment) was now fault r =
    other_tape was now rank r.peer r.tape r.here r.changed (history_of _ _ r.refused.1.all)
refused_so (Returns rank id number) was now fault r =
    other_tape was now rank r.peer r.tape r.here r.changed (history_of _ _ r.refused.1)
refused_so (Settles rank id moment outcome) was now fault r =
    other_tape was now rank r.peer r.tape r.here r.changed (history_of _ _ r.refused.1)
refused_so (Sees number) was now fault r = other_intake was now r.tape r.changed (history_of _ _ r.refused.2)
refused_so Acknowledges was now fault r =
    other_intake was now r.tape r.changed
    (same_history (KeepsLines was.intake.history was.peers) was.intake fault r.tape r.refused)
refused_so (Opens rank) was now fault r =
    other_tape was now rank r.peer r.tape r.here r.changed (ap (λ (t : TapePast). t.history) r.refused.all)
refused_so OpensIntake was now fault r =
    other_intake was now r.tape r.changed (ap (λ (t : TapePast). t.history) r.refused.all)

-- ---- the same notes

-- a peer has the same settings, and its tape the same notes
abbrev pub HasSameNotes : PeerPast → PeerPast → Type 0
HasSameNotes was now = (now.conf ≡ was.conf) × (now.tape.history ≡ was.tape.history)

abbrev pub HaveSameNotes : Past → Past → Type 0
HaveSameNotes was now = AllZip HasSameNotes was.peers now.peers

left_peer_same : (manner : Manner) (peer : PeerPast) → HasSameNotes peer (left_peer manner peer)
left_peer_same AtRest peer = (refl, refl)
left_peer_same (ByChoice choice) peer = (refl, refl)

-- the notes are the same, those of the intake, too, and so is the last number
pub record SameButDisks (was now : Past) : Type 0 where
  pub notes : HaveSameNotes was now
  pub intake : now.intake.history ≡ was.intake.history
  pub last : now.last ≡ was.last

pub left_same : (manner : Manner) (past : Past) → HaveSameNotes past (left manner past)
left_same manner past = zip_made HasSameNotes (left_peer manner) (left_peer_same manner) past.peers

pub left_rest : (manner : Manner) (past : Past) → SameButDisks past (left manner past)
left_rest AtRest past = record { notes = left_same AtRest past; intake = refl; last = refl }
left_rest (ByChoice choice) past = record { notes = left_same (ByChoice choice) past; intake = refl; last = refl }

-- at a moment of an event, and after a crash
pub moment_same : (was now past : Past) → IsMomentOf was now past → HaveSameNotes was past
moment_same was now _ Before = zip_same HasSameNotes (λ peer. (refl, refl)) was.peers
moment_same was now _ (At_peer rank old new way log here there on) =
    zip_put HasSameNotes (λ peer. (refl, refl)) was.peers rank old (with_tape old (with_log old.tape log)) here
    (refl, refl)
moment_same was now _ (At_intake way log on) = zip_same HasSameNotes (λ peer. (refl, refl)) was.peers

pub stopped_same : (was now : Past) → AreStopped was now → HaveSameNotes was now
stopped_same was now stopped =
    zip_weaker IsStoppedPeer HasSameNotes (λ one other is. (
      ap (λ (p : PeerPast). p.conf) is.all,
      ap (λ (t : TapePast). t.history) is.tape.all,
    )) was.peers now.peers stopped.peers

pub moment_rest : (was now past : Past) → IsMomentOf was now past → SameButDisks was past
moment_rest was now past moment = by past moment (moment_same was now past moment)
  where
    by : (past : Past) → IsMomentOf was now past → HaveSameNotes was past → SameButDisks was past
    by _ Before same = record { notes = same; intake = refl; last = refl }
    by _ (At_peer rank old new way log here there on) same = record { notes = same; intake = refl; last = refl }
    by _ (At_intake way log on) same = record { notes = same; intake = refl; last = refl }

pub stopped_rest : (was now : Past) → AreStopped was now → SameButDisks was now
stopped_rest was now stopped = record {
  notes = stopped_same was now stopped;
  intake = ap (λ (t : TapePast). t.history) stopped.intake.all;
  last = ap (λ (p : Past). p.last) stopped.all;
}

-- ---- the events of steps on tapes

-- an event on a tape that is open, and on no connection
abbrev pub OnTape : Event → Type 0
OnTape (Claims rank id now) = ⊥
OnTape (Returns rank id number) = ⊥
OnTape (Settles rank id now outcome) = ⊥
OnTape (Opens rank) = ⊥
OnTape OpensIntake = ⊥
OnTape event = Unit {0}

owes_step : (P : Event → Type 0) (b : Bool) (x : Event) (xs : List Event) → P x → AllByRecursion P xs
    → AllByRecursion P (if b then x ∷ xs else xs)
owes_step P true x xs one all = (one, all)
owes_step P false x xs one all = all

-- what holds of a line at any peer holds of all its events
pub owes_all : (P : Event → Type 0) (token id : List ℕ) → ((rank : ℕ) → P (Owes rank token id))
    → (rank : ℕ) (named : List (List ℕ)) (peers : List PeerPast)
    → AllByRecursion P (owes_from rank token id named peers)
owes_all P token id one rank named [] = tt
owes_all P token id one rank named (peer ∷ peers) =
    owes_step P (is_named named peer) (Owes rank token id) (owes_from (rank + 1) token id named peers) (one rank)
    (owes_all P token id one (rank + 1) named peers)

pub each_on : (P : Event → Type 0) (event : ℕ → Event) → ((rank : ℕ) → P (event rank)) → (n : ℕ)
    → AllByRecursion P (each_rank event n)
each_on P event one zero = tt
each_on P event one (suc n) = both_all P (each_rank event n) (event n ∷ []) (each_on P event one n) (one n, tt)

flush_on : (past : Past) → AllByRecursion OnTape (flush_events past)
flush_on past = both_all OnTape (each_rank Parts (length past.peers)) (seal_events past.last)
    (each_on OnTape Parts (λ rank. tt) (length past.peers)) (tt, (tt, tt))

import_on : (name text : List ℕ) (past : Past) (events : List Event) → IsImport name text past events
    → AllByRecursion OnTape events
import_on name text past events is =
    subst (AllByRecursion OnTape) (sym is.events_are)
    (all_import OnTape is.rank tt tt (λ number token id. tt) _ _ is.lines)

-- ---- plans

-- an event of a restart
abbrev pub IsOpening : Event → Type 0
IsOpening (Opens rank) = Unit {0}
IsOpening OpensIntake = Unit {0}
IsOpening event = ⊥

-- an event of a step that needs a world that runs, or that has stopped
abbrev pub OnStep : Bool → Event → Type 0
OnStep true event = OnTape event
OnStep false event = IsOpening event

-- What a step makes of the tapes that its last event leaves: a line has its number then, and any other step leaves them
-- as they are.
abbrev pub Concludes : Step → Past → Past → Type 0
Concludes (Line text) was now = (number : ℕ) × (now ≡ with_last was number)
Concludes step was now = now ≡ was

pub ends_tapes : (step : Step) (was now : Past) → Concludes step was now
    → (now.peers ≡ was.peers) × (now.intake ≡ was.intake)
ends_tapes (Line text) was now (number, is) = (ap (λ (p : Past). p.peers) is, ap (λ (p : Past). p.intake) is)
ends_tapes step was now is = (ap (λ (p : Past). p.peers) is, ap (λ (p : Past). p.intake) is)

-- A plan begins at the tapes before the step, or once their number is kept.
pub record Frame (step : Step) (past : Past) (plan : Plan) : Type 0 where
  pub begins : (plan.begun ≡ past) ⊎ (plan.begun ≡ begun_at past)
  pub on : AllByRecursion (OnStep (must_run step)) plan.events
  pub ends : (later : Past) → Concludes step later (plan.ends later)

-- a plan that begins at the tapes before the step
framed : (step : Step) (past : Past) (plan : Plan) (events : List Event) (reports : Past → List View)
    → ((later : Past) → Concludes step later later) → plan ≡ planned past events reports
    → AllByRecursion (OnStep (must_run step)) events → Frame step past plan
framed step past plan events reports rests is on =
    subst (Frame step past) (sym is) (record { begins = inl refl; on = on; ends = rests })

-- one that begins once their number is kept
framed_begun : (step : Step) (past : Past) (plan : Plan) (events : List Event) (reports : Past → List View)
    → ((later : Past) → Concludes step later later) → plan ≡ planned (begun_at past) events reports
    → AllByRecursion (OnStep (must_run step)) events → Frame step past plan
framed_begun step past plan events reports rests is on =
    subst (Frame step past) (sym is) (record { begins = inr refl; on = on; ends = rests })

reading_frame : (text : Vec ℕ) (reading : Reading) (past : Past) → Frame (Line text) past (reading_plan reading past)
reading_frame text (Good token id named) past =
    record {
      begins = inl refl;
      on = owes_all OnTape token id (λ rank. tt) 0 named past.peers;
      ends = λ later. (past.last + 1, refl);
    }
reading_frame text (NotGood fault) past =
    record { begins = inl refl; on = tt; ends = λ later. (past.last + 1, refl) }

restart_on : (past : Past) → AllByRecursion IsOpening (restart_events past)
restart_on past = both_all IsOpening (each_rank Opens (length past.peers)) (OpensIntake ∷ [])
    (each_on IsOpening Opens (λ rank. tt) (length past.peers)) (tt, tt)

pub frame : (step : Step) (past : Past) (plan : Plan) → IsPlan step past plan → Frame step past plan
frame (Line text) past plan (fits, (reading, reads, is)) =
    subst (Frame (Line text) past) (sym is) (reading_frame text reading past)
frame Flush past plan is = framed_begun Flush past plan _ _ (λ later. refl) is (flush_on past)
frame Begin past plan is = framed_begun Begin past plan _ _ (λ later. refl) is tt
frame (Part name) past plan (rank, here, is) = framed (Part name) past plan _ _ (λ later. refl) is (tt, tt)
frame Seal past plan (number, may, is) = framed Seal past plan _ _ (λ later. refl) is (tt, (tt, tt))
frame (Shed name) past plan (rank, here, (numbers, is)) =
    framed (Shed name) past plan _ _ (λ later. refl) is (tt, tt)
frame (Rotate name) past plan (rank, here, (generation, is)) =
    framed (Rotate name) past plan _ _ (λ later. refl) is (tt, tt)
frame (Import name text) past plan (events, its, is) =
    framed (Import name text) past plan _ _ (λ later. refl) is (import_on name text.items past events its)
frame Restart past plan is = framed Restart past plan _ _ (λ later. refl) is (restart_on past)
frame step past plan none = absurd none

-- ---- what is kept

-- A relation between all tapes before and after: it is kept by events of some kind, and by putting another tape with
-- the same notes in place of a peer's or of the intake's.
pub record Keeper : Type 1 where
  pub ON : Event → Type 0
  pub KEEPS : Past → Past → Type 0
  pub alike : (past : Past) → KEEPS past past
  pub joined : (was mid now : Past) → KEEPS was mid → KEEPS mid now → KEEPS was now
  pub at_same : (was now : Past) (rank : ℕ) (peer : PeerPast) (tape : TapePast)
      → slice_get was.peers rank ≡ Some peer → now ≡ with_peer was rank (with_tape peer tape)
      → tape.history ≡ peer.tape.history → KEEPS was now
  pub at_intake : (was : Past) (tape : TapePast) → tape.history ≡ was.intake.history → KEEPS was (with_intake was tape)
  pub event_does : (event : Event) → ON event → (was now : Past) → Does event was now → KEEPS was now
  pub keeps_begun : (past : Past) → KEEPS past (begun_at past)

-- If the step can be taken in this world, all events of its plans are of the keeper's kind.
abbrev pub OnPlans : Keeper → Step → Life → Type 0
OnPlans keeper step life = life.running ≡ must_run step → (plan : Plan) → IsPlan step life.past plan
    → AllByRecursion keeper.ON plan.events

-- what the step makes of the tapes after its last event is kept
abbrev pub KeepsEnds : Keeper → Step → Type 0
KeepsEnds keeper step = (was now : Past) → Concludes step was now → keeper.KEEPS was now

module _ (keeper : Keeper) where
  open keeper use {ON, KEEPS, alike, joined, at_same, at_intake, event_does, keeps_begun}

  pub same_keeps : (was now : Past) → now ≡ was → KEEPS was now
  same_keeps was now same = subst (KEEPS was) (sym same) (alike was)

  refused_keeps : (event : Event) (was now : Past) (fault : Fault) → Refuses event was fault now → KEEPS was now
  refused_keeps event was now fault refuses = elim (refused_so event was now fault refuses) [
    | inl one ↦ subst (KEEPS was) (sym one.changed) (at_intake was one.tape one.same)
    | inr one ↦ at_same was now one.rank one.peer one.tape one.here one.changed one.same
  ]

  pub events_keep : (was later : Past) (events : List Event) → AllDo was events later → AllByRecursion ON events
      → KEEPS was later
  events_keep was _ _ Start on = alike was
  events_keep was later _ (Next events event past _ does one safe) on =
      joined was past later (events_keep was past events does (prefix_all ON events (event ∷ []) on))
      (event_does event (last_all ON events event on) past later one)

  pub fails_keep : (was later : Past) (events : List Event) (fault : Fault) → AllByRecursion ON events
      → Fails was events fault later → KEEPS was later
  fails_keep was later events fault on fails =
      joined was fails.mid later (events_keep was fails.mid _ fails.prefix (first_all ON fails.count events on))
      (refused_keeps fails.event fails.mid later fault fails.refused)

  -- ---- steps on tapes

  begun_keeps : (past begun : Past) → (begun ≡ past) ⊎ (begun ≡ begun_at past) → KEEPS past begun
  begun_keeps past begun (inl same) = same_keeps past begun same
  begun_keeps past begun (inr same) = subst (KEEPS past) (sym same) (keeps_begun past)

  -- events of a plan that were taken, from the first on
  pub some_keep : (step : Step) (past : Past) (plan : Plan) → IsPlan step past plan → AllByRecursion ON plan.events
      → (count : ℕ) (later : Past) → AllDo plan.begun (take count plan.events) later → KEEPS past later
  some_keep step past plan is on count later does =
      joined past plan.begun later (begun_keeps past plan.begun (frame step past plan is).begins)
      (events_keep plan.begun later _ does (first_all ON count plan.events on))

  module _ (step : Step) (past later : Past)
      (on_plan : (plan : Plan) → IsPlan step past plan → AllByRecursion ON plan.events) where
    pub takes_keep : KeepsEnds keeper step → (outputs : List View) → TakesPlan step past outputs later
        → KEEPS past later
    takes_keep ends outputs t =
        let f = frame step past t.plan t.is_plan in
        joined past t.mid later
        (joined past t.plan.begun t.mid (begun_keeps past t.plan.begun f.begins)
        (events_keep t.plan.begun t.mid t.plan.events t.does (on_plan t.plan t.is_plan)))
        (subst (KEEPS t.mid) (sym t.later_is) (ends t.mid (t.plan.ends t.mid) (f.ends t.mid)))

    pub failed_keeps : (fault : Fault) → FailsPlan step past fault later → KEEPS past later
    failed_keeps fault f =
        joined past f.plan.begun later (begun_keeps past f.plan.begun (frame step past f.plan f.is_plan).begins)
        (fails_keep f.plan.begun later f.plan.events fault (on_plan f.plan f.is_plan) f.fails)

    pub refuses_keep : (fault : Fault) → RefusesPlan step past fault later → KEEPS past later
    refuses_keep fault (inl barred) = same_keeps past later barred.1
    refuses_keep fault (inr (inl failed)) = failed_keeps fault failed
    refuses_keep fault (inr (inr lacks)) =
        some_keep step past lacks.plan lacks.is_plan (on_plan lacks.plan lacks.is_plan) lacks.count later lacks.does

  -- ---- stops and restarts

  module _ (keeps_same : (was now : Past) → SameButDisks was now → KEEPS was now) where
    halted_keeps : (step : Step) (manner : Manner) (stop : Armed) (under_way : Past) (life later : Life)
        → OnPlans keeper step life → Meets step life stop under_way → later ≡ halted manner under_way life
        → KEEPS life.past later.past
    halted_keeps step manner stop under_way life later on meets changed =
        subst (λ (l : Life). KEEPS life.past l.past) (sym changed)
        (joined life.past under_way (left manner under_way)
        (failed_keeps step life.past under_way (on meets.running) (Tape Disk) meets.failed)
        (keeps_same under_way (left manner under_way) (left_rest manner under_way)))

    pub strikes_keep : (step : Step) (life : Life) (outputs : List View) (later : Life)
        → OnPlans keeper step life → Strikes step life outputs later → KEEPS life.past later.past
    strikes_keep step life outputs later on strikes =
        halted_keeps step (ByChoice strikes.stop.choice) strikes.stop strikes.under_way life later on strikes.meets
        strikes.changed

    pub unreported_keeps : (step : Step) (life : Life) (fault : Fault) (later : Life)
        → OnPlans keeper step life → StrikesUnreported step life fault later → KEEPS life.past later.past
    unreported_keeps step life fault later on strikes =
        halted_keeps step AtRest strikes.stop strikes.under_way life later on strikes.meets strikes.changed

    pub up_to : (life : Life) (cut : List Step) (past : Past)
        → AllByRecursion (λ (step : Step). OnPlans keeper step life) cut → IsMoment life cut past → KEEPS life.past past
    up_to life _ _ on Between = alike life.past
    up_to life _ past on (Within step was now _ way moment) =
        joined life.past was past
        (some_keep step life.past way.plan way.is_plan (on.0 way.running way.plan way.is_plan) way.count was way.prefix)
        (keeps_same was past (moment_rest was now past moment))

    pub crash_keeps : (life : Life) (cut : List Step) (later : Life)
        → AllByRecursion (λ (step : Step). OnPlans keeper step life) cut → Crashes life cut later
        → KEEPS life.past later.past
    crash_keeps life cut later on crash =
        subst (λ (l : Life). KEEPS life.past l.past) (sym crash.changed)
        (joined life.past crash.under_way crash.past (up_to life cut crash.under_way on crash.moment)
        (keeps_same crash.under_way crash.past (stopped_rest crash.under_way crash.past crash.stopped)))

-- ---- keepers of the peers alone

-- events of the steps on tapes
pub plans_on : (keeper : Keeper) (step : Step) (past : Past)
    → ((event : Event) → OnStep (must_run step) event → keeper.ON event)
    → (plan : Plan) → IsPlan step past plan → AllByRecursion keeper.ON plan.events
plans_on keeper step past on_step plan is =
    all_weaker (OnStep (must_run step)) keeper.ON on_step plan.events (frame step past plan is).on

-- and those of a restart
pub on_any : (keeper : Keeper) → ((event : Event) → OnTape event → keeper.ON event)
    → ((rank : ℕ) → keeper.ON (Opens rank)) → keeper.ON OpensIntake → (runs : Bool) (event : Event)
    → OnStep runs event → keeper.ON event
on_any keeper on_tape on_opens on_intake true event on = on_tape event on
on_any keeper on_tape on_opens on_intake false (Opens rank) on = on_opens rank
on_any keeper on_tape on_opens on_intake false OpensIntake on = on_intake
on_any keeper on_tape on_opens on_intake false event on = absurd on

-- the number of the last line does not matter
pub any_ends : (keeper : Keeper) → ((was : Past) (number : ℕ) → keeper.KEEPS was (with_last was number))
    → (step : Step) → KeepsEnds keeper step
any_ends keeper numbered (Line text) was now (number, is) = subst (keeper.KEEPS was) (sym is) (numbered was number)
any_ends keeper numbered step was now is = same_keeps keeper was now is
