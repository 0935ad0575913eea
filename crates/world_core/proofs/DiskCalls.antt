-- A step calls disks only at its events: whatever has happened to them when it ends had happened before it, or by the
-- end of one of its events.
use Rattle.std.proofs.Common.{◌≡◌, ◌⊎◌, ◌+◌, ◌++◌, ℕ, zero, suc, false, Option, None, Some, List, [], ◌∷◌}
use Rattle.std.proofs.Common.{length, take, map, refl, sym, ap, ◌∙◌, subst, inl, inr}
use Rattle.std.specs.List.{slice_get}
use Rattle.std.proofs.Math.Seq.{take-length}
use Rattle.std.proofs.lemmas.Bool.{cases_eq}
use Rattle.disk_model.specs.declared.choice.Choice.{Choice}
use Rattle.recovery.specs.Image.{Log}
use Rattle.peer_queue.specs.Settled.{key_in}
use Rattle.peer_queue.specs.declared.limits.Owed.{Owed}
use Rattle.peer_queue.specs.declared.limits.Owed.TheVariants.{New, Already}
use Rattle.peer_queue.specs.declared.settled.Settled.{Settled}
use Rattle.peer_queue.specs.declared.settled.Settled.TheVariants.{Answered, Dropped, Later, Ready}
use Rattle.sections.specs.Tapes.{TapePast}
use Rattle.world_core.specs.Past.{Armed, Life, Past, PeerPast, with_intake, with_peer, with_tape}
use Rattle.world_core.specs.Events.{AllDo, Claims, Closes, Does, Event, Imports, Owes, Refuses, Returns, Sees, Settles}
use Rattle.world_core.specs.Events.{Sheds, calls_disk, import_key, imported_as, owed_as, owing_as, settled_as, settling}
use Rattle.world_core.specs.Events.{Acknowledges, Opens, OpensIntake, Parts, Rotates, Spills, seen, shed_peer}
use Rattle.world_core.specs.Events.AllDo.{Start, Next}
use Rattle.world_core.specs.Exchange.{FailsToBreak, FailsToHand, FailsToRead, FailsToSupply, FailsToTick, OnPair}
use Rattle.world_core.specs.Exchange.{PairStep, RefusesOn, TakesArticle, TakesBreak, TakesBytes, TakesHand, TakesMoment}
use Rattle.world_core.specs.Exchange.{TicksEach, at_moment}
use Rattle.world_core.specs.Exchange.TicksEach.{Start as NoneTicked, Next as OneTicked}
use Rattle.world_core.specs.Halts.{AtRest, ByChoice, GoesOn, Manner, RefusesStop, TakesStop, halted, left, left_peer}
use Rattle.world_core.specs.Crashes.{IsUnderWay}
use Rattle.world_core.specs.Moments.{CallsNoOther, Ended, HadLog, HasLog, WasLeft}
use Rattle.world_core.specs.Runs.{Does as DoesStep, Meets, Refuses as RefusesAny, RefusesTapes, RefusesWorld, Takes}
use Rattle.world_core.specs.Steps.{FailsPlan, IsPlan, Plan, RefusesPlan, TakesPlan, must_run}
use Rattle.world_core.specs.Output.{View}
use Rattle.recovery.specs.declared.fault.TapeFault.TheVariants.{Disk}
use Rattle.world_core.specs.declared.fault.Fault.{Fault}
use Rattle.world_core.specs.declared.fault.Fault.TheVariants.{Tape}
use Rattle.world_core.specs.declared.step.Step.{Step}
use Rattle.world_core.specs.declared.step.Step.TheVariants.{Article, Break, Bytes, Connect, Hand, Stop, Tick}
use Rattle.world_core.proofs.PairGoesOn.{Goes, keeps_pair, went_article, went_break, went_bytes, went_hand}
use Rattle.world_core.proofs.PairGoesOn.{went_moment, went_unbroken, went_unhanded, went_unread, went_unsupplied}
use Rattle.world_core.proofs.PairGoesOn.{went_unticked}
use Rattle.world_core.proofs.Moments.{log_of, not_none, seen_log}
use Rattle.world_core.proofs.PeerInWorld.{get_apart}
use Rattle.world_core.proofs.MarksAndNotes.{map_set}
use Rattle.world_core.proofs.WalkOverTapes.{ends_tapes, frame}

-- ---- lists

-- f of a list's element
map_get : {A B : Type 0} (f : A → B) (xs : List A) (i : ℕ) (x : A) → slice_get xs i ≡ Some x
    → slice_get (map f xs) i ≡ Some (f x)
map_get f [] i x here = absurd cc
map_get f (y ∷ xs) zero x here = let same : y ≡ x = cc in ap (λ z. Some (f z)) same
map_get f (y ∷ xs) (suc i) x here = map_get f xs i x here

get_map : {A B : Type 0} (f : A → B) (xs : List A) (i : ℕ) (y : B) → slice_get (map f xs) i ≡ Some y
    → (x : A) × (slice_get xs i ≡ Some x) × (y ≡ f x)
get_map f [] i y here = absurd cc
get_map f (x ∷ xs) zero y here = (x, refl, cc)
get_map f (x ∷ xs) (suc i) y here = get_map f xs i y here

-- the last of a prefix of a list, and those before it
last_of : {A : Type 0} (xs : List A) (x : A) (n : ℕ) (all : List A) → xs ++ x ∷ [] ≡ take n all
    → (take (length xs) all ≡ xs) × (slice_get all (length xs) ≡ Some x)
last_of xs x zero all is = absurd (not_none xs x is)
last_of xs x (suc n) [] is = absurd (not_none xs x is)
last_of [] x (suc n) (y ∷ all) is = (refl, cc)
last_of (z ∷ xs) x (suc n) (y ∷ all) is =
    let same : y ≡ z = cc in
    let more : xs ++ x ∷ [] ≡ take n all = cc in
    let rest = last_of xs x n all more in
    (ap (λ l. y ∷ l) rest.0 ∙ ap (λ a. a ∷ xs) same, rest.1)

-- ---- nothing has happened to any disk

abbrev peer_logs : List PeerPast → List Log
peer_logs peers = map (λ (peer : PeerPast). peer.tape.log) peers

-- what has happened to the disks of each tape, the intake's last
abbrev logs : Past → List Log × Log
logs past = (peer_logs past.peers, past.intake.log)

quiet_put : (was now : Past) (rank : ℕ) (peer new : PeerPast) → slice_get was.peers rank ≡ Some peer
    → now ≡ with_peer was rank new → new.tape.log ≡ peer.tape.log → logs now ≡ logs was
quiet_put was now rank peer new here changed same =
    ap logs changed
    ∙ ap (λ (ls : List Log). (ls, was.intake.log))
    (map_set (λ (p : PeerPast). p.tape.log) was.peers rank peer new here same)

-- the same of the intake's tape
quiet_intake : (was now : Past) (tape : TapePast) → now ≡ with_intake was tape → tape.log ≡ was.intake.log
    → logs now ≡ logs was
quiet_intake was now tape changed same = ap logs changed ∙ ap (λ (l : Log). (peer_logs was.peers, l)) same

-- an event that calls no disk
abbrev IsQuiet : Event → Type 0
IsQuiet event = calls_disk event ≡ None

owing_log : (owed : Owed) (number : ℕ) (token id : List ℕ) (peer : PeerPast)
    → (owing_as owed number token id peer).tape.log ≡ peer.tape.log
owing_log New number token id peer = refl
owing_log Already number token id peer = refl

settled_log : (settled : Settled) (number : ℕ) (peer : PeerPast)
    → (settled_as settled number peer).tape.log ≡ peer.tape.log
settled_log (Answered code) number peer = refl
settled_log (Dropped cause) number peer = refl
settled_log (Later moment) number peer = refl
settled_log Ready number peer = refl

quiet_taken : (event : Event) (was now : Past) → IsQuiet event → Does event was now → logs now ≡ logs was
quiet_taken (Owes rank token id) was now quiet d =
    quiet_put was now rank d.peer _ d.here d.changed
    (owing_log (owed_as (was.last + 1) d.peer) (was.last + 1) token id d.peer)
quiet_taken (Imports rank number token id) was now quiet d =
    quiet_put was now rank d.peer _ d.here d.changed
    (owing_log (imported_as number d.peer) (import_key number d.peer) token id d.peer)
quiet_taken (Closes rank) was now quiet d = quiet_put was now rank d.peer _ d.here d.changed refl
quiet_taken (Sheds rank numbers) was now quiet d =
    quiet_put was now rank d.peer (shed_peer numbers d.peer) d.here d.changed refl
quiet_taken (Claims rank id moment) was now quiet d =
    quiet_put was now rank d.peer _ d.here d.changed (log_of _ _ d.reads.all)
quiet_taken (Returns rank id number) was now quiet d = quiet_put was now rank d.peer _ d.here d.changed refl
quiet_taken (Settles rank id moment outcome) was now quiet d =
    quiet_put was now rank d.peer _ d.here d.changed
    (settled_log (settling d.peer moment outcome) (key_in outcome) d.peer)
quiet_taken (Sees number) was now quiet d =
    quiet_intake was now (seen number was.intake) d.changed (seen_log number was.intake)
quiet_taken event was now quiet d = absurd cc

quiet_refused : (event : Event) (was now : Past) (fault : Fault) → IsQuiet event → Refuses event was fault now
    → logs now ≡ logs was
quiet_refused (Owes rank token id) was now fault quiet r =
    quiet_put was now rank r.peer (with_tape r.peer r.tape) r.here r.changed (log_of _ _ r.refused.2)
quiet_refused (Imports rank number token id) was now fault quiet r =
    quiet_put was now rank r.peer (with_tape r.peer r.tape) r.here r.changed (log_of _ _ r.refused.2)
quiet_refused (Closes rank) was now fault quiet r =
    quiet_put was now rank r.peer (with_tape r.peer r.tape) r.here r.changed (log_of _ _ r.refused.1)
quiet_refused (Sheds rank numbers) was now fault quiet r =
    quiet_put was now rank r.peer (with_tape r.peer r.tape) r.here r.changed (log_of _ _ r.refused.1)
quiet_refused (Claims rank id moment) was now fault quiet r =
    quiet_put was now rank r.peer (with_tape r.peer r.tape) r.here r.changed (log_of _ _ r.refused.1.all)
quiet_refused (Returns rank id number) was now fault quiet r =
    quiet_put was now rank r.peer (with_tape r.peer r.tape) r.here r.changed (log_of _ _ r.refused.1)
quiet_refused (Settles rank id moment outcome) was now fault quiet r =
    quiet_put was now rank r.peer (with_tape r.peer r.tape) r.here r.changed (log_of _ _ r.refused.1)
quiet_refused (Sees number) was now fault quiet r =
    quiet_intake was now r.tape r.changed (log_of _ _ r.refused.2)
quiet_refused event was now fault quiet r = absurd cc

quiet_event : (event : Event) (was now : Past) → IsQuiet event
    → Does event was now ⊎ ((fault : Fault) × Refuses event was fault now) → logs now ≡ logs was
quiet_event event was now quiet (inl does) = quiet_taken event was now quiet does
quiet_event event was now quiet (inr (fault, refuses)) = quiet_refused event was now fault quiet refuses

-- ---- an event that calls the disks of one tape changes no other

-- one peer is another, or the intake's tape is
abbrev ChangesAt : Option ℕ → Past → Past → Type 0
ChangesAt (Some rank) was now = (new : PeerPast) × (now ≡ with_peer was rank new)
ChangesAt None was now = now.peers ≡ was.peers

peers_of : (was now : Past) → now ≡ was → now.peers ≡ was.peers
peers_of was now same = ap (λ (p : Past). p.peers) same

taken_at : (event : Event) (was now : Past) (tape : Option ℕ) → calls_disk event ≡ Some tape → Does event was now
    → ChangesAt tape was now
taken_at (Spills rank) was now tape calls d =
    let is : Some rank ≡ tape = cc in
    subst (λ (t : Option ℕ). ChangesAt t was now) is (_, d.changed)
taken_at (Parts rank) was now tape calls d =
    let is : Some rank ≡ tape = cc in
    subst (λ (t : Option ℕ). ChangesAt t was now) is (_, d.changed)
taken_at (Rotates rank generation) was now tape calls d =
    let is : Some rank ≡ tape = cc in
    subst (λ (t : Option ℕ). ChangesAt t was now) is (_, d.changed)
taken_at Acknowledges was now tape calls d =
    let is : None ≡ tape = cc in
    subst (λ (t : Option ℕ). ChangesAt t was now) is (peers_of _ _ d.changed)
taken_at (Opens rank) was now tape calls d =
    let is : Some rank ≡ tape = cc in
    subst (λ (t : Option ℕ). ChangesAt t was now) is (_, d.changed)
taken_at OpensIntake was now tape calls d =
    let is : None ≡ tape = cc in
    subst (λ (t : Option ℕ). ChangesAt t was now) is (peers_of _ _ d.changed)
taken_at event was now tape calls d = absurd cc

refused_at : (event : Event) (was now : Past) (tape : Option ℕ) (fault : Fault) → calls_disk event ≡ Some tape
    → Refuses event was fault now → ChangesAt tape was now
refused_at (Spills rank) was now tape fault calls r =
    let is : Some rank ≡ tape = cc in
    subst (λ (t : Option ℕ). ChangesAt t was now) is (_, r.changed)
refused_at (Parts rank) was now tape fault calls r =
    let is : Some rank ≡ tape = cc in
    subst (λ (t : Option ℕ). ChangesAt t was now) is (_, r.changed)
refused_at (Rotates rank generation) was now tape fault calls r =
    let is : Some rank ≡ tape = cc in
    subst (λ (t : Option ℕ). ChangesAt t was now) is (_, r.changed)
refused_at Acknowledges was now tape fault calls r =
    let is : None ≡ tape = cc in
    subst (λ (t : Option ℕ). ChangesAt t was now) is (peers_of _ _ r.changed)
refused_at (Opens rank) was now tape fault calls r =
    let is : Some rank ≡ tape = cc in
    subst (λ (t : Option ℕ). ChangesAt t was now) is (_, r.changed)
refused_at OpensIntake was now tape fault calls r =
    let is : None ≡ tape = cc in
    subst (λ (t : Option ℕ). ChangesAt t was now) is (peers_of _ _ r.changed)
refused_at event was now tape fault calls r = absurd cc

changes_at : (event : Event) (was now : Past) (tape : Option ℕ) → calls_disk event ≡ Some tape
    → Does event was now ⊎ ((fault : Fault) × Refuses event was fault now) → ChangesAt tape was now
changes_at event was now tape calls (inl does) = taken_at event was now tape calls does
changes_at event was now tape calls (inr (fault, refuses)) = refused_at event was now tape fault calls refuses

-- it is this tape that is called, or nothing has happened to its disks
called_or_not : (called tape : Option ℕ) (was now : Past) → ChangesAt called was now → (log : Log)
    → HasLog now tape log
    → (called ≡ tape) ⊎ HasLog was tape log
called_or_not (Some rank) (Some other) was now changes log (peer, here, is) =
    let there : slice_get (with_peer was rank changes.0).peers other ≡ Some peer =
    subst (λ (p : Past). slice_get p.peers other ≡ Some peer) changes.1 here in
    elim (cases_eq other rank) [
      | inl same ↦ inl (ap Some (sym same))
      | inr apart ↦ inr (peer, sym (get_apart was.peers rank other changes.0 apart) ∙ there, is)
    ]
called_or_not (Some rank) None was now changes log is = inr (is ∙ ap (λ (p : Past). p.intake.log) changes.1)
called_or_not None (Some other) was now changes log (peer, here, is) =
    inr (peer, ap (λ (ps : List PeerPast). slice_get ps other) (sym changes) ∙ here, is)
called_or_not None None was now changes log is = inl refl

-- ---- a step on a connection

past_of : (later life : Life) → later ≡ life → logs later.past ≡ logs life.past
past_of later life same = ap (λ (l : Life). logs l.past) same

on_quiet : {A : Type 0} (T : PairStep A) (id : ℕ) → Goes (Hand id) id T
    → (life : Life) (reports : A) (later : Life) → OnPair T id life reports later → logs later.past ≡ logs life.past
on_quiet T id goes life reports later t =
    let went = goes life.now t.conn t.peer reports t.later_conn t.later_peer t.makes in
    past_of later _ t.changed
    ∙ quiet_put life.past (with_peer life.past t.conn.rank t.later_peer) t.conn.rank t.peer t.later_peer t.is.peer_is
    refl (keeps_pair (Hand id) id life.now t.conn t.peer t.later_conn t.later_peer went).0.log

ticked_quiet : (begun : Life) (count : ℕ) (outputs : List View) (later : Life) → TicksEach begun count outputs later
    → logs later.past ≡ logs begun.past
ticked_quiet begun _ _ _ NoneTicked = refl
ticked_quiet begun _ _ _ (OneTicked count outputs more mid later before (id, at, t)) =
    on_quiet TakesMoment id (went_moment (Hand id) id) mid more later t ∙ ticked_quiet begun count outputs mid before

begun_quiet : (peers : List PeerPast)
    → map (λ (peer : PeerPast). peer.tape.log) (map (λ (peer : PeerPast). record peer { parted = false }) peers)
    ≡ map (λ (peer : PeerPast). peer.tape.log) peers
begun_quiet [] = refl
begun_quiet (peer ∷ peers) = ap (λ l. peer.tape.log ∷ l) (begun_quiet peers)

-- ---- a step

module _ (step : Step) (life : Life) where
  -- what has happened to the disks of these tapes had happened before the step, or by the end of one of its events
  abbrev AtEvents : Past → Type 0
  AtEvents past = (tape : Option ℕ) (log : Log) → HasLog past tape log → HadLog step life tape log

  at_first : AtEvents life.past
  at_first = λ tape log has. inl has

  at_same : (was now : Past) → logs now ≡ logs was → AtEvents was → AtEvents now
  at_same was now same at = λ tape log has. at tape log (by tape log has)
    where
      by : (tape : Option ℕ) (log : Log) → HasLog now tape log → HasLog was tape log
      by (Some rank) log has =
          let there = subst (λ (ls : List Log). slice_get ls rank ≡ Some has.0.tape.log)
          (ap (λ (both : List Log × Log). both.0) same)
          (map_get (λ (p : PeerPast). p.tape.log) now.peers rank has.0 has.1) in
          let old = get_map (λ (p : PeerPast). p.tape.log) was.peers rank has.0.tape.log there in
          (old.0, old.1, has.2 ∙ old.2)
      by None log has = has ∙ ap (λ (both : List Log × Log). both.1) same

  -- the end of an event, taken or refused, if so much had happened by the end of those before it
  at_end : (was now : Past) (way : IsUnderWay step life was now) → AtEvents was → AtEvents now
  at_end was now way before = by (calls_disk way.event) refl
    where
      by : (called : Option (Option ℕ)) → calls_disk way.event ≡ called → AtEvents now
      by None quiet = at_same was now (quiet_event way.event was now quiet way.makes) before
      by (Some called) calls = λ tape log has.
          elim (called_or_not called tape was now (changes_at way.event was now called calls way.makes) log has) [
            | inl same ↦ inr (record {
              was = was;
              now = now;
              under_way = way;
              calls = calls ∙ ap Some same;
              had = has;
            })
            | inr old ↦ before tape log old
          ]

  module _ (running : life.running ≡ must_run step) (plan : Plan) (is : IsPlan step life.past plan) where
    at_begun : AtEvents plan.begun
    at_begun = elim (frame step life.past plan is).begins [
      | inl same ↦ at_same life.past plan.begun (ap logs same) at_first
      | inr same ↦
          at_same life.past plan.begun (ap logs same
          ∙ ap (λ (ls : List Log). (ls, life.past.intake.log)) (begun_quiet life.past.peers)) at_first
    ]

    at_done : (n : ℕ) (some : List Event) (later : Past) → AllDo plan.begun some later → some ≡ take n plan.events
        → AtEvents later
    at_done n _ _ Start none = at_begun
    at_done n _ _ (Next some event past later does one safe) first =
        let last = last_of some event n plan.events first in
        at_end past later (record {
          running = running;
          plan = plan;
          is_plan = is;
          count = length some;
          prefix = subst (λ (es : List Event). AllDo plan.begun es past) (sym last.0) does;
          event = event;
          here = last.1;
          makes = inl one;
        }) (at_done (length some) some past does (sym last.0))

    at_all : (later : Past) → AllDo plan.begun plan.events later → AtEvents later
    at_all later does = at_done (length plan.events) plan.events later does (sym (take-length plan.events))

  module _ (running : life.running ≡ must_run step) where
    at_fault : (fault : Fault) (later : Past) → FailsPlan step life.past fault later → AtEvents later
    at_fault fault later failed =
        let f = failed.fails in
        at_end f.mid later (record {
          running = running;
          plan = failed.plan;
          is_plan = failed.is_plan;
          count = f.count;
          prefix = f.prefix;
          event = f.event;
          here = f.here;
          makes = inr (fault, f.refused);
        }) (at_done running failed.plan failed.is_plan f.count _ f.mid f.prefix refl)

    at_taken : (outputs : List View) (later : Past) → TakesPlan step life.past outputs later → AtEvents later
    at_taken outputs later t =
        let same = ends_tapes step t.mid _ ((frame step life.past t.plan t.is_plan).ends t.mid) in
        at_same t.mid later (ap logs t.later_is
        ∙ (ap (λ (ps : List PeerPast). (peer_logs ps, (t.plan.ends t.mid).intake.log)) same.0
        ∙ ap (λ (tape : TapePast). (peer_logs t.mid.peers, tape.log)) same.1))
        (at_all running t.plan t.is_plan t.mid t.does)

    at_refused : (fault : Fault) (later : Past) → RefusesPlan step life.past fault later → AtEvents later
    at_refused fault later (inl barred) = at_same life.past later (ap logs barred.1) at_first
    at_refused fault later (inr (inl failed)) = at_fault fault later failed
    at_refused fault later (inr (inr lacks)) =
        at_done running lacks.plan lacks.is_plan lacks.count _ later lacks.does refl

  -- ---- a stop

  abbrev AtEnd : Past → Type 0
  AtEnd past = (tape : Option ℕ) (log : Log) → HasLog past tape log
      → HadLog step life tape log ⊎ WasLeft step life tape log

  at_left : (manner : Manner) (past : Past) → AtEvents past → AtEnd (left manner past)
  at_left AtRest past at = by
    where
      by : AtEnd (left AtRest past)
      by (Some rank) log has =
          let old = get_map (left_peer AtRest) past.peers rank has.0 has.1 in
          inl (at (Some rank) log (old.0, old.1, has.2 ∙ ap (λ (p : PeerPast). p.tape.log) old.2))
      by None log has = inl (at None log has)
  at_left (ByChoice choice) past at = by
    where
      by : AtEnd (left (ByChoice choice) past)
      by (Some rank) log has =
          let old = get_map (left_peer (ByChoice choice)) past.peers rank has.0 has.1 in
          inr (record {
            before = old.0.tape.log;
            choice = choice;
            had = at (Some rank) old.0.tape.log (old.0, old.1, refl);
            left_is = has.2 ∙ ap (λ (p : PeerPast). p.tape.log) old.2;
          })
      by None log has = inr (record {
        before = past.intake.log;
        choice = choice;
        had = at None past.intake.log refl;
        left_is = has;
      })

  moved : (past : Past) (later : Life) → later.past ≡ past → AtEvents past → AtEnd later.past
  moved past later changed at = subst AtEnd (sym changed) (λ tape log has. inl (at tape log has))

  quiet : (later : Life) → logs later.past ≡ logs life.past → AtEnd later.past
  quiet later same = λ tape log has. inl (at_same life.past later.past same at_first tape log has)

  still : (later : Life) → later ≡ life → AtEnd later.past
  still later same = quiet later (past_of later life same)

  stopped : (manner : Manner) (under_way : Past) (later : Life) → later ≡ halted manner under_way life
      → AtEvents under_way → AtEnd later.past
  stopped manner under_way later changed at =
      subst (λ (l : Life). AtEnd l.past) (sym changed) (at_left manner under_way at)

met : (step : Step) (life : Life) (stop : Armed) (under_way : Past) → Meets step life stop under_way
    → AtEvents step life under_way
met step life stop under_way m = at_fault step life m.running (Tape Disk) under_way m.failed

-- ---- a step that is taken

stop_at : (peer : Option (List ℕ)) (call : ℕ) (choice : Choice) (step : Step) (life : Life) (outputs : List View)
    (later : Life) → TakesStop peer call choice life outputs later → AtEnd step life later.past
stop_at peer zero choice step life outputs later (runs, said, changed) =
    stopped step life AtRest life.past later changed (at_first step life)
stop_at peer (suc calls) choice step life outputs later (rank, is, said, changed) =
    quiet step life later (past_of later _ changed)

does_at : (step : Step) (life : Life) (outputs : List View) (later : Life) → DoesStep step life outputs later
    → AtEnd step life later.past
does_at (Connect name) life outputs later (runs, t) = quiet (Connect name) life later (past_of later _ t.changed)
does_at (Hand id) life outputs later (runs, t) =
    quiet (Hand id) life later (on_quiet TakesHand id (went_hand id) life outputs later t)
does_at (Bytes id octets) life outputs later (runs, t) =
    quiet (Bytes id octets) life later (on_quiet (TakesBytes octets.items) id
    (went_bytes octets.items (Hand id) id) life outputs later t)
does_at (Article id found) life outputs later (runs, t) =
    quiet (Article id found) life later (on_quiet (TakesArticle found) id
    (went_article found (Hand id) id) life outputs later t)
does_at (Break id) life outputs later (runs, t) =
    quiet (Break id) life later (on_quiet TakesBreak id (went_break (Hand id) id) life outputs later t)
does_at (Tick now) life outputs later (runs, t) =
    quiet (Tick now) life later (ticked_quiet (at_moment now life) _ outputs later t)
does_at (Stop peer call choice) life outputs later takes =
    stop_at peer call choice (Stop peer call choice) life outputs later takes
does_at step life outputs later (runs, (past, takes, changed)) =
    moved step life past later (ap (λ (l : Life). l.past) changed) (at_taken step life runs outputs past takes)

takes_at : (step : Step) (life : Life) (outputs : List View) (later : Life) → Takes step life outputs later
    → AtEnd step life later.past
takes_at step life outputs later (inl does) = does_at step life outputs later does
takes_at step life outputs later (inr s) =
    stopped step life (ByChoice s.stop.choice) s.under_way later s.changed (met step life s.stop s.under_way s.meets)

-- ---- a step that is refused

goes_at : (step : Step) (life : Life) (under_way : Past) (later : Life) → AtEvents step life under_way
    → GoesOn life under_way later → AtEnd step life later.past
goes_at step life under_way later at (inl (runs, changed)) =
    moved step life under_way later (ap (λ (l : Life). l.past) changed) at
goes_at step life under_way later at (inr (stopped, changed)) =
    subst (λ (l : Life). AtEnd step life l.past) (sym changed) (at_left step life AtRest under_way at)

tapes_at : (step : Step) (life : Life) (fault : Fault) (later : Life) → RefusesTapes step life fault later
    → AtEnd step life later.past
tapes_at step life fault later (inl off) = still step life later off.2
tapes_at step life fault later (inr (runs, (under_way, refuses, goes))) =
    goes_at step life under_way later (at_refused step life runs fault under_way refuses) goes

conn_at : (step : Step) (id : ℕ) (R : PairStep Fault) → Goes (Hand id) id R → (life : Life) (fault : Fault)
    (later : Life) → RefusesWorld (RefusesOn R id) life fault later → AtEnd step life later.past
conn_at step id R goes life fault later (inl off) = still step life later off.2
conn_at step id R goes life fault later (inr (runs, inl none)) = still step life later none.2
conn_at step id R goes life fault later (inr (runs, inr on)) =
    quiet step life later (on_quiet R id goes life fault later on)

refused_stop : (peer : Option (List ℕ)) (call : ℕ) (step : Step) (life : Life) (fault : Fault) (later : Life)
    → RefusesStop peer call life fault later → AtEnd step life later.past
refused_stop peer zero step life fault later (why, same) = still step life later same
refused_stop peer (suc calls) step life fault later (none, is, same) = still step life later same

refuses_at : (step : Step) (life : Life) (fault : Fault) (later : Life) → RefusesAny step life fault later
    → AtEnd step life later.past
refuses_at (Connect name) life fault later (inl off) = still (Connect name) life later off.2
refuses_at (Connect name) life fault later (inr (runs, is)) = still (Connect name) life later is.1
refuses_at (Hand id) life fault later r = conn_at (Hand id) id FailsToHand (went_unhanded id) life fault later r
refuses_at (Bytes id octets) life fault later r =
    conn_at (Bytes id octets) id (FailsToRead octets.items) (went_unread octets.items (Hand id) id) life fault later r
refuses_at (Article id found) life fault later r =
    conn_at (Article id found) id (FailsToSupply found) (went_unsupplied found (Hand id) id) life fault later r
refuses_at (Break id) life fault later r =
    conn_at (Break id) id FailsToBreak (went_unbroken (Hand id) id) life fault later r
refuses_at (Tick now) life fault later (inl off) = still (Tick now) life later off.2
refuses_at (Tick now) life fault later (inr (runs, r)) =
    quiet (Tick now) life later
    (on_quiet FailsToTick r.fails.0 (went_unticked (Hand r.fails.0) r.fails.0) r.mid fault later r.fails.2
    ∙ ticked_quiet (at_moment now life) r.count r.outputs r.mid r.prefix)
refuses_at (Stop peer call choice) life fault later r =
    refused_stop peer call (Stop peer call choice) life fault later r
refuses_at step life fault later r = tapes_at step life fault later r

ended_at : (step : Step) (life later : Life) → Ended step life later → AtEnd step life later.past
ended_at step life later (inl (outputs, takes)) = takes_at step life outputs later takes
ended_at step life later (inr (fault, inl refuses)) = refuses_at step life fault later refuses
ended_at step life later (inr (fault, inr s)) =
    stopped step life AtRest s.under_way later s.changed (met step life s.stop s.under_way s.meets)

pub no_other_calls : CallsNoOther
no_other_calls = ended_at
