-- What the steps on tapes make of a world, and what a stop that is met in one makes of it.
use Rattle.std.proofs.Common.{◌≡◌, ℕ, zero, suc, true, Option, None, Some, List, [], ◌∷◌, map, refl, sym, ap}
use Rattle.std.proofs.Common.{◌∙◌, subst, inl, inr}
use Rattle.std.specs.Prelude.{Bool, Contains, IfErr, OnOk, Result, option_map}
use Rattle.disk_model.specs.declared.Disk.{Ghosts}
use Rattle.std.specs.List.{AllByRecursion, AllZip, slice_get}
use Rattle.recovery.specs.declared.fault.TapeFault.TheVariants.{Disk}
use Rattle.sections.specs.ListLaws.{zip_weaker}
use Rattle.sections.specs.Tapes.{TapePast}
use Rattle.world_core.specs.Past.{Armed, ConnPast, Life, Past, PeerPast, options_of, rank_of, with_last, with_past}
use Rattle.ledger_core.specs.declared.note.Note.{Note}
use Rattle.ledger_core.specs.declared.note.Note.TheVariants.{Owe}
use Rattle.world_core.specs.Tapes.{RefusesClose, RefusesOwe}
use Rattle.world_core.specs.Events.{Event, Refuses as RefusesEvent, closing, import_key}
use Rattle.world_core.specs.Imports.{Good, import_events}
use Rattle.world_core.specs.Steps.{IsBarred, IsBarredAt, IsPlan, Plan, RefusesPlan, begun_at, must_run}
use Rattle.world_core.specs.Halts.{AtRest, ByChoice, GoesOn, halted}
use Rattle.world_core.specs.Runs.{Does, Meets, Refuses, RefusesTapes, TakesTapes}
use Rattle.world_core.specs.Sound.{AreTied, HasNumber, IsSoundConn, numbers_at}
use Rattle.world_core.specs.Stands.{ConnectionStands, HoldsTranscript, StageStands, Stands, WaitsWith, WorldStands}
use Rattle.world_core.specs.Stands.{armed_as}
use Rattle.world_core.specs.Stepped.{DiskFails, HaltedAs, TookTapes, TookNot}
use Rattle.world_core.specs.Output.{View, view_of}
use Rattle.world_core.specs.Turn.{Made, Refused, Took, WasHalted, WasNotTaken, WasStruck, WasStruckUnreported}
use Rattle.world_core.specs.declared.connection.Connection.{Connection}
use Rattle.world_core.specs.declared.fault.Fault.{Fault}
use Rattle.world_core.specs.declared.fault.Fault.TheVariants.{Tape}
use Rattle.world_core.specs.declared.fault.Halt.{Halt}
use Rattle.world_core.specs.declared.step.Step.{Step}
use Rattle.world_core.specs.declared.step.Step.TheVariants.{Begin, Import, Part, Rotate, Seal}
use Rattle.world_core.specs.declared.stop.StopDisk.{StopDisk}
use Rattle.world_core.specs.declared.stations.Stations.{Stations}
use Rattle.world_core.specs.declared.output.Output.{Output}
use Rattle.world_core.specs.declared.world.Arming.{Arming}
use Rattle.world_core.specs.declared.world.Stage.{Stage}
use Rattle.world_core.specs.declared.world.Stage.TheVariants.{Running}
use Rattle.world_core.specs.declared.world.World.{World}
use Rattle.world_core.proofs.EventLists.{did_none}
use Rattle.world_core.proofs.HeldOverEvents.{AllHold, HoldsSame, none_put, steady}
use Rattle.world_core.proofs.ImportEvents.{all_import}
use Rattle.world_core.proofs.TapeSteps.{FailsOnlyAt, fails_there, note_not, seal_only, took_by}
use Rattle.world_core.proofs.WalkOverTapes.{OnStep, OnTape, any_ends, plans_on, refuses_keep, takes_keep}

-- ---- what connections hold stays

-- the peer at a rank is replaced by one with the same settings, at which connections hold the same
peer_at : (was now : List PeerPast) (rank : ℕ) (peer : PeerPast) → AllZip HoldsSame was now
    → slice_get was rank ≡ Some peer
    → (later : PeerPast) × (slice_get now rank ≡ Some later) × HoldsSame peer later
peer_at [] now rank peer all here = absurd cc
peer_at (a ∷ was) [] rank peer all here = absurd all
peer_at (a ∷ was) (b ∷ now) zero peer all here =
    let same : a ≡ peer = cc in
    (b, refl, subst (λ (p : PeerPast). HoldsSame p b) same all.0)
peer_at (a ∷ was) (b ∷ now) (suc rank) peer all here = peer_at was now rank peer all.1 here

peer_before : (was now : List PeerPast) (rank : ℕ) (peer : PeerPast) → AllZip HoldsSame was now
    → slice_get now rank ≡ Some peer
    → (before : PeerPast) × (slice_get was rank ≡ Some before) × HoldsSame before peer
peer_before [] [] rank peer all here = absurd cc
peer_before [] (b ∷ now) rank peer all here = absurd all
peer_before (a ∷ was) [] rank peer all here = absurd all
peer_before (a ∷ was) (b ∷ now) zero peer all here =
    let same : b ≡ peer = cc in
    (a, refl, subst (λ (p : PeerPast). HoldsSame a p) same all.0)
peer_before (a ∷ was) (b ∷ now) (suc rank) peer all here = peer_before was now rank peer all.1 here

sound_conns : (was now : List PeerPast) (conns : List (ℕ × ConnPast)) → AllZip HoldsSame was now
    → AllByRecursion (λ (entry : ℕ × ConnPast). IsSoundConn was entry.1) conns
    → AllByRecursion (λ (entry : ℕ × ConnPast). IsSoundConn now entry.1) conns
sound_conns was now [] all each = tt
sound_conns was now (entry ∷ conns) all each =
    let is = each.0 in
    let at = peer_at was now entry.1.rank is.peer all is.here in (
      record {
        peer = at.0;
        here = at.1;
        arises = rw (at.2.0) is.arises;
        once = rw (at.2.0) is.once;
      },
      sound_conns was now conns all each.1,
    )

pub conns_kept : (was now : List PeerPast) (conns : List (ℕ × ConnPast)) (connections : List Connection)
    → AllZip HoldsSame was now
    → AllZip (ConnectionStands was) conns connections → AllZip (ConnectionStands now) conns connections
conns_kept was now conns connections all each =
    zip_weaker (ConnectionStands was) (ConnectionStands now) (λ entry c is.
    let at = peer_at was now entry.1.rank is.peer all is.here in
    record {
      id = is.id;
      rank = is.rank;
      peer = at.0;
      here = at.1;
      holds = subst (λ conf. HoldsTranscript conf entry.1 c) (sym at.2.0) is.holds;
      waits = subst (λ conf. WaitsWith conf entry.1 c.waiting) (sym at.2.0) is.waits;
    }) conns connections each

pub tied_kept : (life : Life) (past : Past) → AllHold life.past past → AreTied life → AreTied (with_past life past)
tied_kept life past all tied = record {
  rising = tied.rising;
  made = tied.made;
  each = sound_conns life.past.peers past.peers life.conns all tied.each;
  held = λ rank id number peer here.
      let at = peer_before life.past.peers past.peers rank peer all here in
      let was = tied.held rank id number at.0 at.1 in (
        (λ is.
            let has = was.0 ((at.2.1 id number).0 is) in
            record {
              conn = has.conn;
              here = has.here;
              its = has.its;
              has =
                  subst (λ conf. Contains (numbers_at (options_of conf) has.conn) number) (sym at.2.0)
                  has.has;
            }),
        (λ (has : HasNumber (with_past life past) rank peer id number).
            (at.2.1 id number).1 (was.1
            (record {
              conn = has.conn;
              here = has.here;
              its = has.its;
              has =
                  subst (λ conf. Contains (numbers_at (options_of conf) has.conn) number) at.2.0 has.has;
            }))),
      );
  none = tied.none;
}

-- ---- steps on tapes

-- the world stands for what a step made of its tapes
pub stands_on : (old new : World) (life : Life) (past : Past) (stations now : _) (conns : _) → WorldStands old life
    → old.stage ≡ Running stations conns
    → new.stage ≡ Running now conns → Stands now past → AllHold life.past past → new.armed ≡ old.armed
    → new.connected ≡ old.connected → new.now ≡ old.now
    → WorldStands new (with_past life past)
stands_on old new life past stations now conns stands was is on all armed connected moment =
    let here : StageStands life (Running stations conns) = subst (λ (s : Stage). StageStands life s) was stands.stage in
    record {
      stage = subst (λ (s : Stage). StageStands (with_past life past) s) (sym is)
          (here.0, on, conns_kept life.past.peers past.peers life.conns conns.items all here.2);
      armed = ap (option_map armed_as) armed ∙ stands.armed;
      connected = connected ∙ stands.connected;
      now = moment ∙ stands.now;
      sound = record { past = on.sound; conns = tied_kept life past all stands.sound.conns };
    }

pub runs_there : (world : World) (life : Life) (stations : _) (conns : _) → WorldStands world life
    → world.stage ≡ Running stations conns
    → (life.running ≡ true) × Stands stations life.past
runs_there world life stations conns stands is =
    let here : StageStands life (Running stations conns) = subst (λ (s : Stage). StageStands life s) is stands.stage in
    (here.0, here.1)

pub took_does : (step : Step) (life later : Life) (outputs : List Output) (world : World)
    → Does step life (map view_of outputs) later → WorldStands world later
    → Took step life outputs world
took_does step life later outputs world does stands = record { later = later; takes = inl does; stands = stands }

pub not_taken : (step : Step) (life later : Life) (fault : Fault) (world : World) → Refuses step life fault later
    → WorldStands world later
    → WasNotTaken step life fault world
not_taken step life later fault world refuses stands = record { later = later; refuses = inl refuses; stands = stands }

-- ---- a stop that is met

-- the world is armed as before, and its last connection and its moment are the same
goes_armed : (life : Life) (under_way : Past) (now : Life) → GoesOn life under_way now → now.armed ≡ life.armed
goes_armed life under_way now (inl on) = ap (λ (l : Life). l.armed) on.1
goes_armed life under_way now (inr on) = ap (λ (l : Life). l.armed) on.1

armed_is : (o : Option Arming) (arming : Arming) (a : Option Armed) → o ≡ Some arming → option_map armed_as o ≡ a
    → a ≡ Some (armed_as arming)
armed_is o arming a is same = sym same ∙ ap (option_map armed_as) is

meets : (step : Step) (life : Life) (halt : Halt) (under_way : Past) (arming : Arming)
    → life.armed ≡ Some (armed_as arming)
    → halt.fault ≡ Tape Disk → arming.rank ≡ halt.rank
    → (life.running ≡ must_run step) × DiskFails step life.past halt under_way
    → Meets step life (armed_as arming) under_way
meets step life halt under_way arming armed is at (running, disk) =
    let fails = disk.failed.fails in
    record {
      armed = armed;
      running = running;
      failed = record {
        plan = disk.failed.plan;
        is_plan = disk.failed.is_plan;
        fails = record {
          count = fails.count;
          mid = fails.mid;
          event = fails.event;
          prefix = fails.prefix;
          here = fails.here;
          refused = subst (λ (f : Fault). RefusesEvent fails.event fails.mid f under_way) is fails.refused;
          safe = fails.safe;
        };
      };
      at_tape = disk.at ∙ ap (λ (o : Option ℕ). Some o) (sym at);
    }

module _ (step : Step) (life : Life) (halt : Halt) (old : World) (was : WasHalted step life halt old)
    (arming : Arming) (armed : old.armed ≡ Some arming)
    (is : halt.fault ≡ Tape Disk) (at : arming.rank ≡ halt.rank) where
  there : Meets step life (armed_as arming) was.under_way
  there = meets step life halt was.under_way arming
      (sym (goes_armed life was.under_way was.now was.goes_on)
      ∙ armed_is old.armed arming was.now.armed armed was.stands.armed) is at (was.disk is)

  pub struck : (outputs : List Output) (new : World) → WasStruck life was.under_way arming.choice outputs new
      → Took step life outputs new
  struck outputs new strikes = record {
    later = halted (ByChoice arming.choice) was.under_way life;
    takes = inr (record {
      stop = armed_as arming;
      under_way = was.under_way;
      meets = there;
      outputs_are =
          strikes.outputs_are;
      changed = refl;
    });
    stands = strikes.stands;
  }

  pub struck_unreported : (fault : Fault) (new : World) → WasStruckUnreported life was.under_way was.now halt.fault fault new
      → WasNotTaken step life fault new
  struck_unreported fault new (inl refused) = record {
    later = was.now;
    refuses = inl (subst (λ (f : Fault). Refuses step life f was.now) (sym refused.0) was.refuses);
    stands = refused.1;
  }
  struck_unreported fault new (inr memory) = record {
    later = halted AtRest was.under_way life;
    refuses = inr (record {
      stop = armed_as arming;
      under_way = was.under_way;
      meets = there;
      refused =
          memory.0;
      changed = refl;
    });
    stands = memory.1;
  }

-- ---- the steps on tapes

-- the world runs, and its tapes are those of the stations
module _ (old new : World) (life : Life) (stations now : Stations StopDisk _) (conns : _)
    (stands : WorldStands old life)
    (was : old.stage ≡ Running stations conns) (is : new.stage ≡ Running now conns) (armed : new.armed ≡ old.armed)
    (connected : new.connected ≡ old.connected) (moment : new.now ≡ old.now) where
  runs_now : life.running ≡ true
  runs_now = (runs_there old life stations conns stands was).0

  on_now : Stands stations life.past
  on_now = (runs_there old life stations conns stands was).1

  later_stands : (past : Past) → Stands now past → AllHold life.past past → WorldStands new (with_past life past)
  later_stands past on all = stands_on old new life past stations now conns stands was is on all armed connected moment

  -- of what the step keeps of all tapes, what connections hold is kept, too
  module _ (step : Step) (must : must_run step ≡ true) where
    on_step : (event : Event) → OnStep (must_run step) event → OnTape event
    on_step event on = subst (λ (runs : Bool). OnStep runs event) must on

    started : life.running ≡ must_run step
    started = runs_now ∙ sym must

    pub took_tapes : (outputs : List Output)
        → ((outputs : List View) (later : Life) → TakesTapes step life outputs later → Does step life outputs later)
        → (Stands stations life.past → TookTapes step life.past outputs now) → Took step life outputs new
    took_tapes outputs does took =
        let t = took on_now in
        let runs : record life { past = t.later; running = true } ≡ with_past life t.later =
        ap (λ (running : Bool). record life { past = t.later; running = running }) (sym runs_now) in
        took_does step life (with_past life t.later) outputs new
        (does (map view_of outputs) (with_past life t.later) (started, (t.later, t.takes, sym runs)))
        (later_stands t.later t.stands
        (takes_keep steady step life.past t.later (plans_on steady step life.past on_step)
        (any_ends steady (λ was number. none_put was (with_last was number) refl) step) (map view_of outputs) t.takes))

    refused_stands : (fault : Fault) (t : TookNot step life.past fault now)
        → WorldStands new (with_past life t.later)
    refused_stands fault t =
        later_stands t.later t.stands (refuses_keep steady step life.past t.later
        (plans_on steady step life.past on_step) fault t.refuses)

    pub took_not : (fault : Fault)
        → ((later : Life) → RefusesTapes step life fault later → Refuses step life fault later)
        → (Stands stations life.past → TookNot step life.past fault now) → WasNotTaken step life fault new
    took_not fault refuses took =
        let t = took on_now in
        not_taken step life (with_past life t.later) fault new
        (refuses (with_past life t.later) (inr (started, (t.later, t.refuses, inl (runs_now, refl)))))
        (refused_stands fault t)

    pub was_halted : (halt : Halt)
        → ((later : Life) → RefusesTapes step life halt.fault later → Refuses step life halt.fault later)
        → (Stands stations life.past → HaltedAs step life.past halt now) → WasHalted step life halt new
    was_halted halt refuses took =
        let h = took on_now in
        let t = h.refused in
        record {
          under_way = t.later;
          now = with_past life t.later;
          goes_on = inl (runs_now, refl);
          refuses =
              refuses (with_past life t.later) (inr (started, (t.later, t.refuses, inl (runs_now, refl))));
          stands = refused_stands halt.fault t;
          disk = λ disk. (started, h.disk disk);
        }

  pub began : (outputs : List Output) → outputs ≡ [] → (Stands stations life.past → Stands now (begun_at life.past))
      → Took Begin life outputs new
  began outputs none begins =
      took_tapes Begin refl outputs (λ said later t. t)
      (λ on. took_by Begin life.past (begun_at life.past) [] (λ later. []) outputs now refl
      (did_none (begun_at life.past) now (begins on)) (ap (map view_of) none))

-- ---- the event in which a disk failed

-- of an import's events, a failing disk can refuse only a flush of its peer
owe_not : (tape : TapePast) (note : Note) → RefusesOwe tape note (Tape Disk) → ⊥
owe_not tape note (inl broken) = let no = broken.0 in cc
owe_not tape note (inr (inl full)) = let no = full.0 in cc
owe_not tape note (inr (inr (inl pending))) = let no = pending.0 in cc
owe_not tape note (inr (inr (inr memory))) = let no = memory.0 in cc

close_not : (tape : TapePast) (note : Note) → RefusesClose tape note (Tape Disk) → ⊥
close_not tape note (inl full) = let no = full.0 in cc
close_not tape note (inr refused) = note_not tape refused.1

import_only : (rank : ℕ) (pending mark : ℕ) (lines : List Good)
    → AllByRecursion (FailsOnlyAt (Some rank)) (import_events rank pending mark lines)
import_only rank pending mark lines =
    all_import (FailsOnlyAt (Some rank)) rank (λ mid later refused. refl)
    (λ mid later refused. absurd (close_not refused.peer.tape (closing refused.peer) refused.refused.0))
    (λ number token id mid later refused. absurd (owe_not refused.peer.tape
    (Owe (import_key number refused.peer) token id) refused.refused.1)) pending mark lines

-- the tape whose disks a step calls, if it calls those of one tape
abbrev pub CallsOnly : Step → Past → Option ℕ → Type 0
CallsOnly (Part name) past rank = rank_of past name ≡ rank
CallsOnly (Rotate name) past rank = rank_of past name ≡ rank
CallsOnly (Import name text) past rank = rank_of past name ≡ rank
CallsOnly Seal past rank = rank ≡ None
CallsOnly step past rank = ⊥

plan_only : (step : Step) (past : Past) (rank : Option ℕ) (plan : Plan) → CallsOnly step past rank
    → IsPlan step past plan → AllByRecursion (FailsOnlyAt rank) plan.events
plan_only (Part name) past rank plan at (r, here, is) =
    rw (is, sym at ∙ here) ((λ mid later refused. refl), tt)
plan_only (Rotate name) past rank plan at (r, here, (generation, is)) =
    rw (is, sym at ∙ here) ((λ mid later refused. refl), tt)
plan_only (Import name text) past rank plan at (events, its, is) =
    rw (is, its.events_are, sym at ∙ its.named) (import_only its.rank _ _ its.lines)
plan_only Seal past rank plan none (number, may, is) = rw (is, none) (seal_only number)
plan_only step past rank plan none is = absurd none

barred_at : (name : List ℕ) (past : Past) → IsBarredAt name past (Tape Disk) → ⊥
barred_at name past (inl none) = let no = none.0 in cc
barred_at name past (inr memory) = let no = memory.0 in cc

-- such a step is not refused for a failing disk before its events
barred_not : (step : Step) (past : Past) (rank : Option ℕ) → CallsOnly step past rank
    → IsBarred step past (Tape Disk) → ⊥
barred_not (Part name) past rank at none = let no = none.0 in cc
barred_not (Rotate name) past rank at barred = barred_at name past barred
barred_not (Import name text) past rank at barred = barred_at name past barred
barred_not Seal past rank none (inl unready) = let no = unready.0 in cc
barred_not Seal past rank none (inr memory) = let no = memory.0 in cc
barred_not step past rank none barred = absurd none

-- if a disk failed, it was at that tape
module _ (step : Step) (past : Past) (halt : Halt) (calls : CallsOnly step past halt.rank) where
  disk_fails : (later : Past) → RefusesPlan step past halt.fault later → halt.fault ≡ Tape Disk
      → DiskFails step past halt later
  disk_fails later (inl barred) disk =
      absurd (barred_not step past halt.rank calls (subst (IsBarred step past) disk barred.0))
  disk_fails later (inr (inl failed)) disk = record {
    failed = failed;
    at = fails_there halt.rank failed.plan.begun later failed.plan.events halt.fault
        (plan_only step past halt.rank failed.plan calls failed.is_plan) disk failed.fails;
  }
  disk_fails later (inr (inr lacks)) disk = absurd (let no = sym lacks.memory ∙ disk in cc)

  pub halted_there : {D : Type 0} {g : Ghosts D} → (stations : Stations D g) → TookNot step past halt.fault stations
      → HaltedAs step past halt stations
  halted_there stations t = record { refused = t; disk = disk_fails t.later t.refuses }

-- ---- a step that meets no stop

pub made_took : (step : Step) (T : Life → List View → Life → Type 0) (life : Life) (outputs : List Output) (world :
    World)
    → ((outputs : List View) (later : Life) → T life outputs later → Does step life outputs later)
    → Made T life outputs world
    → Took step life outputs world
made_took step T life outputs world does made =
    took_does step life made.later outputs world (does (map view_of outputs) made.later made.makes) made.stands

pub refused_not : (step : Step) (R : Life → Fault → Life → Type 0) (life : Life) (world : World)
    → ((fault : Fault) (later : Life) → R life fault later → Refuses step life fault later) → (fault : Fault)
    → Refused R life fault world
    → WasNotTaken step life fault world
refused_not step R life world refuses fault refused =
    not_taken step life refused.later fault world (refuses fault refused.later refused.refuses) refused.stands

pub as_step : (step other : Step) (r : Result (Unit {0}) Fault) (life : Life) (outputs : List Output) (world : World)
    → step ≡ other
    → OnOk r (Took other life outputs world) → OnOk r (Took step life outputs world)
as_step step other r life outputs world is took = subst (λ (s : Step). OnOk r (Took s life outputs world)) (sym is) took

pub as_step_not : (step other : Step) (r : Result (Unit {0}) Fault) (life : Life) (world : World) → step ≡ other
    → IfErr r (λ (fault : Fault). WasNotTaken other life fault world)
    → IfErr r (λ (fault : Fault). WasNotTaken step life fault world)
as_step_not step other r life world is refused =
    subst (λ (s : Step). IfErr r (λ (fault : Fault). WasNotTaken s life fault world)) (sym is) refused
