-- One walk over all steps, built on the walk over those on tapes: what each step makes of a world, taken or refused, is
-- some events on its tapes, or a connection that is made or goes on.
use Rattle.std.proofs.Common.{◌≡◌, ℕ, zero, suc, ◌+◌, Option, Some, List, [], ◌∷◌, ◌++◌, refl, sym, ap, subst, inl, inr}
use Rattle.std.specs.List.{AllByRecursion, slice_get}
use Rattle.disk_model.specs.declared.choice.Choice.{Choice}
use Rattle.sections.specs.ListLaws.{at_all}
use Rattle.world_core.specs.Past.{Life, Past, PeerPast, with_last, with_past, with_peer}
use Rattle.world_core.specs.Events.{AllDo, Event}
use Rattle.world_core.specs.Runs.{Runs, Does, Refuses as RefusesAny, RefusesStep, RefusesTapes, RefusesWorld, Takes}
use Rattle.world_core.specs.Runs.Runs.{Start as NoStep, Next as OneStep}
use Rattle.world_core.specs.Exchange.{FailsToBreak, FailsToHand, FailsToRead, FailsToSupply, FailsToTick, OnPair}
use Rattle.world_core.specs.Exchange.{PairStep, RefusesConnect, RefusesOn, RefusesTick, TakesArticle, TakesBreak}
use Rattle.world_core.specs.Exchange.{TakesBytes, TakesHand, TakesMoment, TicksEach, at_moment, fresh_conn}
use Rattle.world_core.specs.Exchange.TicksEach.{Start as NoneTicked, Next as OneTicked}
use Rattle.world_core.specs.Halts.{AtRest, GoesOn, Manner, RefusesStop, TakesStop, left}
use Rattle.world_core.specs.Laws.{Comes}
use Rattle.world_core.specs.Laws.Comes.{No_step, Step_taken, Step_refused, Crashed}
use Rattle.world_core.specs.Output.{View}
use Rattle.world_core.specs.declared.fault.Fault.{Fault}
use Rattle.world_core.specs.declared.step.Step.{Step}
use Rattle.world_core.specs.declared.step.Step.TheVariants.{Article, Break, Bytes, Connect, Hand, Stop, Tick}
use Rattle.world_core.proofs.PairGoesOn.{Goes, Went, keeps_pair, went_article, went_break, went_bytes, went_hand}
use Rattle.world_core.proofs.PairGoesOn.{went_moment, went_on, went_unbroken, went_unhanded, went_unread}
use Rattle.world_core.proofs.PairGoesOn.{went_unsupplied, went_unticked}
use Rattle.world_core.proofs.PeerInWorld.{PeerKeeps}
use Rattle.world_core.proofs.WalkOverTapes.{Keeper, KeepsEnds, OnPlans, SameButDisks, any_ends, crash_keeps}
use Rattle.world_core.proofs.WalkOverTapes.{events_keep, left_rest, refuses_keep, same_keeps, strikes_keep, takes_keep}
use Rattle.world_core.proofs.WalkOverTapes.{unreported_keeps}

-- ---- what steps make

-- A relation between a world and what a step has made of it, which each kind of change brings about: its tapes have
-- changed by events of some kind, and its connections are as they were, or gone; one more connection was made; or one
-- has gone on, because something came in, a debt was handed to it, or its moment was set.
pub record Passage : Type 1 where
  pub tapes : Keeper
  pub keeps_same : (was now : Past) → SameButDisks was now → tapes.KEEPS was now
  pub MAKES : Step → Life → Life → Type 0
  pub changes : (step : Step) (life later : Life) → tapes.KEEPS life.past later.past → later.conns ≡ life.conns
      → MAKES step life later
  pub halts : (step : Step) (life later : Life) → tapes.KEEPS life.past later.past → later.conns ≡ []
      → MAKES step life later
  pub connects : (step : Step) (life later : Life) (number rank : ℕ) → later.past ≡ life.past
      → later.conns ≡ life.conns ++ (number, fresh_conn rank) ∷ [] → MAKES step life later
  pub goes_on : (step : Step) (id : ℕ) (life later : Life) → OnPair (Went step) id life tt later
      → MAKES step life later
  pub moves : (now : ℕ) (life later : Life) → MAKES (Tick now) (at_moment now life) later
      → MAKES (Tick now) life later
  pub ticks : (now : ℕ) (begun mid later : Life) (id : ℕ) → MAKES (Tick now) begun mid
      → OnPair (Went (Tick now)) id mid tt later → MAKES (Tick now) begun later

module _ (passage : Passage) where
  open passage use {tapes, keeps_same, MAKES}
  open passage use {changes, halts, connects, goes_on, moves, ticks}

  on_past : (step : Step) (life later : Life) (past : Past) → tapes.KEEPS life.past past
      → later ≡ with_past life past → MAKES step life later
  on_past step life later past keeps changed =
      changes step life later (subst (λ (l : Life). tapes.KEEPS life.past l.past) (sym changed) keeps)
      (ap (λ (l : Life). l.conns) changed)

  same_past : (step : Step) (life later : Life) → later.past ≡ life.past → later.conns ≡ life.conns
      → MAKES step life later
  same_past step life later same conns =
      changes step life later (same_keeps tapes life.past later.past same) conns

  same_life : (step : Step) (life later : Life) → later ≡ life → MAKES step life later
  same_life step life later same =
      same_past step life later (ap (λ (l : Life). l.past) same) (ap (λ (l : Life). l.conns) same)

  -- a step on a connection, taken or refused
  pair_makes : {A : Type 0} (T : PairStep A) (step : Step) (id : ℕ) → Goes step id T
      → (life : Life) (reports : A) (later : Life) → OnPair T id life reports later → MAKES step life later
  pair_makes T step id goes life reports later t =
      goes_on step id life later (went_on T step id goes life reports later t)

  ticks_make : (now : ℕ) (begun : Life) (count : ℕ) (outputs : List View) (later : Life)
      → TicksEach begun count outputs later → MAKES (Tick now) begun later
  ticks_make now begun _ _ _ NoneTicked = same_life (Tick now) begun begun refl
  ticks_make now begun _ _ _ (OneTicked count outputs more mid later before (id, at, t)) =
      ticks now begun mid later id (ticks_make now begun count outputs mid before)
      (went_on TakesMoment (Tick now) id (went_moment (Tick now) id) mid more later t)

  left_keeps : (manner : Manner) (past : Past) → tapes.KEEPS past (left manner past)
  left_keeps manner past = keeps_same past (left manner past) (left_rest manner past)

  -- ---- a step that is taken

  stop_makes : (peer : Option (List ℕ)) (call : ℕ) (choice : Choice) (step : Step) (life : Life) (outputs : List View)
      (later : Life)
      → TakesStop peer call choice life outputs later → MAKES step life later
  stop_makes peer zero choice step life outputs later (runs, said, changed) =
      halts step life later
      (subst (λ (l : Life). tapes.KEEPS life.past l.past) (sym changed) (left_keeps AtRest life.past))
      (ap (λ (l : Life). l.conns) changed)
  stop_makes peer (suc calls) choice step life outputs later (rank, is, said, changed) =
      same_past step life later (ap (λ (l : Life). l.past) changed) (ap (λ (l : Life). l.conns) changed)

  step_makes : (step : Step) (life : Life) (outputs : List View) (later : Life) → OnPlans tapes step life
      → KeepsEnds tapes step → Does step life outputs later → MAKES step life later
  step_makes (Connect name) life outputs later on ends (runs, t) =
      connects _ life later (life.connected + 1) t.rank (ap (λ (l : Life). l.past) t.changed)
      (ap (λ (l : Life). l.conns) t.changed)
  step_makes (Hand id) life outputs later on ends (runs, t) =
      pair_makes TakesHand (Hand id) id (went_hand id) life outputs later t
  step_makes (Bytes id octets) life outputs later on ends (runs, t) =
      pair_makes (TakesBytes octets.items) (Bytes id octets) id (went_bytes octets.items (Bytes id octets) id) life
      outputs later t
  step_makes (Article id found) life outputs later on ends (runs, t) =
      pair_makes (TakesArticle found) (Article id found) id (went_article found (Article id found) id) life outputs
      later t
  step_makes (Break id) life outputs later on ends (runs, t) =
      pair_makes TakesBreak (Break id) id (went_break (Break id) id) life outputs later t
  step_makes (Tick now) life outputs later on ends (runs, takes) =
      moves now life later (ticks_make now (at_moment now life) _ outputs later takes)
  step_makes (Stop peer call choice) life outputs later on ends takes =
      stop_makes peer call choice _ life outputs later takes
  step_makes step life outputs later on ends (runs, (past, takes, changed)) =
      changes step life later (subst (λ (l : Life). tapes.KEEPS life.past l.past) (sym changed)
      (takes_keep tapes step life.past past (on runs) ends outputs takes))
      (ap (λ (l : Life). l.conns) changed)

  pub takes_make : (step : Step) (life : Life) (outputs : List View) (later : Life) → OnPlans tapes step life
      → KeepsEnds tapes step → Takes step life outputs later → MAKES step life later
  takes_make step life outputs later on ends (inl does) = step_makes step life outputs later on ends does
  takes_make step life outputs later on ends (inr strikes) =
      halts step life later (strikes_keep tapes keeps_same step life outputs later on strikes)
      (ap (λ (l : Life). l.conns) strikes.changed)

  -- ---- a step that is refused

  left_makes : (step : Step) (life : Life) (under_way : Past) (later : Life) → tapes.KEEPS life.past under_way
      → GoesOn life under_way later → MAKES step life later
  left_makes step life under_way later keeps (inl (runs, changed)) = on_past step life later under_way keeps changed
  left_makes step life under_way later keeps (inr (stopped, changed)) =
      on_past step life later (left AtRest under_way)
      (tapes.joined life.past under_way (left AtRest under_way) keeps (left_keeps AtRest under_way)) changed

  tapes_refused : (step : Step) (life : Life) (fault : Fault) (later : Life) → OnPlans tapes step life
      → RefusesTapes step life fault later → MAKES step life later
  tapes_refused step life fault later on (inl off) = same_life step life later off.2
  tapes_refused step life fault later on (inr (runs, (under_way, refuses, goes))) =
      left_makes step life under_way later (refuses_keep tapes step life.past under_way (on runs) fault refuses) goes

  conn_refused : (R : PairStep Fault) (step : Step) (id : ℕ) → Goes step id R → (life : Life) (fault : Fault)
      (later : Life) → RefusesWorld (RefusesOn R id) life fault later → MAKES step life later
  conn_refused R step id goes life fault later (inl stopped) = same_life step life later stopped.2
  conn_refused R step id goes life fault later (inr (runs, inl none)) = same_life step life later none.2
  conn_refused R step id goes life fault later (inr (runs, inr t)) = pair_makes R step id goes life fault later t

  -- a step that is neither on tapes nor on a connection
  world_refused : (step : Step) (R : Life → Fault → Life → Type 0) (life : Life) (fault : Fault) (later : Life)
      → (R life fault later → MAKES step life later) → RefusesWorld R life fault later → MAKES step life later
  world_refused step R life fault later makes (inl stopped) = same_life step life later stopped.2
  world_refused step R life fault later makes (inr (runs, refuses)) = makes refuses

  tick_refused : (now : ℕ) (life : Life) (fault : Fault) (later : Life) → RefusesTick now life fault later
      → MAKES (Tick now) life later
  tick_refused now life fault later r =
      moves now life later (ticks now (at_moment now life) r.mid later r.fails.0
      (ticks_make now (at_moment now life) r.count r.outputs r.mid r.prefix)
      (went_on FailsToTick (Tick now) r.fails.0 (went_unticked (Tick now) r.fails.0) r.mid fault later r.fails.2))

  stop_refused : (peer : Option (List ℕ)) (call : ℕ) (step : Step) (life : Life) (fault : Fault) (later : Life)
      → RefusesStop peer call life fault later → MAKES step life later
  stop_refused peer zero step life fault later (why, same) = same_life step life later same
  stop_refused peer (suc calls) step life fault later (none, is, same) = same_life step life later same

  step_refused : (step : Step) (life : Life) (fault : Fault) (later : Life) → OnPlans tapes step life
      → RefusesAny step life fault later → MAKES step life later
  step_refused (Connect name) life fault later on refuses =
      world_refused _ (RefusesConnect name) life fault later (λ is. same_life _ life later is.1) refuses
  step_refused (Hand id) life fault later on refuses =
      conn_refused FailsToHand (Hand id) id (went_unhanded id) life fault later refuses
  step_refused (Bytes id octets) life fault later on refuses =
      conn_refused (FailsToRead octets.items) (Bytes id octets) id (went_unread octets.items (Bytes id octets) id) life
      fault later refuses
  step_refused (Article id found) life fault later on refuses =
      conn_refused (FailsToSupply found) (Article id found) id (went_unsupplied found (Article id found) id) life fault
      later refuses
  step_refused (Break id) life fault later on refuses =
      conn_refused FailsToBreak (Break id) id (went_unbroken (Break id) id) life fault later refuses
  step_refused (Tick now) life fault later on refuses =
      world_refused _ (RefusesTick now) life fault later (tick_refused now life fault later) refuses
  step_refused (Stop peer call choice) life fault later on refuses = stop_refused peer call _ life fault later refuses
  step_refused step life fault later on refuses = tapes_refused step life fault later on refuses

  pub refuses_make : (step : Step) (life : Life) (fault : Fault) (later : Life) → OnPlans tapes step life
      → RefusesStep step life fault later → MAKES step life later
  refuses_make step life fault later on (inl refuses) = step_refused step life fault later on refuses
  refuses_make step life fault later on (inr strikes) =
      halts step life later (unreported_keeps tapes keeps_same step life fault later on strikes)
      (ap (λ (l : Life). l.conns) strikes.changed)

-- ---- any steps keep of all tapes what any event does

module _ (keeper : Keeper) (any : (event : Event) → keeper.ON event) where
  any_on : (events : List Event) → AllByRecursion keeper.ON events
  any_on [] = tt
  any_on (event ∷ events) = (any event, any_on events)

  pub events_all : (was now : Past) (events : List Event) → AllDo was events now → keeper.KEEPS was now
  events_all was now events does = events_keep keeper was now events does (any_on events)

-- and what any connection does to its peer
module _ (keeper : Keeper) (keeps_same : (was now : Past) → SameButDisks was now → keeper.KEEPS was now)
    (on_peer : (past : Past) (rank id : ℕ) (was now : PeerPast) → slice_get past.peers rank ≡ Some was
    → PeerKeeps id was now → keeper.KEEPS past (with_peer past rank now)) where
  pub went_keeps : (step : Step) (id : ℕ) (life later : Life) → OnPair (Went step) id life tt later
      → keeper.KEEPS life.past later.past
  went_keeps step id life later t =
      let keeps = keeps_pair step id life.now t.conn t.peer t.later_conn t.later_peer t.makes in
      subst (λ (l : Life). keeper.KEEPS life.past l.past) (sym t.changed)
      (on_peer life.past t.conn.rank id t.peer t.later_peer t.is.peer_is keeps.0)

  abbrev pub over_tapes : Passage
  over_tapes = record {
    tapes = keeper;
    keeps_same = keeps_same;
    MAKES = λ step life later. keeper.KEEPS life.past later.past;
    changes = λ step life later keeps same. keeps;
    halts = λ step life later keeps none. keeps;
    connects = λ step life later number rank same conns. same_keeps keeper life.past later.past same;
    goes_on = went_keeps;
    moves = λ now life later keeps. keeps;
    ticks = λ now begun mid later id keeps t.
        keeper.joined begun.past mid.past later.past keeps (went_keeps (Tick now) id mid later t);
  }

  -- if that is what any event does, whatever the last number is
  module _ (any : (event : Event) → keeper.ON event)
      (numbered : (was : Past) (number : ℕ) → keeper.KEEPS was (with_last was number)) where
    on : (step : Step) (life : Life) → OnPlans keeper step life
    on step life runs plan is = any_on keeper any plan.events

    ends : (step : Step) → KeepsEnds keeper step
    ends = any_ends keeper numbered

    every_on : (steps : List Step) (life : Life) → AllByRecursion (λ (step : Step). OnPlans keeper step life) steps
    every_on steps life = at_all (λ (step : Step). OnPlans keeper step life) steps (λ i step here. on step life)

    pub runs_all : (was : Life) (steps : List Step) (lines : List (List View)) (later : Life)
        → Runs was steps lines later → keeper.KEEPS was.past later.past
    runs_all was _ _ _ (NoStep safe sound) = keeper.alike was.past
    runs_all was _ _ _ (OneStep steps step lines outputs life later runs takes safe sound) =
        keeper.joined was.past life.past later.past (runs_all was steps lines life runs)
        (takes_make over_tapes step life outputs later (on step life) (ends step) takes)

    pub comes_all : (was : Life) (steps : List Step) (lines : List (List View)) (later : Life)
        → Comes was steps lines later → keeper.KEEPS was.past later.past
    comes_all was _ _ _ (No_step safe sound) = keeper.alike was.past
    comes_all was _ _ _ (Step_taken steps step lines outputs life later comes takes safe sound) =
        keeper.joined was.past life.past later.past (comes_all was steps lines life comes)
        (takes_make over_tapes step life outputs later (on step life) (ends step) takes)
    comes_all was _ _ _ (Step_refused steps step lines fault life later comes refuses safe sound) =
        keeper.joined was.past life.past later.past (comes_all was steps lines life comes)
        (refuses_make over_tapes step life fault later (on step life) refuses)
    comes_all was _ _ _ (Crashed steps cut lines life later comes crash) =
        keeper.joined was.past life.past later.past (comes_all was steps lines life comes)
        (crash_keeps keeper keeps_same life cut later (every_on cut life) crash)
