-- What was reported as taken is acknowledged, and stays queued over whole runs.
use Rattle.std.proofs.Common.{◌≡◌, ◌⊎◌, ℕ, zero, suc, ◌≤◌, Option, None, Some, List, [], ◌∷◌, ◌++◌}
use Rattle.std.proofs.Common.{length, map, take, refl, sym, ap, ◌∙◌, subst, inl, inr, arith, append_assoc}
use Rattle.std.proofs.Math.Seq.{take-length}
use Rattle.std.proofs.lemmas.List.{take_min}
use Rattle.std.specs.Prelude.{Contains}
use Rattle.std.specs.List.{AllByRecursion, slice_get}
use Rattle.disk_model.specs.Disk.{Event as DiskEvent, Image, Torn, content}
use Rattle.disk_model.specs.Disk.Event.{FailedCut, Made, Synced, Tore, WasCut, Wrote}
use Rattle.disk_model.specs.declared.choice.Choice.{Choice}
use Rattle.ledger_core.specs.declared.note.Note.{Note}
use Rattle.ledger_core.specs.declared.note.Note.TheVariants.{Owe}
use Rattle.ledger_core.specs.State.{State, after}
use Rattle.conn_core.specs.History.{Event as Happening, need, output, reason}
use Rattle.conn_core.specs.declared.outcome.Outcome.{Outcome}
use Rattle.conn_core.specs.declared.reason.Reason.{Reason}
use Rattle.peer_queue.specs.Settled.{key_in, settled_by}
use Rattle.recovery.specs.Leaving.{EachLedger, IsPrefix, mark_of}
use Rattle.recovery.specs.LeavingLaws.{EachLedger-weaker}
use Rattle.recovery.specs.Notes.{History}
use Rattle.sections.specs.ListLaws.{all_at, both_all, get_below, get_left, get_taken, zip_get}
use Rattle.sections.specs.Tapes.{TapePast, mark_at}
use Rattle.world_core.specs.Past.{ConnPast, Life, Past, PeerPast, limits_of, options_of}
use Rattle.world_core.specs.Events.{Acknowledges, AllDo, Event, Parts, Sees, each_rank}
use Rattle.world_core.specs.Exchange.{Follows, TicksEach, settled_out, unsettled}
use Rattle.world_core.specs.Exchange.TicksEach.{Start as NoneTicked, Next as OneTicked}
use Rattle.world_core.specs.FunnelLaws.{Funnel, GoesBy, HasAcknowledgedDebt, IsEmpty, IsTaken, OfLines, OwesLine}
use Rattle.world_core.specs.FunnelLaws.{TakenIsAcknowledged, TakenIsQueued}
use Rattle.world_core.specs.Halts.{TakesStop}
use Rattle.world_core.specs.Keeping.{PeerStays, PeersStay}
use Rattle.world_core.specs.Laws.{Comes}
use Rattle.world_core.specs.Laws.Comes.{No_step, Step_taken, Step_refused, Crashed}
use Rattle.world_core.specs.Output.{SentLine, Settled, Stopped, Taken, View, closed_view, lines_in, mark_view}
use Rattle.world_core.specs.Output.{need_view}
use Rattle.world_core.specs.Runs.{Does, Takes}
use Rattle.world_core.specs.Safe.{IsSafe, KeepsLines, KeepsNotes}
use Rattle.world_core.specs.Steps.{Good, NotGood, Plan, Reading, TakesPlan, begun_at, flush_events, planned}
use Rattle.world_core.specs.Steps.{reading_plan, seal_events, seal_view}
use Rattle.world_core.specs.declared.step.Step.{Step}
use Rattle.world_core.specs.declared.step.Step.TheVariants.{Article, Begin, Break, Bytes, Connect, Flush, Hand, Import}
use Rattle.world_core.specs.declared.step.Step.TheVariants.{Line, Part, Restart, Rotate, Seal, Shed as Sheds, Stop}
use Rattle.world_core.specs.declared.step.Step.TheVariants.{Tick}
use Rattle.world_core.proofs.AcknowledgedOverRuns.{all_stay}
use Rattle.world_core.proofs.FunnelOverSteps.{names_same}
use Rattle.world_core.proofs.FunnelOwed.{debts_acknowledged, owes_line}
use Rattle.world_core.proofs.LineDebts.{stands}
use Rattle.world_core.proofs.LineNotes.{last_or}
use Rattle.world_core.proofs.PlansStaySound.{last_done}
use Rattle.world_core.proofs.RecoveredNotes.{comes_safe, comes_sound}

-- ---- what steps report

-- anything but that lines are acknowledged
abbrev IsOther : View → Type 0
IsOther (Taken mark) = ⊥
IsOther view = Unit {0}

abbrev AreOthers : List View → Type 0
AreOthers outputs = AllByRecursion IsOther outputs

all_made : {A : Type 0} (f : A → View) → ((x : A) → IsOther (f x)) → (xs : List A) → AreOthers (map f xs)
all_made f each [] = tt
all_made f each (x ∷ xs) = (each x, all_made f each xs)

need_other : (id : ℕ) (key : Option ℕ) → AreOthers (need_view id key)
need_other id None = tt
need_other id (Some key) = (tt, tt)

closed_other : (id : ℕ) (was now : Option Reason) → AreOthers (closed_view id was now)
closed_other id None None = tt
closed_other id None (Some why) = (tt, tt)
closed_other id (Some before) now = tt

-- what follows on a connection
follows_other : (id now : ℕ) (was : List Happening) (conn : ConnPast) (peer : PeerPast) (said : List View)
    (next : ConnPast) (later : PeerPast) → Follows id now was conn peer said next later → AreOthers said
follows_other id now was conn peer said next later f =
    let options = options_of peer.conf in
    let limits = limits_of peer.conf in
    let settled = map (λ (outcome : Outcome). Settled id (key_in outcome) (settled_by limits now outcome))
    (unsettled options conn) in
    let sent = map (SentLine id) (lines_in (output options (settled_out options conn).transcript)) in
    let needs = need_view id (need options (settled_out options conn).transcript) in
    let closes = closed_view id (reason options was) (reason options (settled_out options conn).transcript) in
    subst AreOthers (sym f.outputs_are) (both_all IsOther settled (sent ++ (needs ++ closes))
    (all_made (λ (outcome : Outcome). Settled id (key_in outcome) (settled_by limits now outcome)) (λ outcome. tt)
    (unsettled options conn))
    (both_all IsOther sent (needs ++ closes)
    (all_made (SentLine id) (λ line. tt) (lines_in (output options (settled_out options conn).transcript)))
    (both_all IsOther needs closes (need_other id (need options (settled_out options conn).transcript))
    (closed_other id (reason options was) (reason options (settled_out options conn).transcript)))))

ticks_other : (begun : Life) (count : ℕ) (outputs : List View) (later : Life) → TicksEach begun count outputs later
    → AreOthers outputs
ticks_other begun _ _ _ NoneTicked = tt
ticks_other begun _ _ _ (OneTicked count outputs more mid later before (id, at, t)) =
    both_all IsOther outputs more (ticks_other begun count outputs mid before)
    (follows_other id mid.now _ _ t.peer more t.later_conn t.later_peer t.makes)

line_other : (reading : Reading) (past mid : Past) → AreOthers ((reading_plan reading past).reports mid)
line_other (Good token id named) past mid = (tt, tt)
line_other (NotGood fault) past mid = (tt, tt)

-- ---- or the intake's tape was flushed

-- all notes of the intake's tape are acknowledged
pub record IsSealed (past : Past) : Type 0 where
  pub full : past.intake.history.kept ≡ length past.intake.history.notes
  pub safe : IsSafe past

record Seals (outputs : List View) (past : Past) : Type 0 where
  said : outputs ≡ seal_view past
  sealed : IsSealed past

sealed_by : (begun : Past) (all events : List Event) (mid : Past) → AllDo begun all mid
    → all ≡ events ++ Acknowledges ∷ [] → IsSealed mid
sealed_by begun all events mid does is =
    let l = last_done begun mid all events Acknowledges does is in
    record {
      full = subst (λ (h : History). h.kept ≡ length h.notes)
          (sym (ap (λ (p : Past). p.intake.history) l.last.changed
          ∙ ap (λ (t : TapePast). t.history) l.last.flushes.all)) refl;
      safe = l.safe;
    }

-- a plan that ends in such a flush
plan_seals : (step : Step) (past later : Past) (outputs : List View) (takes : TakesPlan step past outputs later)
    (begun : Past) (all events : List Event) → takes.plan ≡ planned begun all seal_view
    → all ≡ events ++ Acknowledges ∷ []
    → Seals outputs later
plan_seals step past later outputs takes begun all events is ends =
    let parts = subst (λ (p : Plan). AllDo p.begun p.events takes.mid × (outputs ≡ p.reports takes.mid)
    × (later ≡ p.ends takes.mid)) is (takes.does, takes.outputs_are, takes.later_is) in
    subst (Seals outputs) (sym parts.2)
    (record { said = parts.1; sealed = sealed_by begun all events takes.mid parts.0 ends })

abbrev Says : List View → Past → Type 0
Says outputs past = AreOthers outputs ⊎ Seals outputs past

-- a plan that reports anything else
plan_others : (step : Step) (past later : Past) (outputs : List View) (takes : TakesPlan step past outputs later)
    (plan : Plan) → takes.plan ≡ plan → AreOthers (plan.reports takes.mid) → Says outputs later
plan_others step past later outputs takes plan is others =
    inl (subst AreOthers (sym (takes.outputs_are ∙ ap (λ (p : Plan). p.reports takes.mid) is)) others)

takes_says : (step : Step) (past later : Past) (outputs : List View) → TakesPlan step past outputs later
    → Says outputs later
takes_says (Line text) past later outputs t =
    plan_others (Line text) past later outputs t _ t.is_plan.1.2 (line_other t.is_plan.1.0 past t.mid)
takes_says Flush past later outputs t =
    inr (plan_seals Flush past later outputs t (begun_at past) (flush_events past)
    (each_rank Parts (length past.peers) ++ Sees past.last ∷ []) t.is_plan
    (sym (append_assoc (each_rank Parts (length past.peers)) (Sees past.last ∷ []) (Acknowledges ∷ []))))
takes_says Begin past later outputs t = plan_others Begin past later outputs t _ t.is_plan tt
takes_says (Part name) past later outputs t = plan_others (Part name) past later outputs t _ t.is_plan.2 tt
takes_says Seal past later outputs t =
    inr (plan_seals Seal past later outputs t past (seal_events t.is_plan.0) (Sees t.is_plan.0 ∷ []) t.is_plan.2 refl)
takes_says (Sheds name) past later outputs t =
    plan_others (Sheds name) past later outputs t _ t.is_plan.2.1 (tt, tt)
takes_says (Rotate name) past later outputs t =
    plan_others (Rotate name) past later outputs t _ t.is_plan.2.1 (tt, tt)
takes_says (Import name text) past later outputs t =
    plan_others (Import name text) past later outputs t _ t.is_plan.2 (tt, tt)
takes_says Restart past later outputs t =
    plan_others Restart past later outputs t _ t.is_plan (all_made mark_view (λ peer. tt) t.mid.peers)
takes_says step past later outputs t = absurd t.is_plan

one_other : (outputs : List View) (view : View) → IsOther view → outputs ≡ view ∷ [] → AreOthers outputs
one_other outputs view other is = subst AreOthers (sym is) (other, tt)

stop_other : (peer : Option (List ℕ)) (call : ℕ) (choice : Choice) (life : Life) (outputs : List View) (later : Life)
    → TakesStop peer call choice life outputs later → AreOthers outputs
stop_other peer zero choice life outputs later (runs, said, changed) = one_other outputs Stopped tt said
stop_other peer (suc calls) choice life outputs later (rank, is, said, changed) = subst AreOthers (sym said) tt

does_says : (step : Step) (life : Life) (outputs : List View) (later : Life) → Does step life outputs later
    → Says outputs later.past
does_says (Connect name) life outputs later (runs, t) = inl (one_other outputs _ tt t.outputs_are)
does_says (Hand id) life outputs later (runs, t) =
    inl (subst AreOthers (sym t.makes.outputs_are) (
      tt,
      follows_other id life.now _ _ t.makes.mid t.makes.behind
          t.later_conn t.later_peer t.makes.follows,
    ))
does_says (Bytes id octets) life outputs later (runs, t) =
    inl (follows_other id life.now _ _ t.peer outputs t.later_conn t.later_peer t.makes.follows)
does_says (Article id found) life outputs later (runs, t) =
    inl (follows_other id life.now _ _ t.peer outputs t.later_conn t.later_peer t.makes.follows)
does_says (Break id) life outputs later (runs, t) =
    inl (follows_other id life.now _ _ t.peer outputs t.later_conn t.later_peer t.makes)
does_says (Tick now) life outputs later (runs, t) = inl (ticks_other _ _ outputs later t)
does_says (Stop peer call choice) life outputs later t = inl (stop_other peer call choice life outputs later t)
does_says step life outputs later (runs, (past, takes, changed)) =
    subst (λ (l : Life). Says outputs l.past) (sym changed) (takes_says step life.past past outputs takes)

-- ---- what is acknowledged then

-- each prefix of the notes with every acknowledged one in it is all of them
full_mark : (h : History) → h.kept ≡ length h.notes → (state : State) → IsPrefix h state → state.mark ≡ mark_of h
full_mark h full state prefix =
    let all : prefix.count ≡ length h.notes = omega (arith, full, prefix.enough, prefix.within) in
    ap (λ (s : State). s.mark) prefix.is ∙ ap (λ (n : ℕ). (after h.base (take n h.notes)).mark) all
    ∙ ap (λ (notes : List Note). (after h.base notes).mark) (take-length h.notes)

-- an image that is as it was
as_it_was : (at n : ℕ) (octets : List ℕ) → Torn at n octets octets
as_it_was at n octets =
    record { before = take_min at octets; after = refl; no_shorter = omega arith; no_longer = omega arith }

-- a disk has an image
some_image : (log : List DiskEvent) → (octets : List ℕ) × Image log octets
some_image [] = ([], refl)
some_image (Made octets ∷ log) = (octets, refl)
some_image (Wrote at octets ∷ log) =
    let before = some_image log in
    (before.0, (before.0, before.1, as_it_was at (length octets) before.0))
some_image (Tore at n after ∷ log) =
    let before = some_image log in
    (before.0, (before.0, before.1, as_it_was at n before.0))
some_image (WasCut len ∷ log) =
    let before = some_image log in
    (before.0, (before.0, before.1, inl refl))
some_image (FailedCut len ∷ log) =
    let before = some_image log in
    (before.0, (before.0, before.1, inl refl))
some_image (Synced ∷ log) = (content log, refl)

sealed_taken : (past : Past) → IsSealed past → IsTaken (mark_at past.intake) past
sealed_taken past sealed = record {
  marks = marks;
  lines = λ number below.
      let one = some_image past.intake.log.0 in
      let other = some_image past.intake.log.1 in
      let tape = marks one.0 other.0 one.1 other.1 in
      record { seen = tape.0; may = (one.0, other.0, one.1, other.1, tape.1); below = omega (arith, below, tape.2) };
}
  where
    marks : EachLedger (λ (seen : State). mark_at past.intake ≤ seen.mark) past.intake.log
    marks = EachLedger-weaker (KeepsLines past.intake.history past.peers)
        (λ (seen : State). mark_at past.intake ≤ seen.mark)
        (λ seen keeps. omega (arith, full_mark past.intake.history sealed.full seen keeps.prefix)) past.intake.log
        sealed.safe.intake

pub taken_acknowledged : TakenIsAcknowledged
taken_acknowledged step life later outputs taken takes reports = by takes
  where
    place : (index : ℕ) × (slice_get outputs index ≡ Some (Taken taken))
    place = stands outputs (Taken taken) reports

    others : AreOthers outputs → IsTaken taken later.past
    others all = absurd (all_at IsOther outputs place.0 (Taken taken) all place.1)

    number_of : {mark : ℕ} → Taken mark ≡ Taken taken → mark ≡ taken
    number_of same = cc

    only : (index mark : ℕ) → slice_get (Taken mark ∷ []) index ≡ Some (Taken taken) → mark ≡ taken
    only zero mark here = number_of (let same : Taken mark ≡ Taken taken = cc in same)
    only (suc index) mark here = absurd cc

    by : Takes step life outputs later → IsTaken taken later.past
    by (inl does) = elim (does_says step life outputs later does) [
      | inl all ↦ others all
      | inr seals ↦ subst (λ (n : ℕ). IsTaken n later.past)
          (only place.0 (mark_at later.past.intake)
          (subst (λ (said : List View). slice_get said place.0 ≡ Some (Taken taken)) seals.said place.1))
          (sealed_taken later.past seals.sealed)
    ]
    by (inr strikes) = others (subst AreOthers (sym strikes.outputs_are) (tt, tt))

-- ---- and over whole runs

-- an acknowledged debt stays acknowledged
debt_stays : (number : ℕ) (token id : List ℕ) (was now : PeerPast) → PeerStays was now
    → HasAcknowledgedDebt number token id was → HasAcknowledgedDebt number token id now
debt_stays number token id was now stays debt =
    let note = Owe number token id in
    let before = get_left (take was.tape.history.kept was.tape.history.notes) stays.1.more debt.index note
    (get_below was.tape.history.kept was.tape.history.notes debt.index note debt.below debt.noted) in
    let there = get_taken now.tape.history.kept now.tape.history.notes debt.index note
    (subst (λ (notes : List Note). slice_get notes debt.index ≡ Some note) (sym stays.1.prefix) before) in
    record { index = debt.index; noted = there.1; below = there.0 }

module _ (funnel : Funnel) (taken : ℕ) where
  -- the debt of each line up to the number is acknowledged
  abbrev AllAcknowledged : Life → Type 0
  AllAcknowledged life = OfLines funnel life.past taken (λ rank number token id peer.
      HasAcknowledgedDebt number token id peer)

  all_stay_so : (life later : Life) → PeersStay life.past later.past → AllAcknowledged life → AllAcknowledged later
  all_stay_so life later stay all rank number token id peer below here names =
      let was = zip_get PeerStays life.past.peers later.past.peers rank peer stay here in
      debt_stays number token id was.0 peer was.2
      (all rank number token id was.0 below was.1 (names_same funnel peer was.0 (sym was.2.0) number token id names))

  taken_stays : (begun : Life) (steps : List Step) (lines : List (List View)) (later : Life)
      → (comes : Comes begun steps lines later) → IsEmpty begun → GoesBy funnel begun steps lines later comes
      → (index : ℕ) (outputs : List View) → slice_get lines index ≡ Some outputs → Contains outputs (Taken taken)
      → AllAcknowledged later
  taken_stays begun _ _ _ (No_step safe sound) empty goes index outputs here reports = absurd cc
  taken_stays begun _ _ _ (Step_taken steps step lines said life later comes takes safe sound) empty goes index outputs
      here reports =
      elim (last_or lines said index outputs here) [
        | inl before ↦
            all_stay_so life later (all_stay life later (step ∷ []) (said ∷ [])
            (Step_taken [] step [] said life later (No_step (comes_safe begun steps lines life comes)
            (comes_sound begun steps lines life comes)) takes safe sound)).peers
            (taken_stays begun steps lines life comes empty goes.0 index outputs before reports)
        | inr same ↦
            let is = taken_acknowledged step life later said taken takes
            (subst (λ (views : List View). Contains views (Taken taken)) (sym same) reports) in
            λ rank number token id peer below there names.
            debts_acknowledged funnel begun later (steps ++ step ∷ []) (lines ++ said ∷ [])
            (Step_taken steps step lines said life later comes takes safe sound) empty goes rank number token id peer
            (is.lines number below) there names
      ]
  taken_stays begun _ _ _ (Step_refused steps step lines fault life later comes refuses safe sound) empty goes index
      outputs here reports =
      all_stay_so life later (all_stay life later (step ∷ []) []
      (Step_refused [] step [] fault life later (No_step (comes_safe begun steps lines life comes)
      (comes_sound begun steps lines life comes)) refuses safe sound)).peers
      (taken_stays begun steps lines life comes empty goes.0 index outputs here reports)
  taken_stays begun _ _ _ (Crashed steps cut lines life later comes crash) empty goes index outputs here reports =
      all_stay_so life later (all_stay life later cut []
      (Crashed [] cut [] life later (No_step (comes_safe begun steps lines life comes)
      (comes_sound begun steps lines life comes)) crash)).peers
      (taken_stays begun steps lines life comes empty goes.0 index outputs here reports)

pub taken_queued : TakenIsQueued
taken_queued funnel begun later steps lines comes empty goes taken reported rank number token id peer below here names =
    let place = stands lines reported.outputs reported.among in
    let debt = taken_stays funnel taken begun steps lines later comes empty goes place.0 reported.outputs place.1
    reported.reports rank number token id peer below here names in
    record {
      acknowledged = debt;
      owed = EachLedger-weaker (KeepsNotes peer) (OwesLine number token id peer)
          (owes_line number token id peer debt) peer.tape.log
          (all_at (λ (p : PeerPast). EachLedger (KeepsNotes p) p.tape.log) later.past.peers rank peer
          (comes_safe begun steps lines later comes).peers here);
    }
