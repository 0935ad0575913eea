-- The debts of an acknowledged line are kept, and a line that is read again is new exactly if its peer had not noted
-- it.
use Rattle.std.proofs.Common.{◌≡◌, ◌⊎◌, ◌+◌, ◌++◌, ℕ, zero, suc, Bool, true, false, ◌&&◌, None, Some, List, [], ◌∷◌}
use Rattle.std.proofs.Common.{length, map, refl, sym, ap, ◌∙◌, subst, inl, inr, append_assoc}
use Rattle.std.specs.Prelude.{Contains, if◌then◌else◌, nat_lt}
use Rattle.std.specs.Global.{Vec}
use Rattle.std.specs.List.{AllByRecursion, AllZip, slice_get}
use Rattle.std.proofs.Math.ListN.{set}
use Rattle.std.proofs.lemmas.Option.{slice_get-get_or}
use Rattle.ledger_core.specs.State.{State}
use Rattle.peer_queue.specs.declared.limits.Owed.TheVariants.{New, Already}
use Rattle.recovery.specs.Leaving.{IsPrefix}
use Rattle.recovery.specs.LeavingLaws.{EachLedger-weaker, LedgersLeave-weaker}
use Rattle.sections.specs.ListLaws.{all_at}
use Rattle.sections.specs.Tapes.{mark_at}
use Rattle.world_core.specs.Past.{Armed, Life, Past, PeerPast, with_last, with_past}
use Rattle.world_core.specs.Events.{AllDo, Does, Event, Owes, calls_disk, owed_as, owing_as}
use Rattle.world_core.specs.Events.AllDo.{Start, Next}
use Rattle.world_core.specs.Laws.{Comes, IsRecovered, OverRuns, StillOwes}
use Rattle.world_core.specs.Laws.Comes.{No_step, Step_taken, Step_refused, Crashed}
use Rattle.world_core.specs.LineLaws.{LinesAreKept, LinesAreKeptWithin, LinesAreReadAgain, MadeDebt, OwesOrEnded}
use Rattle.world_core.specs.LineLaws.{WasBad, WasRead, new_to, read_at, reported_new}
use Rattle.world_core.specs.Crashes.{StaysPrefix}
use Rattle.world_core.specs.Runs.{Meets, Takes}
use Rattle.world_core.specs.Safe.{IsSafe}
use Rattle.world_core.specs.Steps.{Good, IsReading, NotGood, Plan, Reading, is_named, owed_there, owes_from}
use Rattle.world_core.specs.Steps.{reading_plan}
use Rattle.world_core.specs.Output.{View}
use Rattle.world_core.specs.declared.step.Step.{Step}
use Rattle.world_core.specs.declared.step.Step.TheVariants.{Line}
use Rattle.world_core.proofs.AcknowledgedLines.{lines_stand}
use Rattle.world_core.proofs.LineAtNamedPeers.{length_more}
use Rattle.world_core.proofs.Moments.{moments_recovered, not_none}
use Rattle.world_core.proofs.RecoveredNotes.{recover_all}
use Rattle.world_core.proofs.WalkOverTapes.{owes_all}

-- ---- lists

pub zip_both : {A B : Type 0} (R : A → B → Type 0) (xs : List A) (ys : List B) (i : ℕ) (x : A) (y : B) → AllZip R xs ys
    → slice_get xs i ≡ Some x → slice_get ys i ≡ Some y → R x y
zip_both R [] ys i x y all here there = absurd cc
zip_both R (a ∷ xs) [] i x y all here there = absurd all
zip_both R (a ∷ xs) (b ∷ ys) zero x y all here there =
    let one : a ≡ x = cc in
    let other : b ≡ y = cc in
    subst (R x) other (subst (λ z. R z b) one all.0)
zip_both R (a ∷ xs) (b ∷ ys) (suc i) x y all here there = zip_both R xs ys i x y all.1 here there

-- an element of a list, by its index
pub stands : {A : Type 0} (xs : List A) (x : A) → Contains xs x → (i : ℕ) × (slice_get xs i ≡ Some x)
stands xs x (i, below, is) = (i, slice_get-get_or xs i x below ∙ ap Some is)

-- ---- an acknowledged line

begun_safe : (begun later : Life) (steps : List Step) (lines : List (List View)) → Comes begun steps lines later
    → IsSafe begun.past
begun_safe begun _ _ _ (No_step safe sound) = safe
begun_safe begun _ _ _ (Step_taken steps step lines outputs life later comes takes safe sound) =
    begun_safe begun life steps lines comes
begun_safe begun _ _ _ (Step_refused steps step lines fault life later comes refuses safe sound) =
    begun_safe begun life steps lines comes
begun_safe begun _ _ _ (Crashed steps cut lines life later comes crash) = begun_safe begun life steps lines comes

-- its debt is owed after any prefix of its peer's notes that has every acknowledged one in it, or has ended
debt_kept : (past : Past) (rank number : ℕ) (token id : List ℕ) (now : PeerPast) → IsSafe past
    → (made : MadeDebt past rank number token id) → StillOwes made.peer now
    → (state : State) → IsPrefix now.tape.history state → OwesOrEnded now number token id state
debt_kept past rank number token id now safe made owes =
    let note = stands made.peer.tape.history.notes _ made.noted in
    owes.owed note.0 number token id note.1
    (lines_stand past safe rank note.0 number made.peer token id made.line made.here note.1)

pub lines_kept : OverRuns LinesAreKept
lines_kept = λ begun later steps lines comes. λ rank number token id now made here.
    let is = zip_both IsRecovered begun.past.peers later.past.peers rank made.peer now
    (recover_all begun later steps lines comes) made.here here in
    EachLedger-weaker (IsPrefix now.tape.history) (OwesOrEnded now number token id)
    (debt_kept begun.past rank number token id now (begun_safe begun later steps lines comes) made is.owes)
    now.tape.log is.prefix

pub lines_kept_within : LinesAreKeptWithin
lines_kept_within = λ begun life steps lines comes step was now way rank number token id old new made here there.
    let is = moments_recovered begun life steps lines comes step was now way in
    LedgersLeave-weaker (IsPrefix old.tape.history) (OwesOrEnded old number token id)
    (debt_kept begun.past rank number token id old (begun_safe begun life steps lines comes) made
    (zip_both StillOwes begun.past.peers was.peers rank made.peer old is.owes made.here here))
    old.tape.log new.tape.log
    (zip_both StaysPrefix was.peers now.peers rank old new is.prefixes here there)

-- ---- events from the first on

none_done : (begun later : Past) (events : List Event) → AllDo begun events later → events ≡ [] → later ≡ begun
none_done begun _ _ Start is = refl
none_done begun _ _ (Next events event past later does one safe) is = absurd (not_none events event is)

first_done : (begun later : Past) (events : List Event) (event : Event) (rest : List Event) → AllDo begun events later
    → events ≡ event ∷ rest → (mid : Past) × Does event begun mid × AllDo mid rest later
first_done begun _ _ event rest Start is = absurd cc
first_done begun _ _ event rest (Next [] last past later does one safe) is =
    let same : last ≡ event = cc in
    let none : [] ≡ rest = cc in
    let at = none_done begun past [] does refl in (
      later,
      subst (λ (p : Past). Does event p later) at (subst (λ (e : Event). Does e past later) same one),
      subst (λ (es : List Event). AllDo later es later) none Start,
    )
first_done begun _ _ event rest (Next (x ∷ xs) last past later does one safe) is =
    let same : x ∷ xs ≡ event ∷ xs = cc in
    let others : xs ++ last ∷ [] ≡ rest = cc in
    let prefix = first_done begun past (x ∷ xs) event xs does same in (
      prefix.0,
      prefix.1,
      subst (λ (es : List Event). AllDo prefix.0 es later) others (Next xs last past later prefix.2 one safe),
    )

-- ---- a line that is read

-- the peer after this many, and another in its place
get_here : (prefix peers : List PeerPast) (peer : PeerPast)
    → slice_get (prefix ++ peer ∷ peers) (length prefix) ≡ Some peer
get_here [] peers peer = refl
get_here (x ∷ prefix) peers peer = get_here prefix peers peer

set_here : (prefix peers : List PeerPast) (peer new : PeerPast)
    → set (prefix ++ peer ∷ peers) (length prefix) new ≡ prefix ++ new ∷ peers
set_here [] peers peer new = refl
set_here (x ∷ prefix) peers peer new = ap (λ l. x ∷ l) (set_here prefix peers peer new)

-- these peers in place of all; all else is as it was
abbrev with_peers : Past → List PeerPast → Past
with_peers past peers = record past { peers = peers }

module _ (token id : List ℕ) (named : List (List ℕ)) where
  -- the event at a peer that the line names
  owed_here : (prefix peers : List PeerPast) (peer : PeerPast) (past mid : Past)
      → Does (Owes (length prefix) token id) (with_peers past (prefix ++ peer ∷ peers)) mid
      → mid ≡ with_peers past (prefix
      ++ owing_as (owed_as (past.last + 1) peer) (past.last + 1) token id peer ∷ peers)
  owed_here prefix peers peer past mid does =
      let both : Some does.peer ≡ Some peer = sym does.here ∙ get_here prefix peers peer in
      let same : does.peer ≡ peer = cc in
      does.changed
      ∙ ap (λ (p : PeerPast). with_peers past (set (prefix ++ peer ∷ peers) (length prefix)
      (owing_as (owed_as (past.last + 1) p) (past.last + 1) token id p))) same
      ∙ ap (with_peers past) (set_here prefix peers peer _)

  abbrev read_as : (number : ℕ) (peer : PeerPast) (b c : Bool) → PeerPast
  read_as number peer b c = if b && c then owing_as New number token id peer else peer

  owing_is : (number : ℕ) (peer : PeerPast) (c : Bool)
      → owing_as (if c then New else Already) number token id peer ≡ read_as number peer true c
  owing_is number peer true = refl
  owing_is number peer false = refl

  -- once the peers in the prefix have read the line, and this one has become another, those after it read it
  abbrev Behind : (prefix peers : List PeerPast) (past later : Past) → PeerPast → Type 0
  Behind prefix peers past later new = AllDo (with_peers past ((prefix ++ new ∷ []) ++ peers))
      (owes_from (length (prefix ++ new ∷ [])) token id named peers) later
      → later ≡ with_peers past ((prefix ++ new ∷ []) ++ map (read_at (past.last + 1) token id named) peers)

  -- the line at each peer after these
  pub all_read : (prefix peers : List PeerPast) (past later : Past)
      → AllDo (with_peers past (prefix ++ peers)) (owes_from (length prefix) token id named peers) later
      → later ≡ with_peers past (prefix ++ map (read_at (past.last + 1) token id named) peers)
  all_read prefix [] past later does = none_done _ later [] does refl
  all_read prefix (peer ∷ peers) past later does =
      by (is_named named peer) (λ new more. all_read (prefix ++ new ∷ []) peers past later more) does
    where
      behind : (new : PeerPast) → Behind prefix peers past later new
          → AllDo (with_peers past (prefix ++ new ∷ peers)) (owes_from (length prefix + 1) token id named peers) later
          → later ≡ with_peers past (prefix ++ new ∷ map (read_at (past.last + 1) token id named) peers)
      behind new rest more =
          rest (subst (λ (n : ℕ). AllDo (with_peers past ((prefix ++ new ∷ []) ++ peers))
          (owes_from n token id named peers) later) (length_more prefix new)
          (subst (λ (ps : List PeerPast). AllDo (with_peers past ps)
          (owes_from (length prefix + 1) token id named peers) later)
          (sym (append_assoc prefix (new ∷ []) peers)) more))
          ∙ ap (with_peers past) (append_assoc prefix (new ∷ []) (map (read_at (past.last + 1) token id named) peers))

      by : (b : Bool) → ((new : PeerPast) → Behind prefix peers past later new)
          → AllDo (with_peers past (prefix ++ peer ∷ peers))
          (if b then Owes (length prefix) token id ∷ owes_from (length prefix + 1) token id named peers
          else owes_from (length prefix + 1) token id named peers) later
          → later ≡ with_peers past (prefix
          ++ read_as (past.last + 1) peer b (nat_lt (mark_at peer.tape) (past.last + 1))
          ∷ map (read_at (past.last + 1) token id named) peers)
      by true rest all =
          let new = read_as (past.last + 1) peer true (nat_lt (mark_at peer.tape) (past.last + 1)) in
          let first = first_done _ later _ (Owes (length prefix) token id) _ all refl in
          let mid = owed_here prefix peers peer past first.0 first.1 in
          behind new (rest new)
          (subst (λ (p : PeerPast). AllDo (with_peers past (prefix ++ p ∷ peers))
          (owes_from (length prefix + 1) token id named peers) later)
          (owing_is (past.last + 1) peer (nat_lt (mark_at peer.tape) (past.last + 1)))
          (subst (λ (p : Past). AllDo p (owes_from (length prefix + 1) token id named peers) later) mid first.2))
      by false rest all = behind peer (rest peer) all

-- it is reported as new at exactly the peers to which it is new
outputs_are : (number : ℕ) (named : List (List ℕ)) (peers : List PeerPast)
    → reported_new (owed_there number named peers) ≡ new_to number named peers
outputs_are number named [] = refl
outputs_are number named (peer ∷ peers) =
    by (is_named named peer) (nat_lt (mark_at peer.tape) number) (outputs_are number named peers)
  where
    by : (b c : Bool) → reported_new (owed_there number named peers) ≡ new_to number named peers
        → reported_new (if b then (peer.conf.name, if c then New else Already) ∷ owed_there number named peers
        else owed_there number named peers)
        ≡ (if b && c then peer.conf.name ∷ new_to number named peers else new_to number named peers)
    by true true is = ap (λ l. peer.conf.name ∷ l) is
    by true false is = is
    by false true is = is
    by false false is = is

-- what a plan of a line has made of the tapes, and has reported
abbrev Read : List View → Past → Past → Plan → Type 0
Read outputs mid later plan =
    AllDo plan.begun plan.events mid × (outputs ≡ plan.reports mid) × (later ≡ plan.ends mid)

read_again : (life : Life) (outputs : List View) (later : Life) (mid past : Past) (text : Vec ℕ)
    → later ≡ with_past life past → (reading : Reading) → IsReading text.items reading
    → Read outputs mid past (reading_plan reading life.past)
    → WasRead (life.past.last + 1) text.items life outputs later
    ⊎ WasBad (life.past.last + 1) text.items life outputs later
read_again life outputs later mid past text changed (Good token id named) reads (does, said, is) = inl (record {
  token = token;
  id = id;
  named = named;
  reads = reads;
  answers = owed_there (life.past.last + 1) named life.past.peers;
  reports = said;
  new = outputs_are (life.past.last + 1) named life.past.peers;
  changed = changed ∙ ap (with_past life)
      (is ∙ ap (λ (p : Past). with_last p (life.past.last + 1))
      (all_read token id named [] life.past.peers life.past mid does));
})
read_again life outputs later mid past text changed (NotGood fault) reads (does, said, is) = inr (record {
  fault = fault;
  reads = reads;
  reports = said;
  changed = changed ∙ ap (with_past life)
      (is ∙ ap (λ (p : Past). with_last p (life.past.last + 1)) (none_done life.past mid [] does refl));
})

-- a line calls no disk, so that no stop is met in it
reading_quiet : (reading : Reading) (past : Past)
    → AllByRecursion (λ (event : Event). calls_disk event ≡ None) (reading_plan reading past).events
reading_quiet (Good token id named) past =
    owes_all (λ (event : Event). calls_disk event ≡ None) token id (λ rank. refl) 0 named past.peers
reading_quiet (NotGood fault) past = tt

not_met : (text : Vec ℕ) (life : Life) (stop : Armed) (under_way : Past) → Meets (Line text) life stop under_way → ⊥
not_met text life stop under_way meets =
    let fails = meets.failed.fails in
    let is = meets.failed.is_plan.1.2 in
    let quiet = all_at (λ (event : Event). calls_disk event ≡ None) meets.failed.plan.events fails.count fails.event
    (subst (λ (plan : Plan). AllByRecursion (λ (event : Event). calls_disk event ≡ None) plan.events) (sym is)
    (reading_quiet meets.failed.is_plan.1.0 life.past)) fails.here in
    let no = sym quiet ∙ meets.at_tape in cc

took_line : (life later : Life) (outputs : List View) (text : Vec ℕ) → Takes (Line text) life outputs later
    → WasRead (life.past.last + 1) text.items life outputs later
    ⊎ WasBad (life.past.last + 1) text.items life outputs later
took_line life later outputs text (inl (runs, (past, line, changed))) =
    read_again life outputs later line.mid past text
    (changed ∙ ap (λ (running : Bool). record life { past = past; running = running }) (sym runs))
    line.is_plan.1.0 line.is_plan.1.1
    (subst (Read outputs line.mid past) line.is_plan.1.2 (line.does, line.outputs_are, line.later_is))
took_line life later outputs text (inr strikes) =
    absurd (not_met text life strikes.stop strikes.under_way strikes.meets)

pub lines_read_again : LinesAreReadAgain
lines_read_again = took_line
