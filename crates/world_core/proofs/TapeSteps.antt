-- The steps on tapes, from their events.
use Rattle.std.proofs.Common.{◌≡◌, ℕ, zero, suc, ◌+◌, ◌<◌, true, false, Option, None, Some, List}
use Rattle.std.proofs.Common.{[], ◌∷◌, ◌++◌, length, take, map, refl, sym, ap, ◌∙◌, subst, inl, inr, arith, add-one}
use Rattle.std.proofs.Common.{cond, not}
use Rattle.std.specs.Prelude.{nat_lt}
use Rattle.std.specs.Global.{Vec}
use Rattle.std.specs.List.{AllByRecursion, AllZip, position, prefix_len, slice_get}
use Rattle.std.specs.Str.{bytes_eq}
use Rattle.std.proofs.Math.ListN.{set}
use Rattle.std.proofs.lemmas.List.{length-map, length-set, take_all}
use Rattle.disk_model.specs.declared.Disk.{Ghosts}
use Rattle.recovery.specs.Words.{ledger_of}
use Rattle.sections.specs.ListLaws.{all_at}
use Rattle.sections.specs.Tapes.{TapePast}
use Rattle.world_core.specs.Past.{Past, PeerPast, rank_of}
use Rattle.world_core.specs.Output.{Rotated as SaidRotated, View, Shed as SaidShed, Taken as SaidTaken, view_of}
use Rattle.recovery.specs.declared.fault.TapeFault.TheVariants.{Disk}
use Rattle.world_core.specs.Tapes.{RefusesNote}
use Rattle.world_core.specs.Events.{Acknowledges, Event, Fails, Parts, Refuses, Sees, calls_disk, each_rank, parted}
use Rattle.world_core.specs.Steps.{IsBarred, IsPlan, IsSealable, Plan, begun_at, flush_events, planned, seal_events}
use Rattle.world_core.specs.Steps.{seal_view}
use Rattle.world_core.specs.Stands.{DidOne, FailedOne, PeerStands, Stands}
use Rattle.world_core.specs.Stepped.{Did, Failed, FailedAt, HaltedAs, PartedEach, TookTapes, TookNot}
use Rattle.world_core.specs.declared.fault.Fault.{Fault}
use Rattle.world_core.specs.declared.fault.Fault.TheVariants.{NoMemory, Tape}
use Rattle.world_core.specs.declared.fault.Halt.{Halt}
use Rattle.world_core.specs.declared.peer.Peer.{Peer}
use Rattle.world_core.specs.declared.stations.Stations.{Stations}
use Rattle.world_core.specs.declared.step.Step.{Step}
use Rattle.world_core.specs.declared.step.Step.TheVariants.{Flush}
use Rattle.world_core.specs.declared.output.Output.{Output}
use Rattle.world_core.specs.declared.output.Output.TheVariants.{Rotated as OutputRotated, Shed as OutputShed}
use Rattle.world_core.specs.declared.output.Output.TheVariants.{Taken as OutputTaken}
use Rattle.world_core.proofs.EventLists.{did_more, did_none, did_one, did_then, each_more, each_split, failed_before}
use Rattle.world_core.proofs.EventLists.{failed_next, failed_one, failed_then}
use Rattle.world_core.proofs.IntakeSees.{mark_is}
use Rattle.world_core.proofs.RelatedLists.{zip_length}

-- an element that was put into an empty list
pub pushed : {A : Type 0} (old new : List A) (x : A) → new ≡ old ++ x ∷ [] → old ≡ [] → new ≡ x ∷ []
pushed old new x more none = more ∙ ap (λ l. l ++ x ∷ []) none

-- what is reported of a shedding, and of a rotation
pub shed_said : (name own : List ℕ) (numbers : Vec ℕ) (outputs : List Output) → own ≡ name → outputs
    ≡ OutputShed own numbers ∷ []
    → map view_of outputs ≡ SaidShed name numbers.items ∷ []
shed_said name own numbers outputs is reports =
    ap (map view_of) reports ∙ ap (λ (n : List ℕ). SaidShed n numbers.items ∷ []) is

pub rotate_said : (name own : List ℕ) (generation : ℕ) (outputs : List Output) → own ≡ name
    → outputs ≡ OutputRotated own generation ∷ []
    → map view_of outputs ≡ SaidRotated name generation ∷ []
rotate_said name own generation outputs is reports =
    ap (map view_of) reports ∙ ap (λ (n : List ℕ). SaidRotated n generation ∷ []) is

-- ---- all are flushed

all_taken : {A : Type 0} (P : A → Type 0) (xs : List A) (k : ℕ) (x y : A) → AllByRecursion P (take k xs)
    → slice_get xs k ≡ Some x → P y
    → AllByRecursion P (take (suc k) (set xs k y))
all_taken P [] k x y all here one = absurd cc
all_taken P (a ∷ xs) zero x y all here one = (one, tt)
all_taken P (a ∷ xs) (suc k) x y all here one = (all.0, all_taken P xs k x y all.1 here one)

flush_is : (past : Past) (number : ℕ) → number ≡ past.last
    → each_rank Parts (length (begun_at past).peers) ++ seal_events number ≡ flush_events past
flush_is past number is =
    ap (λ (n : ℕ). each_rank Parts n ++ seal_events number)
    (length-map past.peers (λ (peer : PeerPast). record peer { parted = false }))
    ∙ ap (λ (n : ℕ). each_rank Parts (length past.peers) ++ seal_events n) is

-- a note is never refused for a failing disk
pub note_not : (tape : TapePast) → RefusesNote tape (Tape Disk) → ⊥
note_not tape (inl broken) = absurd (let no = broken.0 in cc)
note_not tape (inr (inl full)) = absurd (let no = full.0 in cc)
note_not tape (inr (inr memory)) = absurd (let no = memory.0 in cc)

-- if a failing disk refuses the event, it is at this tape
abbrev pub FailsOnlyAt : Option ℕ → Event → Type 0
FailsOnlyAt rank event = (mid later : Past) → Refuses event mid (Tape Disk) later → calls_disk event ≡ Some rank

pub fails_there : (rank : Option ℕ) (past later : Past) (events : List Event) (fault : Fault)
    → AllByRecursion (FailsOnlyAt rank) events → fault ≡ Tape Disk → (fails : Fails past events fault later)
    → calls_disk fails.event ≡ Some rank
fails_there rank past later events fault only disk fails =
    all_at (FailsOnlyAt rank) events fails.count fails.event only fails.here fails.mid later
    (subst (λ (f : Fault). Refuses fails.event fails.mid f later) disk fails.refused)

-- of a seal, only the flush of the intake's tape is
pub seal_only : (number : ℕ) → AllByRecursion (FailsOnlyAt None) (seal_events number)
seal_only number = (
  (λ mid later refused. absurd (note_not mid.intake refused.refused.1)),
  ((λ mid later refused. refl), tt),
)

-- the plan of a flush
abbrev flush_plan : Past → ℕ → Plan
flush_plan past number =
    planned (begun_at past) (each_rank Parts (length (begun_at past).peers) ++ seal_events number) seal_view

is_flush : (past : Past) (number : ℕ) → number ≡ past.last → IsPlan Flush past (flush_plan past number)
is_flush past number is =
    ap (λ (events : List Event). planned (begun_at past) events seal_view) (flush_is past number is)

-- ---- the plan of a step

module _ {D : Type 0} {g : Ghosts D} where
  pub took_by : (step : Step) (past begun : Past) (events : List Event) (reports : Past → List View)
      (outputs : List Output) (stations : Stations D g)
      → IsPlan step past (planned begun events reports) → (did : Did begun events stations)
      → map view_of outputs ≡ reports did.later → TookTapes step past outputs stations
  took_by step past begun events reports outputs stations is did said = record {
    later = did.later;
    takes = record {
      plan = planned begun events reports;
      is_plan = is;
      mid = did.later;
      does = did.does;
      outputs_are = said;
      later_is = refl;
    };
    stands = did.stands;
  }

  abbrev pub failed_by : (step : Step) (past : Past) (plan : Plan) (fault : Fault) (stations : Stations D g)
      → IsPlan step past plan → Failed plan.begun plan.events fault stations → TookNot step past fault stations
  failed_by step past plan fault stations is failed = record {
    later = failed.later;
    refuses = inr (inl (record { plan = plan; is_plan = is; fails = failed.fails }));
    stands = failed.stands;
  }

  abbrev pub barred_by : (step : Step) (past : Past) (fault : Fault) (stations : Stations D g)
      → IsBarred step past fault → Stands stations past → TookNot step past fault stations
  barred_by step past fault stations barred stands =
      record { later = past; refuses = inl (barred, refl); stands = stands }

  -- if a disk failed, it was at the tape of the halt
  pub halted_by : (step : Step) (past : Past) (plan : Plan) (halt : Halt) (stations : Stations D g)
      → IsPlan step past plan → (failed : Failed plan.begun plan.events halt.fault stations)
      → (halt.fault ≡ Tape Disk → calls_disk failed.fails.event ≡ Some halt.rank) → HaltedAs step past halt stations
  halted_by step past plan halt stations is failed at = record {
    refused = failed_by step past plan halt.fault stations is failed;
    disk = λ disk.
        record { failed = record { plan = plan; is_plan = is; fails = failed.fails }; at = at disk };
  }

  -- ---- a flush

  pub parted_none : (past : Past) (stations : Stations D g) → Stands stations past → PartedEach past 0 stations
  parted_none past stations stands =
      record { did = did_none past stations stands; begun = refl; all = refl; parted = tt }

  pub parted_more : (past : Past) (count : ℕ) (old new : Stations D g) → (each : PartedEach past count old)
      → DidOne each.did.later (Parts count) new → PartedEach past (count + 1) new
  parted_more past count old new each one = record {
    did = did_more past (each_rank Parts count) (each_rank Parts (count + 1)) (Parts count) old new
        (each_more Parts count) each.did one;
    begun = ap (λ (p : Past). p.begun) one.does.changed ∙ each.begun;
    all = ap (λ (p : Past). length p.peers) one.does.changed ∙ length-set each.did.later.peers count _ ∙ each.all;
    parted =
        subst (λ (p : Past). AllByRecursion (λ (peer : PeerPast). peer.parted ≡ true) (take (count + 1) p.peers))
        (sym one.does.changed)
        (subst (λ (n : ℕ). AllByRecursion (λ (peer : PeerPast). peer.parted ≡ true)
        (take n (set each.did.later.peers count (parted one.does.peer one.does.tape))))
        (sym (add-one count)) (all_taken (λ (peer : PeerPast). peer.parted ≡ true) each.did.later.peers count
        one.does.peer _ each.parted one.does.here refl));
  }

  pub parted_failed : (past : Past) (count all : ℕ) (fault : Fault) (old new : Stations D g) → count < all
      → (each : PartedEach past count old)
      → FailedOne each.did.later (Parts count) fault new
      → FailedAt past (each_rank Parts all) (record { rank = Some count; fault = fault }) new
  parted_failed past count all fault old new within each one =
      let split = each_split Parts all count within in
      subst (λ (es : List Event). FailedAt past es (record { rank = Some count; fault = fault }) new) (sym split.1)
      (record {
        failed = failed_next past (each_rank Parts count) (Parts count) split.0 fault old new each.did one;
        at = refl;
      })

  -- each peer was flushed, so that the kept number may be sealed
  sealable_each : (past : Past) (number : ℕ) (stations : Stations D g) → past.begun ≡ Some number
      → (each : PartedEach past (length past.peers) stations) → IsSealable each.did.later number
  sealable_each past number stations begun each = (
    each.begun ∙ begun,
    subst (AllByRecursion (λ (peer : PeerPast). peer.parted ≡ true))
        (take_all (length past.peers) each.did.later.peers (omega (arith, each.all))) each.parted,
  )

  pub sealable_begun : (past : Past) (number : ℕ) (stations : Stations D g)
      → (each : PartedEach (begun_at past) (length (begun_at past).peers) stations) → number ≡ past.last
      → IsSealable each.did.later number
  sealable_begun past number stations each is = sealable_each (begun_at past) number stations (ap Some (sym is)) each

  -- ---- a seal

  pub seal_failed_first : (past : Past) (number : ℕ) (fault : Fault) (stations : Stations D g)
      → FailedOne past (Sees number) fault stations
      → Failed past (seal_events number) fault stations
  seal_failed_first past number fault stations one =
      failed_before past (Sees number ∷ []) (Acknowledges ∷ []) fault stations
      (failed_one past (Sees number) fault stations one)

  module _ (past : Past) (number : ℕ) (old new : Stations D g) (one : DidOne past (Sees number) old) where
    pub sealed : DidOne one.later Acknowledges new → Did past (seal_events number) new
    sealed two = did_then past (Sees number ∷ []) (Acknowledges ∷ []) old new (did_one past (Sees number) old one)
        (did_one one.later Acknowledges new two)

    pub seal_failed_second : (fault : Fault) → FailedOne one.later Acknowledges fault new
        → Failed past (seal_events number) fault new
    seal_failed_second fault two =
        failed_then past (Sees number ∷ []) (Acknowledges ∷ []) fault old new (did_one past (Sees number) old one)
        (failed_one one.later Acknowledges fault new two)

  -- what a seal reports, and a flush
  pub seal_reports : (past : Past) (mark : ℕ) (outputs : List Output) (stations : Stations D g)
      → Stands stations past → mark ≡ (ledger_of stations.intake).mark → outputs ≡ OutputTaken mark ∷ []
      → map view_of outputs ≡ seal_view past
  seal_reports past mark outputs stations stands is reports =
      ap (map view_of) reports
      ∙ ap (λ (m : ℕ). SaidTaken m ∷ []) (is ∙ mark_is past.intake stations.intake stands.intake)

  -- ---- all are flushed, and the number is sealed

  pub flush_memory : (past : Past) (halt : Halt) (stations : Stations D g) → halt.fault ≡ NoMemory
      → Stands stations past → HaltedAs Flush past halt stations
  flush_memory past halt stations memory stands = record {
    refused = barred_by Flush past halt.fault stations memory stands;
    disk = λ fails. absurd (let no = sym memory ∙ fails in cc);
  }

  pub flush_failed_part : (past : Past) (halt : Halt) (stations : Stations D g)
      → FailedAt (begun_at past) (each_rank Parts (length (begun_at past).peers)) halt stations
      → HaltedAs Flush past halt stations
  flush_failed_part past halt stations one =
      halted_by Flush past (flush_plan past past.last) halt stations (is_flush past past.last refl)
      (failed_before (begun_at past) (each_rank Parts (length (begun_at past).peers)) (seal_events past.last)
      halt.fault stations one.failed) (λ disk. one.at)

  module _ (past : Past) (number : ℕ) (old new : Stations D g)
      (each : PartedEach (begun_at past) (length (begun_at past).peers) old) (is : number ≡ past.last) where
    pub flush_failed_seal : (fault : Fault) → Failed each.did.later (seal_events number) fault new
        → HaltedAs Flush past (record { rank = None; fault = fault }) new
    flush_failed_seal fault failed =
        halted_by Flush past (flush_plan past number) (record { rank = None; fault = fault }) new
        (is_flush past number is)
        (failed_then (begun_at past) (each_rank Parts (length (begun_at past).peers)) (seal_events number) fault old
        new each.did failed)
        (λ disk. fails_there None each.did.later failed.later (seal_events number) fault (seal_only number) disk
        failed.fails)

    pub flush_took : (mark : ℕ) (outputs : List Output) → Did each.did.later (seal_events number) new
        → mark ≡ (ledger_of new.intake).mark
        → outputs ≡ OutputTaken mark ∷ [] → TookTapes Flush past outputs new
    flush_took mark outputs did marks reports =
        took_by Flush past (begun_at past) (each_rank Parts (length (begun_at past).peers) ++ seal_events number)
        seal_view outputs new (is_flush past number is)
        (did_then (begun_at past) (each_rank Parts (length (begun_at past).peers)) (seal_events number) old new
        each.did did) (seal_reports did.later mark outputs new did.stands marks reports)

  -- ---- the step of one peer

  same_rank : (name : List ℕ) (pasts : List PeerPast) (peers : List (Peer D g)) → AllZip PeerStands pasts peers
      → prefix_len (λ (peer : PeerPast). not (bytes_eq peer.conf.name name)) pasts
      ≡ prefix_len (λ (peer : Peer D g). not (bytes_eq peer.conf.name name)) peers
  same_rank name [] [] all = refl
  same_rank name [] (peer ∷ peers) all = absurd all
  same_rank name (past ∷ pasts) [] all = absurd all
  same_rank name (past ∷ pasts) (peer ∷ peers) all =
      ap (λ conf. cond (not (bytes_eq conf.name name))
      (1 + prefix_len (λ (p : PeerPast). not (bytes_eq p.conf.name name)) pasts) 0) (sym all.0.conf)
      ∙ ap (λ n. cond (not (bytes_eq peer.conf.name name)) (1 + n) 0) (same_rank name pasts peers all.1)

  pub rank_same : (name : List ℕ) (past : Past) (stations : Stations D g) → Stands stations past
      → rank_of past name ≡ position (λ (peer : Peer D g). bytes_eq peer.conf.name name) stations.peers.items
  rank_same name past stations stands =
      let before = same_rank name past.peers stations.peers.items stands.peers in
      let long = zip_length PeerStands past.peers stations.peers.items stands.peers in
      ap (λ n. cond (nat_lt n (length past.peers)) (Some n) None) before
      ∙ ap (λ n. cond (nat_lt (prefix_len (λ (peer : Peer D g). not (bytes_eq peer.conf.name name))
      stations.peers.items) n)
      (Some (prefix_len (λ (peer : Peer D g). not (bytes_eq peer.conf.name name)) stations.peers.items)) None) long
