-- The steps on tapes (docs/FORMATS.md). Each has a plan: a list of events, from the step and the tapes before it. Room
-- for what a step reports is made first, so that memory is refused before any of its events, or by one of them; only a
-- restart makes that room last.
use Rattle.std.specs.Prelude.{◌≡◌, ◌≢◌, ◌⊎◌, ◌+◌, ◌<◌, ◌^◌, ℕ, true, false, if◌then◌else◌, None, Some, List, [], ◌∷◌}
use Rattle.std.specs.Prelude.{◌++◌, Bool, length, map, take}
use Rattle.std.specs.List.{AllByRecursion, list_any}
use Rattle.std.specs.Str.{bytes_eq}
use Rattle.funnel.specs.Line.{IsFunnelLine, HasFault}
use Rattle.funnel.specs.declared.line.LineFault.{LineFault}
use Rattle.funnel.specs.declared.line.LineFault.TheVariants.{NoMemory as NoLineMemory}
use Rattle.peer_queue.specs.declared.limits.Owed.{Owed as Answer}
use Rattle.sections.specs.Tapes.{mark_at}
use Rattle.world_core.specs.Past.{Past, PeerPast, rank_of, with_last}
use Rattle.world_core.specs.Events.{Acknowledges, AllDo, Event, Fails, Owes, Parts, Rotates, Sees, Sheds, each_rank}
use Rattle.world_core.specs.Events.{import_mark_at, open_source, owed_as}
use Rattle.world_core.specs.Halts.{restart_events}
use Rattle.world_core.specs.Imports.{IsImport, count_new}
use Rattle.world_core.specs.Output.{Bad, Imported, Owed, Rotated, View, Shed as SaidShed, Taken, mark_view}
use Rattle.world_core.specs.declared.fault.Fault.{Fault}
use Rattle.world_core.specs.declared.fault.Fault.TheVariants.{CountFull, NoMemory, NoPeer, NotFlushed, Running, Stopped}
use Rattle.world_core.specs.declared.step.Step.{Step}
use Rattle.world_core.specs.declared.step.Step.TheVariants.{Begin, Flush, Import, Line, Part, Restart, Rotate, Seal}
use Rattle.world_core.specs.declared.step.Step.TheVariants.{Shed}

-- ---- lists of events

-- a line names the peer
abbrev pub is_named : List (List ℕ) → PeerPast → Bool
is_named named peer = list_any (λ (name : List ℕ). bytes_eq name peer.conf.name) named

-- the line at each peer that it names, from this rank on
abbrev pub owes_from : ℕ → List ℕ → List ℕ → List (List ℕ) → List PeerPast → List Event
owes_from rank token id named [] = []
owes_from rank token id named (peer ∷ peers) =
    if is_named named peer then Owes rank token id ∷ owes_from (rank + 1) token id named peers
    else owes_from (rank + 1) token id named peers

-- the line at each peer that it names, in byte order of their names
abbrev pub line_events : List ℕ → List ℕ → List (List ℕ) → Past → List Event
line_events token id named past = owes_from 0 token id named past.peers

-- what becomes of a line of this number at each of them
abbrev pub owed_there : ℕ → List (List ℕ) → List PeerPast → List (List ℕ × Answer)
owed_there number named [] = []
owed_there number named (peer ∷ peers) =
    if is_named named peer then (peer.conf.name, owed_as number peer) ∷ owed_there number named peers
    else owed_there number named peers

-- the note of a number, and the flush of the intake's tape
abbrev pub seal_events : ℕ → List Event
seal_events number = Sees number ∷ Acknowledges ∷ []

-- the flush of each peer in turn, and then the seal of the last line's number
abbrev pub flush_events : Past → List Event
flush_events past = each_rank Parts (length past.peers) ++ seal_events past.last

-- ---- begin and seal

-- the last line's number is kept, and no peer was flushed since
abbrev pub begun_at : Past → Past
begun_at past = record past {
  peers = map (λ (peer : PeerPast). record peer { parted = false }) past.peers;
  begun = Some past.last;
}

-- this number is kept, and each peer was flushed since
abbrev pub IsSealable : Past → ℕ → Type 0
IsSealable past number = (past.begun ≡ Some number)
    × AllByRecursion (λ (peer : PeerPast). peer.parted ≡ true) past.peers

-- ---- what a line contains

-- an article and the peers that are to have it, or why the line is malformed
pub data Reading : Type 0 where
  Good : (token id : List ℕ) (named : List (List ℕ)) → Reading
  NotGood : (fault : LineFault) → Reading

abbrev pub IsReading : List ℕ → Reading → Type 0
IsReading text (Good token id named) = IsFunnelLine text token id named
IsReading text (NotGood fault) = HasFault text fault × (fault ≢ NoLineMemory)

-- ---- plans

-- A plan of a step: the tapes at which it begins, and its events, in order; then what the step makes of the tapes that
-- the last event leaves, and what it reports of them.
pub record Plan : Type 0 where
  pub begun : Past
  pub events : List Event
  pub ends : Past → Past
  pub reports : Past → List View

-- these events, after which nothing else happens
abbrev pub planned : Past → List Event → (Past → List View) → Plan
planned begun events reports = record {
  begun = begun;
  events = events;
  ends = λ (past : Past). past;
  reports = reports;
}

-- the events of a line, after which it has its number
abbrev pub numbered : Past → List Event → View → Plan
numbered past events said = record {
  begun = past;
  events = events;
  ends = λ (later : Past). with_last later (past.last + 1);
  reports = λ (later : Past). said ∷ [];
}

-- the plan of a line that is read so
abbrev pub reading_plan : Reading → Past → Plan
reading_plan (Good token id named) past =
    numbered past (line_events token id named past) (Owed (past.last + 1) (owed_there (past.last + 1) named past.peers))
reading_plan (NotGood fault) past = numbered past [] (Bad (past.last + 1) fault)

-- what a seal reports
abbrev pub seal_view : Past → List View
seal_view past = Taken (mark_at past.intake) ∷ []

-- A plan of a step on tapes; no other step has one. Plans of one step differ only in the numbers that are shed, or in
-- the generation in which a rotation ends: if the event is taken, it says which; and no refusal looks at it.
abbrev pub IsPlan : Step → Past → Plan → Type 0
IsPlan (Line text) past plan = (past.last + 1 < 2 ^ 64)
    × ((reading : Reading) × IsReading text.items reading × (plan ≡ reading_plan reading past))
IsPlan Flush past plan = plan ≡ planned (begun_at past) (flush_events past) seal_view
IsPlan Begin past plan = plan ≡ planned (begun_at past) [] (λ (later : Past). [])
IsPlan (Part name) past plan = (rank : ℕ) × (rank_of past name ≡ Some rank)
    × (plan ≡ planned past (Parts rank ∷ []) (λ (later : Past). []))
IsPlan Seal past plan = (number : ℕ) × IsSealable past number × (plan ≡ planned past (seal_events number) seal_view)
IsPlan (Shed name) past plan = (rank : ℕ) × (rank_of past name ≡ Some rank)
    × ((numbers : List ℕ)
    × (plan ≡ planned past (Sheds rank numbers ∷ []) (λ (later : Past). SaidShed name numbers ∷ [])))
IsPlan (Rotate name) past plan = (rank : ℕ) × (rank_of past name ≡ Some rank)
    × ((generation : ℕ)
    × (plan ≡ planned past (Rotates rank generation ∷ []) (λ (later : Past). Rotated name generation ∷ [])))
IsPlan (Import name text) past plan = (events : List Event) × (is : IsImport name text.items past events)
    × (plan ≡ planned past events (λ (later : Past).
    Imported name (open_source is.peer) (count_new (import_mark_at is.peer) is.lines) ∷ []))
IsPlan Restart past plan = plan ≡ planned past (restart_events past) (λ (later : Past). map mark_view later.peers)
IsPlan step past plan = ⊥

-- ---- why a step is refused before any of its events

-- no peer has the name; or one has it, and memory is refused for what its step reports
abbrev pub IsBarredAt : List ℕ → Past → Fault → Type 0
IsBarredAt name past fault = ((fault ≡ NoPeer) × (rank_of past name ≡ None))
    ⊎ ((fault ≡ NoMemory) × ((rank : ℕ) × (rank_of past name ≡ Some rank)))

-- No number is left for a line; no peer has the name; a number cannot be sealed; or memory is refused for what the step
-- reports.
abbrev pub IsBarred : Step → Past → Fault → Type 0
IsBarred (Line text) past fault = ((fault ≡ CountFull) × (past.last + 1 ≡ 2 ^ 64))
    ⊎ ((fault ≡ NoMemory) × (past.last + 1 < 2 ^ 64))
IsBarred Flush past fault = fault ≡ NoMemory
IsBarred (Part name) past fault = (fault ≡ NoPeer) × (rank_of past name ≡ None)
IsBarred Seal past fault = ((fault ≡ NotFlushed) × ((number : ℕ) → IsSealable past number → ⊥))
    ⊎ ((fault ≡ NoMemory) × ((number : ℕ) × IsSealable past number))
IsBarred (Shed name) past fault = IsBarredAt name past fault
IsBarred (Rotate name) past fault = IsBarredAt name past fault
IsBarred (Import name text) past fault = IsBarredAt name past fault
IsBarred step past fault = ⊥

-- a restart needs a world that has stopped, and any other step one that runs
abbrev pub must_run : Step → Bool
must_run Restart = false
must_run step = true

-- the fault of a step in any other world
abbrev pub off_fault : Step → Fault
off_fault Restart = Running
off_fault step = Stopped

-- ---- what each step makes of all tapes, and how it is refused

-- all events of a plan were done, and the step reports what the plan says
pub record TakesPlan (step : Step) (past : Past) (outputs : List View) (later : Past) : Type 0 where
  pub plan : Plan
  pub is_plan : IsPlan step past plan
  pub mid : Past
  pub does : AllDo plan.begun plan.events mid
  pub outputs_are : outputs ≡ plan.reports mid
  pub later_is : later ≡ plan.ends mid

-- an event of a plan was refused, and those before it stand
pub record FailsPlan (step : Step) (past : Past) (fault : Fault) (later : Past) : Type 0 where
  pub plan : Plan
  pub is_plan : IsPlan step past plan
  pub fails : Fails plan.begun plan.events fault later

-- or, in a restart, memory was refused after some of its events, which stand
pub record LacksRoom (step : Step) (past : Past) (fault : Fault) (later : Past) : Type 0 where
  pub restarts : must_run step ≡ false
  pub memory : fault ≡ NoMemory
  pub plan : Plan
  pub is_plan : IsPlan step past plan
  pub count : ℕ
  pub does : AllDo plan.begun (take count plan.events) later

-- the step was refused before any event, or at one, or after some
abbrev pub RefusesPlan : Step → Past → Fault → Past → Type 0
RefusesPlan step past fault later = (IsBarred step past fault × (later ≡ past))
    ⊎ FailsPlan step past fault later
    ⊎ LacksRoom step past fault later
