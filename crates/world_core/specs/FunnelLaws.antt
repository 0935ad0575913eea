-- From the funnel's lines to the disks, over whole runs of a world (profile): which line names which peers, and what a
-- run owes of it. Lines may be read again after a restart: the funnel gives the same text for the same number.
use Rattle.std.specs.Prelude.{◌≡◌, ◌+◌, ◌<◌, ◌≤◌, ℕ, true, Some, List, take, slice_get, Contains}
use Rattle.std.specs.List.{AllByRecursion}
use Rattle.feed_conf.specs.declared.conf.PeerConf.{PeerConf}
use Rattle.funnel.specs.Line.{IsFunnelLine}
use Rattle.ledger_core.specs.declared.note.Note.TheVariants.{Owe}
use Rattle.ledger_core.specs.Keys.{IsLine}
use Rattle.ledger_core.specs.State.{State}
use Rattle.recovery.specs.Leaving.{EachLedger, IsPrefix, LedgersLeave}
use Rattle.recovery.specs.Notes.{begun as no_history}
use Rattle.sections.specs.Tapes.{OwesOrEnded}
use Rattle.world_core.specs.Past.{Life, Past, PeerPast}
use Rattle.world_core.specs.Crashes.{IsUnderWay}
use Rattle.world_core.specs.Laws.{Comes, IsAcknowledgedLine}
use Rattle.world_core.specs.Laws.Comes.{No_step, Step_taken, Step_refused, Crashed}
use Rattle.world_core.specs.Making.{Begins}
use Rattle.world_core.specs.Output.{Taken, View}
use Rattle.world_core.specs.Runs.{Takes}
use Rattle.world_core.specs.Steps.{is_named}
use Rattle.world_core.specs.declared.step.Step.{Step}
use Rattle.world_core.specs.declared.step.Step.TheVariants.{Line}
use Rattle.world_core.specs.declared.world.World.{World}

-- ---- a run over the lines of a funnel

-- the texts of a funnel's lines by their numbers, from 1 up, each without its LF
abbrev pub Funnel : Type 0
Funnel = ℕ → List ℕ

-- a step of this world goes by the funnel: a line that it reads is the next one, after the last
abbrev pub StepGoesBy : Funnel → Life → Step → Type 0
StepGoesBy funnel life (Line text) = text.items ≡ funnel (life.past.last + 1)
StepGoesBy funnel life step = Unit {0}

-- A run goes by the funnel: each of its steps does, in the world in which it was taken, refused or cut off.
abbrev pub GoesBy : (funnel : Funnel) (begun : Life) (steps : List Step) (lines : List (List View)) (later : Life)
    → Comes begun steps lines later → Type 0
GoesBy funnel begun _ _ _ (No_step safe sound) = Unit {0}
GoesBy funnel begun _ _ _ (Step_taken steps step lines outputs life later comes takes safe sound) =
    GoesBy funnel begun steps lines life comes × StepGoesBy funnel life step
GoesBy funnel begun _ _ _ (Step_refused steps step lines fault life later comes refuses safe sound) =
    GoesBy funnel begun steps lines life comes × StepGoesBy funnel life step
GoesBy funnel begun _ _ _ (Crashed steps cut lines life later comes crash) =
    GoesBy funnel begun steps lines life comes × AllByRecursion (StepGoesBy funnel life) cut

-- the spool is empty: nothing was ever noted on any tape, and no line was read
pub record IsEmpty (life : Life) : Type 0 where
  pub peers : AllByRecursion (λ (peer : PeerPast). peer.tape.history ≡ no_history) life.past.peers
  pub intake : life.past.intake.history ≡ no_history
  pub last : life.past.last ≡ 0

-- The line of this number is a good line, of this token and message-id, and the peer's name is among those that it
-- names.
pub record NamesPeer (funnel : Funnel) (number : ℕ) (token id : List ℕ) (peer : PeerPast) : Type 0 where
  pub above : 0 < number
  pub named : List (List ℕ)
  pub reads : IsFunnelLine (funnel number) token id named
  pub names : is_named named peer ≡ true

-- ---- what is owed of a line

-- the line's debt is among the peer's acknowledged notes
pub record HasAcknowledgedDebt (number : ℕ) (token id : List ℕ) (peer : PeerPast) : Type 0 where
  pub index : ℕ
  pub noted : slice_get peer.tape.history.notes index ≡ Some (Owe number token id)
  pub below : index < peer.tape.history.kept

-- This ledger is that of a prefix of the peer's notes, with every acknowledged one in it. The line's debt is owed
-- there, unless that prefix has a final answer to it or a drop of it.
pub record OwesLine (number : ℕ) (token id : List ℕ) (peer : PeerPast) (state : State) : Type 0 where
  pub prefix : IsPrefix peer.tape.history state
  pub owes : OwesOrEnded (take prefix.count peer.tape.history.notes) number token id state

-- P holds of each line up to this number, with its token and message-id, and each peer that it names, by its rank
abbrev pub OfLines : Funnel → Past → ℕ
    → ((rank number : ℕ) (token id : List ℕ) → PeerPast → Type 0) → Type 0
OfLines funnel past mark P = (rank number : ℕ) (token id : List ℕ) (peer : PeerPast) → number ≤ mark
    → slice_get past.peers rank ≡ Some peer → NamesPeer funnel number token id peer → P rank number token id peer

-- whatever a stop leaves of that peer's tape owes the line, in that sense
abbrev pub OwesUpTo : Funnel → Past → ℕ → Type 0
OwesUpTo funnel past mark = OfLines funnel past mark (λ rank number token id peer.
    EachLedger (OwesLine number token id peer) peer.tape.log)

-- the same at each moment while the second of these tapes comes of the first
abbrev pub OwesUpToWithin : Funnel → Past → Past → ℕ → Type 0
OwesUpToWithin funnel was now mark = OfLines funnel was mark (λ rank number token id old.
    (new : PeerPast) → slice_get now.peers rank ≡ Some new
    → LedgersLeave (OwesLine number token id old) old.tape.log new.tape.log)

-- this holds of any funnel, and of any world that a run has made which goes by it, from an empty spool on
abbrev pub OverFunnels : (Funnel → Life → Type 0) → Type 0
OverFunnels P = (funnel : Funnel) (begun later : Life) (steps : List Step) (lines : List (List View))
    (comes : Comes begun steps lines later) → IsEmpty begun → GoesBy funnel begun steps lines later comes
    → P funnel later

-- the debt of an acknowledged line is acknowledged at each peer that the line names
abbrev pub DebtsAreAcknowledged : Funnel → Life → Type 0
DebtsAreAcknowledged funnel life = (rank number : ℕ) (token id : List ℕ) (peer : PeerPast)
    → IsAcknowledgedLine life.past number → slice_get life.past.peers rank ≡ Some peer
    → NamesPeer funnel number token id peer → HasAcknowledgedDebt number token id peer

-- each debt of a line that a peer has noted is of the line of that number, which names the peer
abbrev pub DebtsAreOfLines : Funnel → Life → Type 0
DebtsAreOfLines funnel life = (rank index key : ℕ) (token id : List ℕ) (peer : PeerPast)
    → slice_get life.past.peers rank ≡ Some peer
    → slice_get peer.tape.history.notes index ≡ Some (Owe key token id) → IsLine key
    → NamesPeer funnel key token id peer

-- each line up to the mark that a stop may leave on the intake's tape
abbrev pub FunnelIsOwed : Funnel → Life → Type 0
FunnelIsOwed funnel life = EachLedger (λ (seen : State). OwesUpTo funnel life.past seen.mark) life.past.intake.log

-- while a step that goes by the funnel is under way, whichever it is
abbrev pub FunnelIsOwedWithin : Funnel → Life → Type 0
FunnelIsOwedWithin funnel life = (step : Step) (was now : Past) → StepGoesBy funnel life step
    → IsUnderWay step life was now
    → LedgersLeave (λ (seen : State). OwesUpToWithin funnel was now seen.mark) was.intake.log now.intake.log

-- a world that `World::new` has made is such
abbrev pub EmptyAtFirst : Type 0
EmptyAtFirst = (peers : List PeerConf) (world : World) (begins : Begins peers world) → IsEmpty begins.life

-- ---- what was reported

-- Each image of the intake's tape has a mark at or above this number, so that the lines up to it are acknowledged.
pub record IsTaken (taken : ℕ) (past : Past) : Type 0 where
  pub marks : EachLedger (λ (seen : State). taken ≤ seen.mark) past.intake.log
  pub lines : (number : ℕ) → number ≤ taken → IsAcknowledgedLine past number

-- a step that reports `taken N` leaves such a world
abbrev pub TakenIsAcknowledged : Type 0
TakenIsAcknowledged = (step : Step) (life later : Life) (outputs : List View) (taken : ℕ)
    → Takes step life outputs later → Contains outputs (Taken taken) → IsTaken taken later.past

-- some step reported `taken` of this number
pub record ReportsTaken (taken : ℕ) (lines : List (List View)) : Type 0 where
  pub outputs : List View
  pub among : Contains lines outputs
  pub reports : Contains outputs (Taken taken)

-- the line's debt is acknowledged at the peer; and whatever a stop leaves of its tape owes the line, or has its end
pub record IsQueued (number : ℕ) (token id : List ℕ) (peer : PeerPast) : Type 0 where
  pub acknowledged : HasAcknowledgedDebt number token id peer
  pub owed : EachLedger (OwesLine number token id peer) peer.tape.log

-- After `taken N` each line up to N is queued at every peer that it names: at the end of the run, with any crashes and
-- restarts among its steps.
abbrev pub TakenIsQueued : Type 0
TakenIsQueued = (funnel : Funnel) (begun later : Life) (steps : List Step) (lines : List (List View))
    (comes : Comes begun steps lines later) → IsEmpty begun → GoesBy funnel begun steps lines later comes
    → (taken : ℕ) → ReportsTaken taken lines
    → OfLines funnel later.past taken (λ rank number token id peer. IsQueued number token id peer)
