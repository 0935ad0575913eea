-- What becomes of each debt that a peer owed, in an administrator's words: it is owed still, or the peer's notes since
-- say why it is not.
use Rattle.std.specs.Prelude.{◌≡◌, ◌⊎◌, ℕ, Some, List, ◌++◌, take, slice_get, Contains}
use Rattle.ledger_core.specs.State.{IsOwed}
use Rattle.ledger_core.specs.declared.note.Cause.{Cause}
use Rattle.ledger_core.specs.declared.note.Cause.TheVariants.{Limit}
use Rattle.ledger_core.specs.declared.note.FinalCode.{FinalCode}
use Rattle.ledger_core.specs.declared.note.Note.{Note}
use Rattle.ledger_core.specs.declared.note.Note.TheVariants.{Drop, Final, Owe}
use Rattle.recovery.specs.Notes.{History}
use Rattle.conn_core.specs.Commands.{debt_in}
use Rattle.conn_core.specs.declared.outcome.Outcome.{Outcome}
use Rattle.peer_queue.specs.Settled.{key_in}
use Rattle.peer_queue.specs.declared.settled.Settled.TheVariants.{Dropped}
use Rattle.sections.specs.Tapes.{ledger_at}
use Rattle.world_core.specs.Past.{Life, PeerPast}
use Rattle.world_core.specs.Events.{settling}
use Rattle.world_core.specs.Laws.{CameTo, Comes, HasVerdict, Passes, WasAccepted, WasTaken}
use Rattle.world_core.specs.Output.{View}
use Rattle.world_core.specs.declared.step.Step.{Step}

-- ---- the notes since

-- Of the notes that there were, these are there still, each acknowledged one among them; those behind them, which
-- pended, are gone, as if a stop came before they were on the disks; and these are the notes since.
pub record NotesSince (was now : History) : Type 0 where
  pub kept : List Note
  pub lost : List Note
  pub more : List Note
  pub was_is : was.notes ≡ kept ++ lost
  pub now_is : now.notes ≡ kept ++ more
  pub acknowledged : (rest : List Note) × (kept ≡ take was.kept was.notes ++ rest)

-- one of these notes owes a debt of this number
abbrev pub HasOwe : List Note → ℕ → Type 0
HasOwe notes number = (token : List ℕ) × (id : List ℕ) × Contains notes (Owe number token id)

-- ---- why a debt was dropped

-- A connection has come to an outcome on the peer's debt of this number for which it is dropped: the article is gone or
-- cannot be sent, or it was deferred and the peer's deferred debts are dropped.
pub record HasOutcome (begun : Life) (steps : List Step) (lines : List (List View)) (later : Life)
    (rank number : ℕ) (cause : Cause) : Type 0 where
  -- a world between the steps, and in it the connection, by its number, that has come to the outcome, which is right
  pub life : Life
  pub passes : Passes begun steps lines later life
  pub id : ℕ
  pub outcome : Outcome
  pub came : CameTo life rank id outcome
  -- by the peer's settings, at the moment when it went to the peer, the debt is dropped for this cause
  pub moment : ℕ
  pub settles : settling came.peer moment outcome ≡ Dropped cause
  pub of_number : key_in outcome ≡ number
  -- its debt is one of the peer's, which the connection took over
  pub owed : WasTaken begun steps lines later rank id (debt_in outcome) ⊎ WasAccepted begun rank id (debt_in outcome)

-- or the backlog was above its limit
abbrev pub HasCause : Life → List Step → List (List View) → Life → (rank number : ℕ) → Cause → Type 0
HasCause begun steps lines later rank number cause =
    (cause ≡ Limit) ⊎ HasOutcome begun steps lines later rank number cause

-- ---- each debt is accounted for

-- among these notes is a final answer of the peer to the debt of this number, with its verdict, or a drop of it, with
-- its cause
abbrev pub HasReason : Life → List Step → List (List View) → Life → (rank number : ℕ) → List Note → Type 0
HasReason begun steps lines later rank number notes =
    ((code : FinalCode) × Contains notes (Final number code) × HasVerdict begun steps lines later rank number code)
    ⊎ ((cause : Cause) × Contains notes (Drop number cause) × HasCause begun steps lines later rank number cause)

-- Each debt that the peer owed is owed now, or the notes since say why it is not; or its own note pended, and is gone.
pub record AreAccountedFor (begun : Life) (steps : List Step) (lines : List (List View)) (later : Life) (rank : ℕ)
    (was now : PeerPast) : Type 0 where
  pub since : NotesSince was.tape.history now.tape.history
  pub each : (number : ℕ) → IsOwed (ledger_at was.tape) number
      → IsOwed (ledger_at now.tape) number
      ⊎ HasReason begun steps lines later rank number since.more
      ⊎ HasOwe since.lost number

abbrev pub AllAreAccountedFor : Type 0
AllAreAccountedFor = (begun later : Life) (steps : List Step) (lines : List (List View))
    → Comes begun steps lines later
    → (rank : ℕ) (was now : PeerPast) → slice_get begun.past.peers rank ≡ Some was
    → slice_get later.past.peers rank ≡ Some now → AreAccountedFor begun steps lines later rank was now
