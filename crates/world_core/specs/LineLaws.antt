-- What becomes of a line's debts, in an administrator's words: those of an acknowledged line, and those of a line that
-- is read again.
use Rattle.std.specs.Prelude.{◌≡◌, ◌⊎◌, ◌+◌, ◌&&◌, ℕ, Bool, if◌then◌else◌, Some, List, [], ◌∷◌, map, nat_lt, slice_get}
use Rattle.std.specs.Prelude.{Contains}
use Rattle.std.specs.Global.{Vec}
use Rattle.funnel.specs.Line.{IsFunnelLine}
use Rattle.funnel.specs.declared.line.LineFault.{LineFault}
use Rattle.ledger_core.specs.declared.note.Note.TheVariants.{Owe}
use Rattle.ledger_core.specs.State.{State}
use Rattle.recovery.specs.Leaving.{EachLedger, LedgersLeave}
use Rattle.peer_queue.specs.declared.limits.Owed.{Owed as Answer}
use Rattle.peer_queue.specs.declared.limits.Owed.TheVariants.{New, Already}
use Rattle.sections.specs.Tapes.{OwesOrEnded as OwesOrHasEnd, mark_at}
use Rattle.world_core.specs.Past.{Life, Past, PeerPast, with_last, with_past}
use Rattle.world_core.specs.Events.{owing_as}
use Rattle.world_core.specs.Laws.{Comes, IsAcknowledgedLine}
use Rattle.world_core.specs.Crashes.{IsUnderWay}
use Rattle.world_core.specs.Runs.{Takes}
use Rattle.world_core.specs.Steps.{IsReading, NotGood, is_named}
use Rattle.world_core.specs.Output.{Bad, Owed, View}
use Rattle.world_core.specs.declared.step.Step.{Step}
use Rattle.world_core.specs.declared.step.Step.TheVariants.{Line}

-- ---- an acknowledged line

-- In this world the line of this number is acknowledged, and it made a note of this debt at the peer of this rank.
pub record MadeDebt (past : Past) (rank number : ℕ) (token id : List ℕ) : Type 0 where
  pub line : IsAcknowledgedLine past number
  pub peer : PeerPast
  pub here : slice_get past.peers rank ≡ Some peer
  pub noted : Contains peer.tape.history.notes (Owe number token id)

-- the debt is owed in this ledger, or the peer's notes have a final answer to it or a drop of it
abbrev pub OwesOrEnded : PeerPast → ℕ → List ℕ → List ℕ → State → Type 0
OwesOrEnded peer number token id state = OwesOrHasEnd peer.tape.history.notes number token id state

-- the same holds in the ledger of whatever a stop may leave of that peer's tape
abbrev pub LinesAreKept : Life → Life → Type 0
LinesAreKept begun later = (rank number : ℕ) (token id : List ℕ) (now : PeerPast)
    → MadeDebt begun.past rank number token id → slice_get later.past.peers rank ≡ Some now
    → EachLedger (OwesOrEnded now number token id) now.tape.log

-- and at each moment within a step
abbrev pub LinesAreKeptWithin : Type 0
LinesAreKeptWithin = (begun life : Life) (steps : List Step) (lines : List (List View)) → Comes begun steps lines life
    → (step : Step) (was now : Past) → IsUnderWay step life was now
    → (rank number : ℕ) (token id : List ℕ) (old new : PeerPast) → MadeDebt begun.past rank number token id
    → slice_get was.peers rank ≡ Some old → slice_get now.peers rank ≡ Some new
    → LedgersLeave (OwesOrEnded old number token id) old.tape.log new.tape.log

-- ---- a line that is read, for the first time or again

-- a line of this number is new to a peer: it names the peer, whose mark is below the number
abbrev pub is_new_to : ℕ → List (List ℕ) → PeerPast → Bool
is_new_to number named peer = is_named named peer && nat_lt (mark_at peer.tape) number

-- the names of the peers to which a line is new
abbrev pub new_to : ℕ → List (List ℕ) → List PeerPast → List (List ℕ)
new_to number named [] = []
new_to number named (peer ∷ peers) =
    if is_new_to number named peer then peer.conf.name ∷ new_to number named peers else new_to number named peers

-- the names at which `new` is reported
abbrev pub reported_new : List (List ℕ × Answer) → List (List ℕ)
reported_new [] = []
reported_new ((name, New) ∷ outputs) = name ∷ reported_new outputs
reported_new ((name, Already) ∷ outputs) = reported_new outputs

-- what such a line makes of a peer: one note more and a debt that is ready, or nothing
abbrev pub read_at : ℕ → List ℕ → List ℕ → List (List ℕ) → PeerPast → PeerPast
read_at number token id named peer =
    if is_new_to number named peer then owing_as New number token id peer else peer

-- and of all tapes
abbrev pub read_by : ℕ → List ℕ → List ℕ → List (List ℕ) → Past → Past
read_by number token id named past = record past {
  peers = map (read_at number token id named) past.peers;
  last = number;
}

-- A good line was read under this number: `new` is reported at exactly those peers that it names whose mark is below
-- the number; each of them owes it now, and nothing changes at the others.
pub record WasRead (number : ℕ) (text : List ℕ) (life : Life) (outputs : List View) (later : Life) : Type 0 where
  pub token : List ℕ
  pub id : List ℕ
  pub named : List (List ℕ)
  pub reads : IsFunnelLine text token id named
  pub answers : List (List ℕ × Answer)
  pub reports : outputs ≡ Owed number answers ∷ []
  pub new : reported_new answers ≡ new_to number named life.past.peers
  pub changed : later ≡ with_past life (read_by number token id named life.past)

-- A malformed line was read under this number: its fault is reported, and nothing changes at any peer.
pub record WasBad (number : ℕ) (text : List ℕ) (life : Life) (outputs : List View) (later : Life) : Type 0 where
  pub fault : LineFault
  pub reads : IsReading text (NotGood fault)
  pub reports : outputs ≡ Bad number fault ∷ []
  pub changed : later ≡ with_past life (with_last life.past number)

abbrev pub LinesAreReadAgain : Type 0
LinesAreReadAgain = (life later : Life) (outputs : List View) (text : Vec ℕ) → Takes (Line text) life outputs later
    → WasRead (life.past.last + 1) text.items life outputs later
    ⊎ WasBad (life.past.last + 1) text.items life outputs later
