-- What holds over any steps, taken or refused, in an administrator's words: the headline and its parts.
use Rattle.std.specs.Prelude.{◌≡◌, ◌⊎◌, ◌<◌, ℕ, Some, List, [], ◌∷◌, ◌++◌, slice_get, Contains}
use Rattle.std.specs.List.{AllZip}
use Rattle.ledger_core.specs.State.{Owing}
use Rattle.ledger_core.specs.declared.note.FinalCode.{FinalCode}
use Rattle.ledger_core.specs.declared.note.Note.TheVariants.{Final, Owe}
use Rattle.conn_core.specs.Commands.{debt_in}
use Rattle.conn_core.specs.History.{End, accepted, ends}
use Rattle.conn_core.specs.Stands.{Arises}
use Rattle.conn_core.specs.declared.outcome.Outcome.{Outcome}
use Rattle.conn_core.specs.declared.outcome.Outcome.TheVariants.{Final as FinalOutcome}
use Rattle.conn_core.specs.declared.verdict.Verdict.{Verdict}
use Rattle.conn_laws.specs.Laws.{IsRightAt}
use Rattle.sections.specs.Tapes.{IsAcknowledgedBy, IsRecovered as IsRecoveredTape, StaysAcknowledged}
use Rattle.sections.specs.Tapes.{StillOwes as OwesStill}
use Rattle.world_core.specs.Past.{ConnPast, Life, Past, PeerPast, conn_at, options_of}
use Rattle.world_core.specs.Crashes.{Crashes}
use Rattle.world_core.specs.Events.{IsCandidate}
use Rattle.world_core.specs.Exchange.{IsConn}
use Rattle.world_core.specs.Runs.{RefusesStep, Takes}
use Rattle.world_core.specs.Safe.{IsSafe}
use Rattle.world_core.specs.Sound.{IsSoundLife}
use Rattle.world_core.specs.Output.{View}
use Rattle.world_core.specs.declared.fault.Fault.{Fault}
use Rattle.world_core.specs.declared.step.Step.{Step}
use Rattle.world_core.specs.declared.step.Step.TheVariants.{Hand}

-- What comes of a world by these steps, one after another: each is taken, and reports this, or is refused, and reports
-- nothing. A run ends at the first that is refused, and another run may go on from there. At any moment, between steps
-- or within one, all may crash: the step that is cut off is among these, and reports nothing. Before and after each
-- step the world is sound, and whatever a stop leaves is safe; that it is so after a crash is a theorem.
pub data Comes (begun : Life) : List Step → List (List View) → Life → Type 0 where
  No_step : IsSafe begun.past → IsSoundLife begun → Comes begun [] [] begun
  Step_taken : (steps : List Step) (step : Step) (lines : List (List View)) (outputs : List View) (life later : Life)
      → Comes begun steps lines life
      → Takes step life outputs later → IsSafe later.past → IsSoundLife later
      → Comes begun (steps ++ step ∷ []) (lines ++ outputs ∷ []) later
  Step_refused : (steps : List Step) (step : Step) (lines : List (List View)) (fault : Fault) (life later : Life)
      → Comes begun steps lines life
      → RefusesStep step life fault later → IsSafe later.past → IsSoundLife later
      → Comes begun (steps ++ step ∷ []) lines later
  Crashed : (steps cut : List Step) (lines : List (List View)) (life later : Life)
      → Comes begun steps lines life
      → Crashes life cut later
      → Comes begun (steps ++ cut) lines later

-- this relation holds of any two worlds of which steps make the second from the first
abbrev pub OverRuns : (Life → Life → Type 0) → Type 0
OverRuns R = (begun later : Life) (steps : List Step) (lines : List (List View)) → Comes begun steps lines later
    → R begun later

-- ---- what was acknowledged stays acknowledged

pub record AllStayAcknowledged (begun later : Life) : Type 0 where
  pub peers : AllZip (λ (was now : PeerPast). (now.conf ≡ was.conf) × StaysAcknowledged was.tape now.tape)
      begun.past.peers later.past.peers

-- ---- each final answer is right

-- A world between the steps: some of them, from the first on, made it, and the others went on from it.
pub record Passes (begun : Life) (steps : List Step) (lines : List (List View)) (later life : Life) : Type 0 where
  pub first : List Step
  pub others : List Step
  pub first_lines : List (List View)
  pub other_lines : List (List View)
  pub steps_are : steps ≡ first ++ others
  pub lines_are : lines ≡ first_lines ++ other_lines
  pub made : Comes begun first first_lines life
  pub went_on : Comes life others other_lines later

-- In this world the connection of this number, to the peer at this rank, has come to this outcome, and the outcome is
-- right: if it is final, one of the replies that came is the final answer to a command about that very debt (RFC 3977,
-- section 3.2; RFC 4644, section 2).
pub record CameTo (life : Life) (rank id : ℕ) (outcome : Outcome) : Type 0 where
  -- the connection, with its transcript, and its peer
  pub conn : ConnPast
  pub peer : PeerPast
  pub is : IsConn id life conn peer
  pub its : conn.rank ≡ rank
  -- the transcript can have come about, by that peer's settings
  pub arises : Arises (options_of peer.conf) conn.transcript
  -- the outcome is one of those that came out of it
  pub end : End
  pub among : Contains (ends (options_of peer.conf) conn.transcript) end
  pub is_outcome : end.outcome ≡ outcome
  -- on the debt, by its number, token and id, that was accepted at its ticket
  pub own : slice_get (accepted conn.transcript) end.ticket ≡ Some (debt_in outcome)
  -- and it is right by the transcript
  pub right : IsRightAt (options_of peer.conf) conn.transcript end.ticket end.outcome

-- One of the steps, a `hand`, handed the debt to the connection of this number: in the world before that step, the peer
-- at this rank owed it, under this number, token and id, as the least that might be claimed.
pub record WasTaken (begun : Life) (steps : List Step) (lines : List (List View)) (later : Life) (rank id : ℕ)
    (debt : Owing) : Type 0 where
  pub life : Life
  pub passes : Passes begun steps lines later life
  pub behind : List Step
  pub hand : passes.others ≡ Hand id ∷ behind
  pub conn : ConnPast
  pub peer : PeerPast
  pub is : IsConn id life conn peer
  pub its : conn.rank ≡ rank
  pub candidate : IsCandidate life.now peer debt

-- or that connection had accepted it before the steps
pub record WasAccepted (begun : Life) (rank id : ℕ) (debt : Owing) : Type 0 where
  pub conn : ConnPast
  pub is : conn_at begun.conns id ≡ Some conn
  pub its : conn.rank ≡ rank
  pub ticket : ℕ
  pub accepts : slice_get (accepted conn.transcript) ticket ≡ Some debt

-- A connection has come to a verdict of this code on the peer's debt of this number.
pub record HasVerdict (begun : Life) (steps : List Step) (lines : List (List View)) (later : Life)
    (rank number : ℕ) (code : FinalCode) : Type 0 where
  -- a world between the steps, and in it the connection, by its number, that has come to the verdict
  pub life : Life
  pub passes : Passes begun steps lines later life
  pub id : ℕ
  pub verdict : Verdict
  pub came : CameTo life rank id (FinalOutcome verdict)
  -- the verdict is the one noted
  pub of_number : verdict.debt.0 ≡ number
  pub of_code : verdict.code ≡ code
  -- its debt is one of the peer's, which the connection took over
  pub owed : WasTaken begun steps lines later rank id verdict.debt ⊎ WasAccepted begun rank id verdict.debt

-- the peer at this rank has noted this final answer
abbrev pub HasFinal : Life → ℕ → ℕ → FinalCode → Type 0
HasFinal life rank number code = (peer : PeerPast) × (slice_get life.past.peers rank ≡ Some peer)
    × Contains peer.tape.history.notes (Final number code)

-- a final answer among a peer's notes was there before the steps, or has its verdict
abbrev pub AllFinalsAreRight : Type 0
AllFinalsAreRight = (begun later : Life) (steps : List Step) (lines : List (List View))
    → Comes begun steps lines later
    → (rank number : ℕ) (code : FinalCode) → HasFinal later rank number code
    → HasFinal begun rank number code ⊎ HasVerdict begun steps lines later rank number code

-- ---- the headline

-- Each debt of the peer that was acknowledged, or that its history began from, is owed after any prefix of its notes
-- that has every acknowledged one in it, unless its notes have a final answer to it or a drop of it.
abbrev pub StillOwes : PeerPast → PeerPast → Type 0
StillOwes was now = OwesStill was.tape.history now.tape.history

-- Whatever a stop may leave of the peer's tape is the tape of a prefix of its notes, with every acknowledged one in it;
-- and each debt that was acknowledged is still owed there, or has ended.
abbrev pub IsRecovered : PeerPast → PeerPast → Type 0
IsRecovered was now = IsRecoveredTape was.tape now.tape

abbrev pub AllAreRecovered : Life → Life → Type 0
AllAreRecovered begun later = AllZip IsRecovered begun.past.peers later.past.peers

-- A line is acknowledged as soon as a stop may leave the intake's tape with a mark at or above its number. Then the
-- note that it made at a peer is acknowledged there.
abbrev pub IsAcknowledgedLine : Past → ℕ → Type 0
IsAcknowledgedLine past number = IsAcknowledgedBy past.intake number

abbrev pub LinesAreAcknowledged : Past → Type 0
LinesAreAcknowledged past = (rank index number : ℕ) (peer : PeerPast) (token id : List ℕ)
    → IsAcknowledgedLine past number
    → slice_get past.peers rank ≡ Some peer → slice_get peer.tape.history.notes index ≡ Some (Owe number token id)
    → index < peer.tape.history.kept
