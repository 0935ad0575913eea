-- What the lines of a backlog file make of a peer's ledger (profile).
use Rattle.std.specs.Prelude.{◌≡◌, ◌≢◌, ◌⊎◌, ◌+◌, ◌<◌, ◌≤◌, ℕ, List, [], ◌∷◌, ◌++◌, None, Some, false, length, map, nat_lt}
use Rattle.funnel.specs.Line.{HasFault, IsBacklogLine}
use Rattle.funnel.specs.Malformed.{first_of, one_more}
use Rattle.funnel.specs.Stream.{Splits, clipped, ended}
use Rattle.funnel.specs.declared.line.LineFault.{LineFault}
use Rattle.funnel.specs.declared.line.LineFault.TheVariants.{NoMemory}
use Rattle.ledger_core.specs.Keys.{key_of}
use Rattle.ledger_core.specs.State.{State, after, step}
use Rattle.ledger_core.specs.declared.note.Note.{Note}
use Rattle.ledger_core.specs.declared.note.Note.TheVariants.{Closed, Owe}
use Rattle.backlog_files.specs.declared.fault.ImportFault.{ImportFault}
use Rattle.backlog_files.specs.declared.fault.ImportFault.TheVariants.{Station, Unread}
use Rattle.backlog_files.specs.declared.import_report.ImportReport.{ImportReport}

-- The notes that the line of this number makes, after this ledger, and the report with it: a good line is owed under
-- its number in the open source, or skipped if lines up to its number were noted; a malformed one owes nothing.
pub data TakesLine (past : State) (number : ℕ) (line : List ℕ) (before : ImportReport) : List Note → ImportReport → Type 0 where
  Is_owed : (token id : List ℕ) → IsBacklogLine line token id → past.import_mark < number
      → TakesLine past number line before (Owe (key_of (past.closed + 1) number) token id ∷ [])
      (record before { taken = one_more before.taken })
  Is_passed : (token id : List ℕ) → IsBacklogLine line token id → number ≤ past.import_mark
      → TakesLine past number line before [] (record before { passed = one_more before.passed })
  Is_malformed : (fault : LineFault) → HasFault line fault → fault ≢ NoMemory
      → TakesLine past number line before []
      (record before { malformed = Some (first_of before.malformed number fault) })

-- the report before the first line
abbrev pub no_line : ImportReport
no_line = record { taken = 0; passed = 0; malformed = None; has_rest = false }

-- What these lines, one after another and numbered from 1, make of a ledger, and the report of them.
pub data Imports (begun : State) : List (List ℕ) → State → ImportReport → Type 0 where
  Begins : Imports begun [] begun no_line
  Goes_on : (lines : List (List ℕ)) (past : State) (before report : ImportReport) (line : List ℕ) (notes : List Note)
      → Imports begun lines past before → TakesLine past (length lines + 1) line before notes report
      → Imports begun (lines ++ line ∷ []) (after past notes) report

-- the ledger after the note that closes the open source
abbrev pub closed : State → State
closed past = step past (Closed (past.closed + 1))

-- The file with these octets was taken in: its lines (no more of a line is kept than shows that it is too long), and
-- then the note that closes their source. A rest without LF is not a line.
pub record TakesIn (octets : List ℕ) (begun now : State) (report : ImportReport) : Type 0 where
  pub lines : List (List ℕ)
  pub rest : List ℕ
  pub splits : Splits octets lines rest
  pub past : State
  pub counts : ImportReport
  pub imports : Imports begun (map clipped lines) past counts
  pub ends : now ≡ closed past
  pub reports : report ≡ record counts { has_rest = nat_lt 0 (length rest) }

-- How a fault leaves the ledger, after the lines that were taken in. If the file could not be read further, their
-- source is still open, so that the next start goes on after them. If the station refused, the note that closes it may
-- have been made.
abbrev pub EndsBy : ImportFault → State → State → Type 0
EndsBy (Unread reason) past now = now ≡ past
EndsBy (Station fault) past now = (now ≡ past) ⊎ (now ≡ closed past)

-- The first lines of the file with these octets were taken in, and then this fault came.
pub record TakesSome (octets : List ℕ) (begun now : State) (fault : ImportFault) : Type 0 where
  pub lines : List (List ℕ)
  pub behind : List ℕ
  pub parts : octets ≡ ended lines ++ behind
  pub past : State
  pub counts : ImportReport
  pub imports : Imports begun (map clipped lines) past counts
  pub ends : EndsBy fault past now
