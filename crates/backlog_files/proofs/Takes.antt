-- What a line makes of a ledger.
use Rattle.std.specs.Prelude.{◌≡◌, ◌≢◌, ◌↔◌, ◌+◌, ◌<◌, ◌≤◌, ℕ, List, [], ◌∷◌, Result, Err, IsErrOf, Some, refl}
use Rattle.std.proofs.Common.{ap, sym, subst, ◌∙◌}
use Rattle.funnel.specs.Line.{HasFault, IsBacklogLine}
use Rattle.funnel.specs.Malformed.{first_of, one_more}
use Rattle.funnel.specs.declared.line.LineFault.{LineFault}
use Rattle.funnel.specs.declared.line.LineFault.TheVariants.{BadId, BadToken, NoMemory, NoToken, TooLong}
use Rattle.ledger_core.specs.Keys.{key_of}
use Rattle.ledger_core.specs.State.{State, after, step}
use Rattle.ledger_core.specs.declared.note.Note.{Note}
use Rattle.ledger_core.specs.declared.note.Note.TheVariants.{Owe}
use Rattle.peer_queue.specs.declared.limits.Owed.{Owed}
use Rattle.peer_queue.specs.declared.limits.Owed.TheVariants.{Already, New}
use Rattle.backlog_files.specs.Imports.{Is_malformed, Is_owed, Is_passed, TakesLine}
use Rattle.backlog_files.specs.declared.import_report.ImportReport.{ImportReport}

-- a good line is owed, or skipped
pub takes_good : (owed : Owed) (past now : State) (number : ℕ) (line token id : List ℕ) (before report : ImportReport)
    → IsBacklogLine line token id
    → (owed ≡ New → (past.import_mark < number) × (now ≡ step past (Owe (key_of (past.closed + 1) number) token id)))
    → (owed ≡ Already → (number ≤ past.import_mark) × (now ≡ past))
    → (owed ≡ New → report ≡ record before { taken = one_more before.taken })
    → (owed ≡ Already → report ≡ record before { passed = one_more before.passed })
    → (notes : List Note) × TakesLine past number line before notes report × (now ≡ after past notes)
takes_good New past now number line token id before report good new already counted passed =
    let owe = Owe (key_of (past.closed + 1) number) token id in (
      owe ∷ [],
      subst (TakesLine past number line before (owe ∷ [])) (sym (counted refl)) (Is_owed token id good (new refl).0),
      (new refl).1,
    )
takes_good Already past now number line token id before report good new already counted passed = (
  [],
  subst (TakesLine past number line before []) (sym (passed refl)) (Is_passed token id good (already refl).0),
  (already refl).1,
)

-- a malformed line has the fault that is returned
has_fault : {T : Type 0} (fault : LineFault) (line : List ℕ) (result : Result T LineFault) → result ≡ Err fault
    → (IsErrOf result TooLong ↔ HasFault line TooLong) → (IsErrOf result NoToken ↔ HasFault line NoToken)
    → (IsErrOf result BadToken ↔ HasFault line BadToken) → (IsErrOf result BadId ↔ HasFault line BadId)
    → HasFault line fault
has_fault TooLong line result is long none token id = long.0 is
has_fault NoToken line result is long none token id = none.0 is
has_fault BadToken line result is long none token id = token.0 is
has_fault BadId line result is long none token id = id.0 is
has_fault NoMemory line result is long none token id = tt

-- a malformed line owes nothing
pub takes_malformed : {T : Type 0} (fault : LineFault) (past : State) (number : ℕ) (line : List ℕ)
    (before report : ImportReport) (result : Result T LineFault) → result ≡ Err fault
    → (IsErrOf result TooLong ↔ HasFault line TooLong) → (IsErrOf result NoToken ↔ HasFault line NoToken)
    → (IsErrOf result BadToken ↔ HasFault line BadToken) → (IsErrOf result BadId ↔ HasFault line BadId)
    → fault ≢ NoMemory
    → report ≡ record before { malformed = Some (first_of before.malformed number fault) }
    → (notes : List Note) × TakesLine past number line before notes report × (past ≡ after past notes)
takes_malformed fault past number line before report result is long none token id other counted = (
  [],
  subst (TakesLine past number line before []) (sym counted)
      (Is_malformed fault (has_fault fault line result is long none token id) other),
  refl,
)

-- a line leaves the source open
leaves_open : (past : State) (number : ℕ) (line : List ℕ) (before report : ImportReport) (notes : List Note)
    → TakesLine past number line before notes report → (after past notes).closed ≡ past.closed
leaves_open past number line before report notes (Is_owed token id good next) = refl
leaves_open past number line before report notes (Is_passed token id good old) = refl
leaves_open past number line before report notes (Is_malformed fault has other) = refl

-- and so do lines
pub stays_open : (begun past now : State) (number : ℕ) (line : List ℕ) (before report : ImportReport)
    → (notes : List Note) × TakesLine past number line before notes report × (now ≡ after past notes)
    → past.closed ≡ begun.closed → now.closed ≡ begun.closed
stays_open begun past now number line before report (notes, takes, is) same =
    ap (λ state. state.closed) is ∙ leaves_open past number line before report notes takes ∙ same
