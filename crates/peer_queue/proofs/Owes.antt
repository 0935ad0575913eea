-- Places and the ledger, when a debt is newly owed, and when one may be claimed.
use Rattle.std.proofs.Common.{◌≡◌, ℕ, ◌+◌, ◌<◌, ◌^◌, List, [], ◌∷◌, None}
use Rattle.std.proofs.Common.{refl, inl, inr, sym, ap, subst, arith}
use Rattle.std.specs.List.{All}
use Rattle.ledger_core.specs.declared.ledger.LedgerFault.{LedgerFault}
use Rattle.ledger_core.specs.declared.ledger.LedgerFault.TheVariants.{OldNumber, NotOwed, CountFull, NoMemory as NoLedgerMemory}
use Rattle.ledger_core.specs.declared.marks.Marks.{Marks}
use Rattle.ledger_core.specs.declared.note.Note.{Note}
use Rattle.ledger_core.specs.declared.note.Note.TheVariants.{Owe}
use Rattle.ledger_core.specs.Keys.{key_of}
use Rattle.ledger_core.specs.State.{State, IsNext, IsOld, IsPast, LacksDebt, keys, marks_of, step}
use Rattle.ledger_core.specs.StateLaws.{next-apart}
use Rattle.recovery.specs.declared.fault.TapeFault.{TapeFault}
use Rattle.recovery.specs.declared.fault.TapeFault.TheVariants.{Damaged, Disk, Broken, TapeFull, GenerationFull, PendingFull, NoMemory, Note as RefusedNote}
use Rattle.recovery.specs.Words.{IsNoteFault, RefusesNote}
use Rattle.peer_queue.specs.Faults.{IsOweFault, station_fault}
use Rattle.peer_queue.specs.declared.fault.StationFault.TheVariants.{Tape as TapeRefused}
use Rattle.peer_queue.specs.DebtPlace.{Places, Ready, all_ready, place_at, placed, with_place}
use Rattle.peer_queue.proofs.Inserted.{absent_of, same_with}

-- all of these have a place if all of them are ready
pub placed-all_ready : (ns : List ℕ) → placed (all_ready ns) ≡ ns
placed-all_ready [] = refl
placed-all_ready (n ∷ ns) = ap (λ (l : List ℕ). n ∷ l) (placed-all_ready ns)

-- ---- a key that may be noted next

-- a line of the funnel above the mark
pub line_next : (marks : Marks) (n : ℕ) → n < 2 ^ 64 → marks.mark < n → IsNext marks n
line_next marks n fits above = inl (fits, above)

-- a line of the source that is open, above its own
pub import_next : (marks : Marks) (n : ℕ) → n < 2 ^ 64 → marks.import_mark < n
    → IsNext marks (key_of (marks.closed + 1) n)
import_next marks n fits above = inr (omega (arith, fits, above), omega (arith, fits))

-- has no place yet, if these keys have one
pub absent_among : (p : Places) (marks : Marks) (ns : List ℕ) (n : ℕ) → placed p ≡ ns → All (IsPast marks) ns
    → IsNext marks n → place_at p n ≡ None
absent_among p marks ns n same past next =
    absent_of p n (subst (λ (l : List ℕ). All (λ m. n ≡ m → ⊥) l) (sym same) (next-apart marks n ns next past))

pub absent_next : (p : Places) (state : State) (n : ℕ) → placed p ≡ keys state
    → All (IsPast (marks_of state)) (keys state) → IsNext (marks_of state) n → place_at p n ≡ None
absent_next p state n same past next = absent_among p (marks_of state) (keys state) n same past next

-- ---- the ledger after the note that owes it

pub placed_owed : (p : Places) (state : State) (n : ℕ) (token id : List ℕ) → placed p ≡ keys state
    → placed (with_place p n Ready) ≡ keys (step state (Owe n token id))
placed_owed p state n token id same = same_with p state.debts n Ready (token, id) same

-- ---- why a ledger refuses a note

refused_note : (state : State) (note : Note) → (IsOld state note → ⊥) → (LacksDebt state note → ⊥)
    → (fault : LedgerFault) → RefusesNote state note fault → fault ≡ CountFull
refused_note state note new owed OldNumber refused = absurd (new refused)
refused_note state note new owed NotOwed refused = absurd (owed refused)
refused_note state note new owed CountFull refused = refl
refused_note state note new owed NoLedgerMemory refused = absurd refused

-- one that is not old, and lacks no debt, is refused only for a count
pub note_fault : (state : State) (note : Note) → (IsOld state note → ⊥) → (LacksDebt state note → ⊥)
    → (fault : TapeFault) → IsNoteFault fault
    → ((other : LedgerFault) → fault ≡ RefusedNote other → RefusesNote state note other)
    → IsOweFault (station_fault fault)
note_fault state note new owed (Damaged segment at) kind why = kind
note_fault state note new owed Disk kind why = kind
note_fault state note new owed Broken kind why = tt
note_fault state note new owed TapeFull kind why = kind
note_fault state note new owed GenerationFull kind why = kind
note_fault state note new owed PendingFull kind why = tt
note_fault state note new owed NoMemory kind why = tt
note_fault state note new owed (RefusedNote other) kind why = refused_note state note new owed other (why other refl)

-- what a station reports as the tape's is the tape's
pub told_fault : (fault other : TapeFault) → station_fault fault ≡ TapeRefused other → fault ≡ other
told_fault (Damaged segment at) other e = cc
told_fault Disk other e = cc
told_fault Broken other e = cc
told_fault TapeFull other e = cc
told_fault GenerationFull other e = cc
told_fault PendingFull other e = cc
told_fault NoMemory other e = cc
told_fault (RefusedNote refused) other e = cc
