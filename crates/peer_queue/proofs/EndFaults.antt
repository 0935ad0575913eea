-- The end of a debt that a connection holds is a legal note, and the tape refuses it only for want of room or memory.
use Rattle.std.proofs.Common.{◌≡◌, ◌==◌, ◌⊎◌, inl, inr, ℕ, zero, suc, ◌+◌, ◌<◌, ◌^◌, Bool, true, false, cond}
use Rattle.std.proofs.Common.{Some, List, [], ◌∷◌, length, Err, refl, sym, ap, ◌∙◌, subst, arith}
use Rattle.std.specs.Prelude.{◌↔◌, IsErrOf}
use Rattle.std.specs.List.{Contains}
use Rattle.std.proofs.lemmas.Bool.{eqb-true}
use Rattle.std.proofs.lemmas.List.{length-map}
use Rattle.ledger_core.specs.declared.ledger.LedgerFault.{LedgerFault}
use Rattle.ledger_core.specs.declared.ledger.LedgerFault.TheVariants.{OldNumber, NotOwed, CountFull}
use Rattle.ledger_core.specs.declared.ledger.LedgerFault.TheVariants.{NoMemory as NoLedgerMemory}
use Rattle.ledger_core.specs.declared.note.Note.{Note}
use Rattle.ledger_core.specs.declared.note.Note.TheVariants.{Owe, Final, Drop, Seen, Closed}
use Rattle.ledger_core.specs.StateLaws.{old-legal, lacks-legal, full-legal}
use Rattle.ledger_core.specs.Ledger.{totals_of}
use Rattle.ledger_core.specs.State.{State, IsLegal, IsOwed, Owing, keys, keys_in}
use Rattle.ledger_core.specs.declared.ledger.Totals.{Totals}
use Rattle.recovery.specs.Words.{IsNoteFault, RefusesNote}
use Rattle.recovery.specs.declared.fault.TapeFault.{TapeFault}
use Rattle.recovery.specs.declared.fault.TapeFault.TheVariants.{Damaged, Disk, Broken, TapeFull, GenerationFull, PendingFull, NoMemory as NoTapeMemory, Note as RefusedNote}
use Rattle.peer_queue.specs.Faults.{station_fault}
use Rattle.peer_queue.specs.DebtPlace.{DebtPlace, Places, Held, IsHeldBy, place_at, placed}
use Rattle.peer_queue.specs.Words.{IsEnd}
use Rattle.peer_queue.specs.declared.fault.StationFault.{StationFault}
use Rattle.peer_queue.specs.declared.fault.StationFault.TheVariants.{NoMemory, Tape as TapeRefused}

contains_first : (n first : ℕ) (others : List ℕ) → first ≡ n → Contains (first ∷ others) n
contains_first n first others same = (zero, omega arith, same)

contains_later : (n first : ℕ) (others : List ℕ) → Contains others n → Contains (first ∷ others) n
contains_later n first others has = (suc has.0, omega (arith, has.1), has.2)

held_step : (p : Places) (c n : ℕ) (e : ℕ × DebtPlace) (b : Bool) → (e.0 == n) ≡ b → cond b (Some e.1) (place_at p n) ≡ Some (Held c) → (place_at p n ≡ Some (Held c) → Contains (placed p) n) → Contains (e.0 ∷ placed p) n
held_step p c n e true same held rest = contains_first n e.0 (placed p) (eqb-true e.0 n same)
held_step p c n e false same held rest = contains_later n e.0 (placed p) (rest held)

-- a number that a connection holds has a place
pub held_placed : (p : Places) (c n : ℕ) → IsHeldBy p c n → Contains (placed p) n
held_placed [] c n held = absurd (cc)
held_placed (e ∷ p) c n held = held_step p c n e (e.0 == n) refl held (λ there. held_placed p c n there)

-- it is owed
pub held_owed : (p : Places) (state : State) (c n : ℕ) → placed p ≡ keys state → IsHeldBy p c n → IsOwed state n
held_owed p state c n same held = subst (λ (l : List ℕ). Contains l n) same (held_placed p c n held)

some_owed : (debts : List Owing) (n : ℕ) → Contains (keys_in debts) n → 0 < length debts
some_owed debts n has = omega (arith, has.1, length-map debts (λ (debt : Owing). debt.0))

-- if a debt is owed, less than all that was taken has ended
pub end_legal : (state : State) (note : Note) (n : ℕ) → IsEnd note n → IsOwed state n → state.taken ≡ length state.debts + state.answered + state.dropped → state.taken < 2 ^ 64 → IsLegal state note
end_legal state (Owe other token id) n end owed sum fits = absurd end
end_legal state (Final other code) n end owed sum fits = (subst (λ (m : ℕ). IsOwed state m) (sym end) owed, omega (arith, sum, fits, some_owed state.debts n owed))
end_legal state (Drop other cause) n end owed sum fits = (subst (λ (m : ℕ). IsOwed state m) (sym end) owed, omega (arith, sum, fits, some_owed state.debts n owed))
end_legal state (Seen other) n end owed sum fits = absurd end
end_legal state (Closed source) n end owed sum fits = absurd end

-- by what is counted if a connection holds the debt
pub held_legal : (p : Places) (state : State) (note : Note) (c n : ℕ) (totals : Totals) → IsEnd note n → placed p ≡ keys state → IsHeldBy p c n → totals ≡ totals_of state → totals.taken ≡ totals.owed + totals.answered + totals.dropped → totals.taken < 2 ^ 64 → IsLegal state note
held_legal p state note c n totals end same held counts sum fits =
    let both : (state.taken ≡ length state.debts + state.answered + state.dropped) × (state.taken < 2 ^ 64) =
    subst (λ (t : Totals). (t.taken ≡ t.owed + t.answered + t.dropped) × (t.taken < 2 ^ 64)) counts (sum, fits) in
    end_legal state note n end (held_owed p state c n same held) both.0 both.1

-- a ledger refuses no legal note
pub none_refused : (state : State) (note : Note) (fault : LedgerFault) → IsLegal state note → RefusesNote state note fault → ⊥
none_refused state note OldNumber legal refused = old-legal state note refused legal
none_refused state note NotOwed legal refused = lacks-legal state note refused legal
none_refused state note CountFull legal refused = full-legal state note refused legal
none_refused state note NoLedgerMemory legal refused = refused

-- a tape that works refuses a legal note only for want of room or of memory
pub end_kind : (state : State) (note : Note) (fault : TapeFault) → IsLegal state note → IsNoteFault fault
    → (fault ≡ Broken → ⊥) → ((cause : LedgerFault) → fault ≡ RefusedNote cause → RefusesNote state note cause)
    → (station_fault fault ≡ TapeRefused PendingFull) ⊎ (station_fault fault ≡ NoMemory)
end_kind state note (Damaged segment at) legal kind works refused = absurd kind
end_kind state note Disk legal kind works refused = absurd kind
end_kind state note Broken legal kind works refused = absurd (works refl)
end_kind state note TapeFull legal kind works refused = absurd kind
end_kind state note GenerationFull legal kind works refused = absurd kind
end_kind state note PendingFull legal kind works refused = inl refl
end_kind state note NoTapeMemory legal kind works refused = inr refl
end_kind state note (RefusedNote cause) legal kind works refused =
    absurd (none_refused state note cause legal (refused cause refl))

-- a station reports no room if its tape does
told_full : (fault : TapeFault) → station_fault fault ≡ TapeRefused PendingFull → fault ≡ PendingFull
told_full (Damaged segment at) told = absurd (cc)
told_full Disk told = absurd (cc)
told_full Broken told = absurd (cc)
told_full TapeFull told = absurd (cc)
told_full GenerationFull told = absurd (cc)
told_full PendingFull told = refl
told_full NoTapeMemory told = absurd (cc)
told_full (RefusedNote cause) told = absurd (cc)

-- if a legal note ends a debt, a station that works reports no room exactly if its tape does
pub full_iff : {Works Legal Full : Type 0} (fault : TapeFault) (told : StationFault) → told ≡ station_fault fault
    → Works → Legal → (fault ≡ PendingFull) ↔ (Works × Legal × Full)
    → (IsErrOf {T = Unit {0}} (Err told) (TapeRefused PendingFull)) ↔ Full
full_iff fault told is works legal full = (
  λ here. (full.0 (told_full fault (sym is ∙ (cc)))).2,
  λ meets. ap Err (is ∙ ap station_fault (full.1 (works, legal, meets))),
)
