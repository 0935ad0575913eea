use Rattle.std.proofs.Common.{◌≡◌, None, refl, sym, ap, ◌∙◌, subst}
use Rattle.std.specs.Prelude.{Err}
use Rattle.ledger_core.specs.declared.ledger.LedgerFault.TheVariants.{CountFull}
use Rattle.ledger_core.specs.State.{keys, step}
use Rattle.ledger_core.specs.declared.note.Note.TheVariants.{Owe}
use Rattle.recovery.specs.declared.fault.TapeFault.{TapeFault}
use Rattle.recovery.specs.declared.fault.TapeFault.TheVariants.{Note as RefusedNote}
use Rattle.recovery.specs.Words.{ledger_of as tape_ledger}
use Rattle.peer_queue.specs.declared.fault.StationFault.TheVariants.{Tape as TapeRefused}
use Rattle.peer_queue.specs.Faults.{IsOweFault}
use Rattle.peer_queue.specs.DebtPlace.{IsUnheld, Places, Ready, gone, place_at, placed}
use Rattle.peer_queue.proofs.Inserted.{gone_with, unheld_with}
use Rattle.peer_queue.proofs.Owes.{absent_next, note_fault, placed_owed, told_fault}
use Rattle.peer_queue.proofs.station.Station.owe_new.Goals as goal

pub add-requires : goal.add-requires
add-requires g c =
    let old = c.args.self.now in
    absent_next old.index (tape_ledger old.tape) c.args.key old.all_placed old.tape.ledger.past c.requires.next

pub remove-requires : goal.remove-requires
remove-requires g c =
    let n = c.args.key in
    subst (λ (p : Places). IsUnheld p n) (sym c.in_ok-add.ensures.ok) (unheld_with c.args.self.now.index n)

pub invariant_of-self-in-Err : goal.invariant_of-self-in-Err
invariant_of-self-in-Err g c =
    let old = c.args.self.now in
    let n = c.args.key in
    let none : place_at old.index n ≡ None =
    absent_next old.index (tape_ledger old.tape) n old.all_placed old.tape.ledger.past c.requires.next in
    let back : c.remove.new.self ≡ old.index =
    c.remove.ensures ∙ (ap (λ (p : Places). gone p n) c.in_ok-add.ensures.ok ∙ gone_with old.index n Ready none) in
    record {
      all_placed = ap placed back ∙ (old.all_placed ∙ sym (ap keys c.in-Err.ensures.refuses.unchanged.ledger));
      unplaced = c.in-Err.ensures.place ∙ old.unplaced;
    }

pub invariant_of-self-in_default : goal.invariant_of-self-in_default
invariant_of-self-in_default g c =
    let old = c.args.self.now in
    let state = tape_ledger old.tape in
    let n = c.args.key in
    let noted : tape_ledger c.owe.new.self ≡ step state (Owe n c.args.token.now c.args.id.now) = c.in_default.ensures.ledger.1 in
    record {
      all_placed = ap placed c.in_ok-add.ensures.ok
          ∙ (placed_owed old.index state n c.args.token.now c.args.id.now old.all_placed ∙ sym (ap keys noted));
      unplaced = c.in_default.ensures.place ∙ old.unplaced;
    }

pub returns-in-Err-clause-count_full : goal.returns-in-Err-clause-count_full
returns-in-Err-clause-count_full g c = λ is.
    let told : c.station_fault.result ≡ TapeRefused (RefusedNote CountFull) = cc in
    ((c.in-Err.ensures.refuses.note CountFull).0
    (ap (λ (f : TapeFault). Err f) (told_fault c.in-Err.fault (RefusedNote CountFull) (sym c.station_fault.ensures ∙ told)))).1

pub returns-in-Err-clause-kinds : goal.returns-in-Err-clause-kinds
returns-in-Err-clause-kinds g c =
    subst IsOweFault (sym c.station_fault.ensures)
    (note_fault (tape_ledger c.args.self.now.tape) (Owe c.args.key c.args.token.now c.args.id.now)
    (λ old. old c.requires.next) (λ lacks. lacks) c.in-Err.fault c.in-Err.ensures.refuses.kinds
    (λ other is. ((c.in-Err.ensures.refuses.note other).0 (ap (λ (f : TapeFault). Err f) is)).1))

pub returns-in-Err-clause-unchanged : goal.returns-in-Err-clause-unchanged
returns-in-Err-clause-unchanged g c =
    let old = c.args.self.now in
    let n = c.args.key in
    let none : place_at old.index n ≡ None =
    absent_next old.index (tape_ledger old.tape) n old.all_placed old.tape.ledger.past c.requires.next in
    record {
      stands = λ h stands. (c.in-Err.ensures.takes h stands).stays;
      ledger = c.in-Err.ensures.refuses.unchanged.ledger;
      pending = c.in-Err.ensures.refuses.unchanged.count;
      disks = c.in-Err.ensures.disks;
      places = c.remove.ensures
          ∙ (ap (λ (p : Places). gone p n) c.in_ok-add.ensures.ok ∙ gone_with old.index n Ready none);
      limits = refl;
      works = c.in-Err.ensures.works;
    }
