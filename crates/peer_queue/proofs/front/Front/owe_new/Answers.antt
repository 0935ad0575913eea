use Rattle.std.proofs.Common.{◌≡◌, None, refl, sym, ap, ◌∙◌, subst}
use Rattle.std.specs.Prelude.{Err}
use Rattle.ledger_core.specs.declared.ledger.LedgerFault.TheVariants.{CountFull}
use Rattle.ledger_core.specs.declared.note.Note.TheVariants.{Owe}
use Rattle.ledger_core.specs.Shape.{Shape, keys_sized, shape_marks}
use Rattle.recovery.specs.declared.fault.TapeFault.{TapeFault}
use Rattle.recovery.specs.declared.fault.TapeFault.TheVariants.{Note as RefusedNote}
use Rattle.peer_queue.specs.Faults.{IsOweFault}
use Rattle.peer_queue.specs.Front.{front_shape}
use Rattle.peer_queue.specs.DebtPlace.{IsUnheld, Places, Ready, gone, place_at, placed}
use Rattle.peer_queue.specs.declared.fault.StationFault.TheVariants.{Tape as TapeRefused}
use Rattle.peer_queue.proofs.Inserted.{gone_with, unheld_with}
use Rattle.peer_queue.proofs.Owes.{absent_among, told_fault}
use Rattle.peer_queue.proofs.Shaped.{past_outline, placed_noted, shape_fault}
use Rattle.peer_queue.proofs.front.Front.owe_new.Goals as goal

pub add-requires : goal.add-requires
add-requires c =
    let old = c.args.self.now in
    let shape = front_shape old in
    absent_among old.index (shape_marks shape) (keys_sized shape.sizes) c.args.key old.all_placed
    (past_outline old.outbox.outline) c.requires.next

pub remove-requires : goal.remove-requires
remove-requires c =
    let n = c.args.key in
    subst (λ (p : Places). IsUnheld p n) (sym c.in_ok-add.ensures.ok) (unheld_with c.args.self.now.index n)

pub invariant_of-self-in-Err : goal.invariant_of-self-in-Err
invariant_of-self-in-Err c =
    let old = c.args.self.now in
    let shape = front_shape old in
    let n = c.args.key in
    let none : place_at old.index n ≡ None =
    absent_among old.index (shape_marks shape) (keys_sized shape.sizes) n old.all_placed
    (past_outline old.outbox.outline) c.requires.next in
    let back : c.remove.new.self ≡ old.index =
    c.remove.ensures ∙ (ap (λ (p : Places). gone p n) c.in_ok-add.ensures.ok ∙ gone_with old.index n Ready none) in
    record {
      all_placed = ap placed back
          ∙ (old.all_placed ∙ sym (ap (λ (s : Shape). keys_sized s.sizes) c.in-Err.ensures.unchanged.shape));
    }

pub invariant_of-self-in_default : goal.invariant_of-self-in_default
invariant_of-self-in_default c =
    let old = c.args.self.now in
    record {
      all_placed = ap placed c.in_ok-add.ensures.ok
          ∙ (placed_noted old.index (front_shape old) c.args.key c.args.token.now c.args.id.now old.all_placed
          ∙ sym (ap (λ (s : Shape). keys_sized s.sizes) c.in_default.ensures.ok.shape));
    }

pub returns-in-Err-clause-count_full : goal.returns-in-Err-clause-count_full
returns-in-Err-clause-count_full c = λ is.
    let told : c.station_fault.result ≡ TapeRefused (RefusedNote CountFull) = cc in
    ((c.in-Err.ensures.refused CountFull).0
    (ap (λ (f : TapeFault). Err f) (told_fault c.in-Err.fault (RefusedNote CountFull) (sym c.station_fault.ensures
    ∙ told)))).1

pub returns-in-Err-clause-kinds : goal.returns-in-Err-clause-kinds
returns-in-Err-clause-kinds c =
    subst IsOweFault (sym c.station_fault.ensures)
    (shape_fault (front_shape c.args.self.now) (Owe c.args.key c.args.token.now c.args.id.now)
    (λ old. old c.requires.next) (λ lacks. lacks) c.in-Err.fault c.in-Err.ensures.kinds
    (λ other is. ((c.in-Err.ensures.refused other).0 (ap (λ (f : TapeFault). Err f) is)).1))

pub returns-in-Err-clause-unchanged : goal.returns-in-Err-clause-unchanged
returns-in-Err-clause-unchanged c =
    let old = c.args.self.now in
    let shape = front_shape old in
    let n = c.args.key in
    let none : place_at old.index n ≡ None =
    absent_among old.index (shape_marks shape) (keys_sized shape.sizes) n old.all_placed
    (past_outline old.outbox.outline) c.requires.next in
    record {
      outbox = c.in-Err.ensures.unchanged;
      places = c.remove.ensures
          ∙ (ap (λ (p : Places). gone p n) c.in_ok-add.ensures.ok ∙ gone_with old.index n Ready none);
      limits = refl;
    }
