use Rattle.std.proofs.Common.{◌≡◌, ◌⊎◌, ◌<◌, ◌^◌, sym, ap, ◌∙◌, subst, arith}
use Rattle.std.specs.Prelude.{◌↔◌}
use Rattle.ledger_core.specs.State.{IsLegal, keys}
use Rattle.recovery.specs.Notes.{most_pending}
use Rattle.recovery.specs.declared.fault.TapeFault.TheVariants.{PendingFull}
use Rattle.peer_queue.specs.DebtPlace.{placed}
use Rattle.peer_queue.specs.Words.{IsBroken, ledger_of, pending_of}
use Rattle.peer_queue.specs.declared.fault.StationFault.{StationFault}
use Rattle.peer_queue.specs.declared.fault.StationFault.TheVariants.{NoMemory, Tape as TapeRefused}
use Rattle.peer_queue.proofs.EndFaults.{end_kind, full_iff, held_legal}
use Rattle.peer_queue.proofs.Ends.{placed_ended}
use Rattle.peer_queue.proofs.station.Station.end.Goals as goal

pub invariant_of-self-2 : goal.invariant_of-self-2
invariant_of-self-2 g c =
    let station = c.args.self.now in
    let step = c.in_default.ensures.ledger.1 in
    record {
      all_placed = ap placed c.end.ensures
          ∙ (placed_ended station.index (ledger_of station) c.args.note c.args.key c.requires.note station.all_placed
          ∙ ap keys (sym step));
      unplaced = c.in_default.ensures.place ∙ station.unplaced;
    }

pub returns-in-Err-clause-pending_full : goal.returns-in-Err-clause-pending_full
returns-in-Err-clause-pending_full g c =
    let station = c.args.self.now in
    let fits : c.totals-totals.result.taken < 2 ^ 64 = omega arith in
    let legal = held_legal station.index (ledger_of station) c.args.note c.args.connection.0 c.args.key
    c.totals-totals.result c.requires.note station.all_placed c.requires.held c.totals-totals.ensures.counts
    c.totals-totals.ensures.sum fits in
    let here : (c.in-Err.fault ≡ PendingFull) ↔ ((IsBroken station → ⊥) × IsLegal (ledger_of station) c.args.note × (pending_of station ≡ most_pending)) = c.in-Err.ensures.refuses.pending_full in
    full_iff c.in-Err.fault c.station_fault.result c.station_fault.ensures c.requires.works legal here

pub returns-in-Err-clause-kinds : goal.returns-in-Err-clause-kinds
returns-in-Err-clause-kinds g c =
    let station = c.args.self.now in
    let fits : c.totals-totals.result.taken < 2 ^ 64 = omega arith in
    let legal = held_legal station.index (ledger_of station) c.args.note c.args.connection.0 c.args.key
    c.totals-totals.result c.requires.note station.all_placed c.requires.held c.totals-totals.ensures.counts
    c.totals-totals.ensures.sum fits in
    subst (λ (f : StationFault). (f ≡ TapeRefused PendingFull) ⊎ (f ≡ NoMemory)) (sym c.station_fault.ensures)
    (end_kind (ledger_of station) c.args.note c.in-Err.fault legal c.in-Err.ensures.refuses.kinds
    (λ told. c.requires.works (c.in-Err.ensures.refuses.broken.0 told))
    (λ cause told. ((c.in-Err.ensures.refuses.note cause).0 told).1))
