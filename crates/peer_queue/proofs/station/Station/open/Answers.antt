use Rattle.std.proofs.Common.{sym, ap, ◌∙◌, subst}
use Rattle.ledger_core.specs.State.{keys}
use Rattle.recovery.specs.Image.{Log, Survives, TapeLeaves}
use Rattle.recovery.specs.Words.{ledger_of as tape_ledger}
use Rattle.recovery.specs.TapeLaws.{logs_of_disks, refused_as_opened}
use Rattle.peer_queue.specs.DebtPlace.{placed}
use Rattle.peer_queue.proofs.Owes.{placed-all_ready}
use Rattle.peer_queue.proofs.station.Station.open.Goals as goal

pub invariant_of-result : goal.invariant_of-result
invariant_of-result g c = record {
  all_placed = ap placed c.in-Ok-index_of.ensures.places ∙ placed-all_ready (keys (tape_ledger c.in-Ok.tape));
  unplaced = c.in-Ok.ensures.fresh.unplaced;
}

pub returns-in-Err-index_of-clause-recovers : goal.returns-in-Err-index_of-clause-recovers
returns-in-Err-index_of-clause-recovers g c = λ h honest honest' each.
    let old : Log = (g.D.Disk.log c.args.a, g.D.Disk.log c.args.b) in
    let recovers = (c.in-Ok.ensures.recovers h honest honest' each).recovers in
    let logs = logs_of_disks c.in-Ok.tape c.into_disks-a.result c.into_disks-a.ensures.disks in
    record {
      recovers = tt;
      survives = subst (λ (log : Log). TapeLeaves (Survives h) old log) (sym logs) recovers.moments;
      undamaged = λ segment at told. cc told;
    }

pub returns-in-Err-index_of-clause-opens : goal.returns-in-Err-index_of-clause-opens
returns-in-Err-index_of-clause-opens g c = λ honest honest'. record {
  ok = tt;
  err = refused_as_opened _ c.in-Ok.tape _ c.into_disks-a.ensures.disks (c.in-Ok.ensures.opens honest honest').ok;
}

pub returns-in-Err-clause-recovers : goal.returns-in-Err-clause-recovers
returns-in-Err-clause-recovers g c = λ h honest honest' each.
    let was = c.in-Err.ensures.recovers h honest honest' each in
    record { recovers = tt; survives = was.survives; undamaged = was.undamaged }

pub returns-in-Ok-index_of-clause-opens : goal.returns-in-Ok-index_of-clause-opens
returns-in-Ok-index_of-clause-opens g c = λ honest honest'.
    record { ok = (c.in-Ok.ensures.opens honest honest').ok; err = tt }
