use Rattle.std.proofs.Common.{◌+◌, ℕ, Ok, Err, refl, ap, subst}
use Rattle.ledger_core.specs.declared.note.Note.{Note}
use Rattle.ledger_core.specs.declared.note.Note.TheVariants.{Closed}
use Rattle.recovery.specs.Takes.{RefusesNoting}
use Rattle.peer_queue.proofs.Closes.{close_err, close_ok}
use Rattle.peer_queue.proofs.station.Station.close_import.Goals as goal

pub returns-in-Err-clause-refuses : goal.returns-in-Err-clause-refuses
returns-in-Err-clause-refuses g c =
    let old = c.args.self.now in
    let tape = c.note.new.self in
    close_err old _ tape _ c.in-Err.fault c.station_fault.result c.station_fault.ensures
    (subst (λ (note : Note). RefusesNoting {B = Note} note old.tape tape (Err (c.in-Err.field-0-0, c.in-Err.fault)))
    (ap (λ (n : ℕ). Closed (n + 1)) c.closed-source.ensures.closed) c.in-Err.ensures.refuses)
    record {
      stands = λ h stands. (c.in-Err.ensures.takes h stands).stays;
      ledger = c.in-Err.ensures.refuses.unchanged.ledger;
      pending = c.in-Err.ensures.refuses.unchanged.count;
      disks = c.in-Err.ensures.disks;
      places = refl;
      limits = refl;
      works = c.in-Err.ensures.works;
    }

pub returns-clause-refuses : goal.returns-clause-refuses
returns-clause-refuses g c =
    let old = c.args.self.now in
    let tape = c.note.new.self in
    close_ok old _ tape _
    (subst (λ (note : Note). RefusesNoting {B = Note} note old.tape tape (Ok tt))
    (ap (λ (n : ℕ). Closed (n + 1)) c.closed-source.ensures.closed) c.in_default.ensures.refuses)
