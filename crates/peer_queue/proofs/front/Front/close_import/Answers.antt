use Rattle.std.proofs.Common.{◌+◌, ℕ, ap, refl}
use Rattle.ledger_core.specs.declared.note.Note.TheVariants.{Closed}
use Rattle.peer_queue.proofs.Closes.{front_err, front_ok}
use Rattle.peer_queue.proofs.front.Front.close_import.Goals as goal

pub returns-in-Err-clause-refuses : goal.returns-in-Err-clause-refuses
returns-in-Err-clause-refuses c =
    let refused = c.in-Err.ensures in
    front_err c.args.self.now _ _ c.in-Err.fault c.station_fault.result c.station_fault.ensures
    (ap (λ (n : ℕ). Closed (n + 1)) c.closed-source.ensures.closed)
    record {
      broken = refused.broken;
      refused = refused.refused;
      pending_full = refused.pending_full;
      no_memory = refused.no_memory;
      kind = refused.kinds;
    }
    record { outbox = refused.unchanged; places = refl; limits = refl }

pub returns-clause-refuses : goal.returns-clause-refuses
returns-clause-refuses c =
    let taken = c.in_default.ensures in
    front_ok c.args.self.now _ _ _ (ap (λ (n : ℕ). Closed (n + 1)) c.closed-source.ensures.closed)
    (λ cause refused. absurd ((taken.refused cause).1 refused)) (λ broken. absurd (taken.broken.1 broken))
    (λ full. absurd (taken.pending_full.1 full))
