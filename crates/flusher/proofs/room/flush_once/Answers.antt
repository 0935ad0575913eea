use Rattle.flusher.proofs.Keeps.{keeps_flushed}
use Rattle.flusher.proofs.room.flush_once.Goals as goal

pub returns-in-Ok-clause-kept : goal.returns-in-Ok-clause-kept
returns-in-Ok-clause-kept g c kept =
    let e = c.flush.ensures in
    keeps_flushed c.args.station.now c.flush.new.self c.flush.result e.continues.honest
    (λ h stands. (e.flushes h stands).ok) (λ h stands. (e.flushes h stands).stays) kept

pub returns-in-Err-clause-kept : goal.returns-in-Err-clause-kept
returns-in-Err-clause-kept g c kept =
    let e = c.flush.ensures in
    keeps_flushed c.args.station.now c.flush.new.self c.flush.result e.continues.honest
    (λ h stands. (e.flushes h stands).ok) (λ h stands. (e.flushes h stands).stays) kept
