use Rattle.flusher.proofs.Keeps.{keeps_flushed}
use Rattle.flusher.proofs.room.rotate_full.Goals as goal

pub returns-in-Ok-clause-kept : goal.returns-in-Ok-clause-kept
returns-in-Ok-clause-kept g c kept =
    let e = c.rotate.ensures in
    keeps_flushed c.args.station.now c.rotate.new.self c.rotate.result e.continues.honest
    (λ h stands. (e.rotates h stands).ok) (λ h stands. (e.rotates h stands).stays) kept

pub returns-in-Err-Tape-GenerationFull-clause-kept : goal.returns-in-Err-Tape-GenerationFull-clause-kept
returns-in-Err-Tape-GenerationFull-clause-kept g c kept =
    let e = c.rotate.ensures in
    keeps_flushed c.args.station.now c.rotate.new.self c.rotate.result e.continues.honest
    (λ h stands. (e.rotates h stands).ok) (λ h stands. (e.rotates h stands).stays) kept

pub returns-in-Err-clause-kept : goal.returns-in-Err-clause-kept
returns-in-Err-clause-kept g c kept =
    let e = c.rotate.ensures in
    keeps_flushed c.args.station.now c.rotate.new.self c.rotate.result e.continues.honest
    (λ h stands. (e.rotates h stands).ok) (λ h stands. (e.rotates h stands).stays) kept
