use Rattle.std.proofs.Common.{◌≡◌, ℕ, ap, sym, ◌∙◌}
use Rattle.ledger_core.specs.State.{State, keys}
use Rattle.recovery.specs.declared.fault.TapeFault.{TapeFault}
use Rattle.recovery.specs.declared.fault.TapeFault.TheVariants.{Damaged, Disk, Broken, TapeFull, GenerationFull, PendingFull}
use Rattle.recovery.specs.declared.fault.TapeFault.TheVariants.{NoMemory, Note}
use Rattle.recovery.specs.Notes.{flushed}
use Rattle.peer_queue.specs.declared.fault.StationFault.TheVariants.{Tape}
use Rattle.peer_queue.specs.Faults.{station_fault}
use Rattle.peer_queue.specs.DebtPlace.{all_ready}
use Rattle.peer_queue.proofs.Reopens.{same_ledger, stands_whole, survives_now}
use Rattle.peer_queue.proofs.laws.reopened.Goals as goal

pub returns-in-Ok-clause-stands : goal.returns-in-Ok-clause-stands
returns-in-Ok-clause-stands g c = λ h stands.
    let left = c.into_disks-a.ensures.survives (flushed h) (c.in_default.ensures.flushes h stands).ok in
    stands_whole h _ c.in-Ok.opened.tape (c.in-Ok.ensures.recovers
    (flushed h) left.0 left.1 left.2).recovers

pub returns-in-Ok-clause-ledger : goal.returns-in-Ok-clause-ledger
returns-in-Ok-clause-ledger g c = λ h stands.
    let left = c.into_disks-a.ensures.survives (flushed h) (c.in_default.ensures.flushes h stands).ok in
    same_ledger h c.in-Ok.opened.tape c.args.station.tape (stands_whole h
    _ c.in-Ok.opened.tape (c.in-Ok.ensures.recovers
    (flushed h) left.0 left.1 left.2).recovers) stands

pub returns-in-Ok-clause-ready : goal.returns-in-Ok-clause-ready
returns-in-Ok-clause-ready g c = λ h stands.
    let left = c.into_disks-a.ensures.survives (flushed h) (c.in_default.ensures.flushes h stands).ok in
    c.in-Ok.ensures.fresh.ready
    ∙ ap (λ (state : State). all_ready (keys state))
    (same_ledger h c.in-Ok.opened.tape c.args.station.tape (stands_whole h
    _ c.in-Ok.opened.tape (c.in-Ok.ensures.recovers
    (flushed h) left.0 left.1 left.2).recovers) stands)

pub returns-in-Err-open-clause-survives : goal.returns-in-Err-open-clause-survives
returns-in-Err-open-clause-survives g c = λ h stands.
    let left = c.into_disks-a.ensures.survives (flushed h) (c.in_default.ensures.flushes h stands).ok in (
      (c.in-Err-open.ensures.honest.0 (left.0, left.1)).0,
      (c.in-Err-open.ensures.honest.0 (left.0, left.1)).1,
      survives_now h _ _ stands.kept_within
          (c.in-Err-open.ensures.recovers (flushed h) left.0 left.1 left.2).survives,
    )

-- a station reports damage only if its tape does
damaged_there : (fault : TapeFault) (segment at : ℕ) → station_fault fault ≡ Tape (Damaged segment at)
    → fault ≡ Damaged segment at
damaged_there (Damaged s a) segment at told = cc
damaged_there Disk segment at told = cc
damaged_there Broken segment at told = cc
damaged_there TapeFull segment at told = cc
damaged_there GenerationFull segment at told = cc
damaged_there PendingFull segment at told = cc
damaged_there NoMemory segment at told = cc
damaged_there (Note fault) segment at told = cc

pub returns-in-Err-open-clause-undamaged : goal.returns-in-Err-open-clause-undamaged
returns-in-Err-open-clause-undamaged g c = λ h stands segment at told.
    let left = c.into_disks-a.ensures.survives (flushed h) (c.in_default.ensures.flushes h stands).ok in
    (c.in-Err-open.ensures.recovers (flushed h) left.0 left.1 left.2).undamaged segment at
    (damaged_there c.in-Err-open.field-0.fault segment at (sym c.station_fault.ensures ∙ told))
