use Rattle.recovery.specs.Notes.{found}
use Rattle.flusher.proofs.Keeps.{kept_flushed}
use Rattle.flusher.specs.Kept.{IsKept}
use Rattle.flusher.proofs.peer.PostPeer.open.Goals as goal

pub invariant_of-result : goal.invariant_of-result
invariant_of-result g c =
    let station = c.in-Ok.station in
    let kept : ∥ IsKept station ∥₁ = ∣ (λ honest.
    let was = c.in-Ok.ensures.honest.1 honest in
    let k = (c.in-Ok.ensures.opens was.0 was.1).ok in (found k.state, k.stands)) ∣₁ in
    record { kept = kept; on_disks = kept_flushed station kept }

pub returns-clause-opens : goal.returns-clause-opens
returns-clause-opens g c a b =
    let e = c.in-Ok.ensures.opens a b in record { ok = e.ok; err = e.err }

pub returns-clause-recovers : goal.returns-clause-recovers
returns-clause-recovers g c h a b left =
    let e = c.in-Ok.ensures.recovers h a b left in
    record { recovers = e.recovers; survives = e.survives; undamaged = e.undamaged }

pub returns-in-Err-clause-recovers : goal.returns-in-Err-clause-recovers
returns-in-Err-clause-recovers g c h a b left =
    let e = c.in-Err.ensures.recovers h a b left in
    record { recovers = e.recovers; survives = e.survives; undamaged = e.undamaged }
