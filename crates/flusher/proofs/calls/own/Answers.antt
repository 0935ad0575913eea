use Rattle.std.proofs.Common.{refl}
use Rattle.flusher.proofs.calls.own.Goals as goal

pub returns-then-deref-peer-clause-stray : goal.returns-then-deref-peer-clause-stray
returns-then-deref-peer-clause-stray g c =
    (refl, record { found = c.deref.result.now; stray = c.if-deref-peer.true })
