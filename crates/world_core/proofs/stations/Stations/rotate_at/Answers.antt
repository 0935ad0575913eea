-- The rotation of the peer is one event.
use Rattle.std.proofs.Common.{arith, refl}
use Rattle.world_core.proofs.StationCalls.{did_rotate, failed_rotate}
use Rattle.world_core.proofs.stations.Stations.rotate_at.Goals as goal

pub returns-clause-ok : goal.returns-clause-ok
returns-clause-ok g c = λ past stands.
    did_rotate c.args.self.now _ past c.args.rank c.index_mut-peer.result.now c.rotate.new.self stands (omega arith)
    c.index_mut-peer.ensures.value (record { peers = refl; intake = refl; last = refl; begun = refl })
    c.rotate.result c.rotate.ensures.ok

pub returns-clause-err : goal.returns-clause-err
returns-clause-err g c = λ past stands.
    failed_rotate c.args.self.now _ past c.args.rank c.index_mut-peer.result.now c.rotate.new.self stands (omega arith)
    c.index_mut-peer.ensures.value (record { peers = refl; intake = refl; last = refl; begun = refl })
    c.rotate.result c.rotate.ensures.err
