-- The line at the peer is one event.
use Rattle.std.proofs.Common.{arith, refl}
use Rattle.world_core.proofs.StationCalls.{did_owe, failed_owe}
use Rattle.world_core.proofs.stations.Stations.owe_at.Goals as goal

pub returns-clause-ok : goal.returns-clause-ok
returns-clause-ok g c = λ past stands.
    did_owe c.args.self.now _ past c.args.rank c.index_mut-peer.result.now c.owe.new.self stands (omega arith)
    c.index_mut-peer.ensures.value (record { peers = refl; intake = refl; last = refl; begun = refl })
    c.args.token.now c.args.id.now c.owe.result c.owe.ensures.ok

pub returns-clause-err : goal.returns-clause-err
returns-clause-err g c = λ past stands.
    failed_owe c.args.self.now _ past c.args.rank c.index_mut-peer.result.now c.owe.new.self stands (omega arith)
    c.index_mut-peer.ensures.value (record { peers = refl; intake = refl; last = refl; begun = refl })
    c.args.token.now c.args.id.now c.owe.result c.owe.ensures.err
