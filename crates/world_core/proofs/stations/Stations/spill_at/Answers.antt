-- The flush of the peer is one event.
use Rattle.std.proofs.Common.{arith, refl}
use Rattle.world_core.proofs.StationCalls.{did_spill, failed_spill}
use Rattle.world_core.proofs.stations.Stations.spill_at.Goals as goal

pub returns-clause-ok : goal.returns-clause-ok
returns-clause-ok g c = λ past stands.
    did_spill c.args.self.now _ past c.args.rank c.index_mut-peer.result.now c.spill.new.self stands (omega arith)
    c.index_mut-peer.ensures.value (record { peers = refl; intake = refl; last = refl; begun = refl })
    c.spill.result c.spill.ensures.ok

pub returns-clause-err : goal.returns-clause-err
returns-clause-err g c = λ past stands.
    failed_spill c.args.self.now _ past c.args.rank c.index_mut-peer.result.now c.spill.new.self stands (omega arith)
    c.index_mut-peer.ensures.value (record { peers = refl; intake = refl; last = refl; begun = refl })
    c.spill.result c.spill.ensures.err
