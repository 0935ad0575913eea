-- The peer's flush is one event.
use Rattle.std.proofs.Common.{arith, refl}
use Rattle.world_core.proofs.StationCalls.{did_part, failed_part}
use Rattle.world_core.proofs.stations.Stations.part_at.Goals as goal

pub returns-clause-ok : goal.returns-clause-ok
returns-clause-ok g c = λ past stands.
    did_part c.args.self.now _ past c.args.rank c.index_mut-peer.result.now c.flush.new.self stands (omega arith)
    c.index_mut-peer.ensures.value (record { peers = refl; intake = refl; last = refl; begun = refl })
    c.flush.result c.flush.ensures.ok

pub returns-clause-err : goal.returns-clause-err
returns-clause-err g c = λ past stands.
    failed_part c.args.self.now _ past c.args.rank c.index_mut-peer.result.now c.flush.new.self stands (omega arith)
    c.index_mut-peer.ensures.value (record { peers = refl; intake = refl; last = refl; begun = refl })
    c.flush.result c.flush.ensures.err
