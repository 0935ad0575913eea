-- The line at the peer is one event.
use Rattle.std.proofs.Common.{arith, refl}
use Rattle.world_core.proofs.StationCalls.{did_import, failed_import}
use Rattle.world_core.proofs.stations.Stations.import_at.Goals as goal

pub returns-clause-ok : goal.returns-clause-ok
returns-clause-ok g c = λ past stands.
    did_import c.args.self.now _ past c.args.rank c.index_mut-peer.result.now c.import.new.self stands (omega arith)
    c.index_mut-peer.ensures.value (record { peers = refl; intake = refl; last = refl; begun = refl })
    c.args.line.now.token c.args.line.now.id c.args.line.now.number c.import.result c.import.ensures.ok

pub returns-clause-err : goal.returns-clause-err
returns-clause-err g c = λ past stands.
    failed_import c.args.self.now _ past c.args.rank c.index_mut-peer.result.now c.import.new.self stands (omega arith)
    c.index_mut-peer.ensures.value (record { peers = refl; intake = refl; last = refl; begun = refl })
    c.args.line.now.token c.args.line.now.id c.args.line.now.number c.import.result c.import.ensures.err
