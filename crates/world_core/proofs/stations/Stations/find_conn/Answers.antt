-- The connection of the number has a peer.
use Rattle.std.proofs.Common.{sym, subst, arith}
use Rattle.std.proofs.lemmas.Option.{slice_get-get_or}
use Rattle.world_core.specs.Joined.{FoundConn}
use Rattle.world_core.proofs.ConnectionFound.{found_conn, found_not, rank_within, rising_there}
use Rattle.world_core.proofs.stations.Stations.find_conn.Goals as goal

pub returns-in_err-index-clause-found : goal.returns-in_err-index-clause-found
returns-in_err-index-clause-found g c = λ life running.
    subst (FoundConn life c.args.id) (sym c.from_residual.ensures)
    (found_not life c.args.self.now c.args.connections.now c.args.id running
    (c.in_err-index.ensures.none (rising_there life c.args.self.now c.args.connections.now running)))

pub returns-then-rank-len-clause-found : goal.returns-then-rank-len-clause-found
returns-then-rank-len-clause-found g c = λ life running.
    found_conn life c.args.self.now c.args.connections.now c.args.id c.in_ok-index.index _ running
    (slice_get-get_or c.args.connections.now c.in_ok-index.index c.index-connections-index.result
    c.in_ok-index.ensures.some.0)
    c.in_ok-index.ensures.some.1

pub returns-else-rank-len-clause-found : goal.returns-else-rank-len-clause-found
returns-else-rank-len-clause-found g c = λ life running.
    let inside = rank_within life c.args.self.now c.args.connections.now c.args.id c.in_ok-index.index _ running
    (slice_get-get_or c.args.connections.now c.in_ok-index.index c.index-connections-index.result
    c.in_ok-index.ensures.some.0)
    c.in_ok-index.ensures.some.1 in
    absurd (omega (arith, inside, c.if-rank-len.false, c.len.ensures))
