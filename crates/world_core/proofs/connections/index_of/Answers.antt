-- A connection has the number, or none has.
use Rattle.std.proofs.Common.{rules}
use Rattle.std.specs.Ordering.{nat_cmp}
use Rattle.std.proofs.lemmas.Fn.{always_returns_same}
use Rattle.world_core.proofs.ConnectionFound.{search_none, search_some}
use Rattle.world_core.proofs.connections.index_of.Goals as goal

pub returns-clause-some : goal.returns-clause-some
returns-clause-some c =
    search_some c.args.id c.args.connections.now c.binary_search_by.result c.ok.result c.ok.ensures.value
    c.binary_search_by.ensures.bound
    (c.binary_search_by.ensures.position (λ connection. nat_cmp connection.conn.id.0 c.args.id)
    (always_returns_same _ _ _ (λ a r q k. search rules)))

pub returns-clause-none : goal.returns-clause-none
returns-clause-none c =
    search_none c.args.id c.args.connections.now c.binary_search_by.result c.ok.result c.ok.ensures.value
    (c.binary_search_by.ensures.position (λ connection. nat_cmp connection.conn.id.0 c.args.id)
    (always_returns_same _ _ _ (λ a r q k. search rules)))
