-- The limit and the factor of a backlog are at most the greatest of their keys.
use Rattle.std.proofs.Common.{◌≤◌, sym, subst}
use Rattle.feed_conf.specs.ReaderView.{declared_view}
use Rattle.feed_conf.specs.declared.key.SettingKey.TheVariants.{BacklogLimit, BacklogFactor}
use Rattle.feed_conf.proofs.Bounds.{value-within, product-fits}
use Rattle.feed_conf.proofs.peers.peer_conf.Goals as goal

pub high_water-backlog_high-requires : goal.high_water-backlog_high-requires
high_water-backlog_high-requires c =
    let uses = c.requires.0 in
    let peer = declared_view c.args.peer.now in
    let limit : c.number-backlog_limit.result ≤ 4294967296 =
    subst (λ n. n ≤ 4294967296) (sym (c.number-backlog_limit.ensures uses c.requires.1))
    (value-within uses c.args.outer.now peer BacklogLimit c.requires.2) in
    let factor : c.number-factor.result ≤ 10000 =
    subst (λ n. n ≤ 10000) (sym (c.number-factor.ensures uses c.requires.1))
    (value-within uses c.args.outer.now peer BacklogFactor c.requires.2) in
    product-fits c.number-backlog_limit.result c.number-factor.result limit factor
