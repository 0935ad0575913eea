-- How many connections all peers have.
use Rattle.std.specs.Prelude.{ℕ, List, min, sum_by}
use Rattle.feed_conf.specs.declared.conf.PeerConf.{PeerConf}

-- each has the number that its settings ask for, but at most `most`
abbrev pub connections_at : ℕ → List PeerConf → ℕ
connections_at most peers = sum_by (λ peer. min peer.max_connections most) peers
