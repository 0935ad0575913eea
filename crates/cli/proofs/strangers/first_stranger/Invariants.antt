use Rattle.std.proofs.Common.{◌≡◌, drop, map}
use Rattle.feed_conf.specs.ConfView.{conf_view}
use Rattle.cli.specs.Strangers.{first_stranger}
use Rattle.cli.proofs.strangers.first_stranger.Given as goal

-- none of the names before was a stranger
abbrev pub invariant-loop-name : goal.invariant-loop-name
invariant-loop-name l =
    first_stranger (conf_view l.conf) (map (λ octets. octets.now) (drop l.name-index l.names))
    ≡ first_stranger (conf_view l.conf) (map (λ octets. octets.now) l.names)
