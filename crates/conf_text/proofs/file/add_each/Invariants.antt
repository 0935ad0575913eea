use Rattle.std.proofs.Common.{◌≡◌, ◌++◌, flat_map, take}
use Rattle.feed_conf.specs.PeerView.{settings_view}
use Rattle.conf_text.specs.ConfText.{peer_text}
use Rattle.conf_text.proofs.file.add_each.Given as goal

-- the peers so far were added
abbrev pub invariant-loop-peer : goal.invariant-loop-peer
invariant-loop-peer l =
    l.out.items
    ≡ l.initial.out.items ++ flat_map (λ peer. peer_text (settings_view peer)) (take l.peer-index l.peers)
