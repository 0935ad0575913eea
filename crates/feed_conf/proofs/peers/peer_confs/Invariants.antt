use Rattle.std.proofs.Common.{◌≡◌, List, map, take, drop}
use Rattle.std.specs.List.{find}
use Rattle.feed_conf.specs.Reading.{Use}
use Rattle.feed_conf.specs.ReaderView.{declared_view}
use Rattle.feed_conf.specs.Settings.{settings_of, is_low_above_high}
use Rattle.feed_conf.specs.TableView.{IsTableOf}
use Rattle.feed_conf.specs.PeerView.{settings_view}
use Rattle.feed_conf.proofs.peers.peer_confs.Given as goal

abbrev pub invariant-loop-peer : goal.invariant-loop-peer
invariant-loop-peer l = (uses : List Use) → IsTableOf l.table uses →
    (map settings_view l.confs.items ≡ map (settings_of uses l.outer) (map declared_view (take l.peer-index l.peers)))
    × (find (is_low_above_high uses l.outer) (map declared_view (drop l.peer-index l.peers)) ≡ find
    (is_low_above_high uses l.outer) (map declared_view l.peers))
