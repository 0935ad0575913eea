use Rattle.std.specs.Prelude.{◌≡◌, ◌++◌, [], List, false}
use Rattle.feed_conf.specs.declared.conf.PeerConf.{PeerConf}
use Rattle.intake.specs.Tapes.{AreParted, AreStations}
use Rattle.intake.specs.declared.tapes.LeftOut.{LeftOut}
use Rattle.intake.proofs.tapes.open_peers.Given as goal

-- those so far are open or left out, whatever becomes of the rest
abbrev pub invariant-loop-conf : goal.invariant-loop-conf
invariant-loop-conf l = record {
  can_next : goal.iterator-loop-conf.can_next l.conf-iterator;
  finite : goal.iterator-loop-conf.is_finite l.conf-iterator;
  stations : AreStations l.opened.confs.items l.opened.peers.items;
  parted : (confs : List PeerConf) (left_out : List LeftOut) → AreParted l.conf-iterator.rest.items confs left_out
      → AreParted l.fn.peers.items (l.opened.confs.items ++ confs) (l.opened.left_out.items ++ left_out);
  all : l.leaves_out ≡ false → l.opened.left_out.items ≡ [];
}
