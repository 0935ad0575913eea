use Rattle.std.proofs.Common.{length, map}
use Rattle.std.specs.List.{AllZip}
use Rattle.feed_conf.specs.declared.conf.PeerConf.{PeerConf}
use Rattle.drill_script.specs.Draft.{HaveOtherNames, IsGiven}
use Rattle.drill_script.proofs.Held.{KeepsFrom}
use Rattle.drill_script.proofs.draft.with_tapes.Given as goal

-- the peers so far are given their tapes, and the tapes of the others are as they were
abbrev pub invariant-loop-conf : goal.invariant-loop-conf
invariant-loop-conf l = record {
  each : HaveOtherNames l.fn.peers.items
      → AllZip (IsGiven l.initial.firsts l.initial.seconds) l.yielded l.given.items;
  firsts : HaveOtherNames l.fn.peers.items →
      KeepsFrom (map (λ (conf : PeerConf). conf.name) l.fn.peers.items) (length l.yielded) l.initial.firsts l.firsts;
  seconds : HaveOtherNames l.fn.peers.items →
      KeepsFrom (map (λ (conf : PeerConf). conf.name) l.fn.peers.items) (length l.yielded) l.initial.seconds l.seconds;
}
