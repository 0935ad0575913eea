use Rattle.std.specs.Prelude.{take}
use Rattle.run_parts.specs.Targets.{AreHosts}
use Rattle.run_parts.proofs.targets.hosts_of.Given as goal

-- the hosts of the peers so far
abbrev pub invariant-loop-peer : goal.invariant-loop-peer
invariant-loop-peer l = AreHosts (take l.peer-index l.peers) l.hosts.items
