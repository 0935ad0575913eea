use Rattle.std.proofs.Common.{map}
use Rattle.std.specs.List.{AllZip}
use Rattle.world_core.specs.Given.{OpensGiven, both_disks}
use Rattle.world_core.proofs.make.open_each.Given as goal

-- those so far were opened
abbrev pub invariant-loop-peer : goal.invariant-loop-peer
invariant-loop-peer l = AllZip OpensGiven (map both_disks l.yielded) l.peers.items
