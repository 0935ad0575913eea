use Rattle.std.proofs.Common.{◌≡◌, map}
use Rattle.world_core.specs.Given.{both_disks, first_alone}
use Rattle.world_core.proofs.make.with_empty_disks.Given as goal

-- those so far have an empty second disk
abbrev pub invariant-loop-conf : goal.invariant-loop-conf
invariant-loop-conf l = map both_disks l.given.items ≡ map first_alone l.yielded
