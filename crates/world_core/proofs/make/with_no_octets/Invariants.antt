use Rattle.std.specs.List.{AllZip}
use Rattle.world_core.specs.Making.{HasNoOctets}
use Rattle.world_core.proofs.make.with_no_octets.Given as goal

-- those so far have none
abbrev pub invariant-loop-conf : goal.invariant-loop-conf
invariant-loop-conf l = AllZip HasNoOctets l.yielded l.given.items
