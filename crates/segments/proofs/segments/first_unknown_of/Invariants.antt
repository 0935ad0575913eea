-- Those that were looked at and are above the number are known.
use Rattle.std.proofs.Common.{take}
use Rattle.std.specs.Prelude.{◌<◌, All, Contains}
use Rattle.segments.proofs.segments.first_unknown_of.Given as goal

abbrev pub invariant-loop-first : goal.invariant-loop-first
invariant-loop-first l = All (λ first. l.above < first → Contains l.known first) (take l.first-index l.firsts)
