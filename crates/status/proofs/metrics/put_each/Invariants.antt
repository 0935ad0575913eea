use Rattle.std.proofs.Common.{take}
use Rattle.std.specs.Io.KnownBytes.{Appends}
use Rattle.std.specs.Prelude.{flat_map}
use Rattle.status.specs.Metrics.{family_text}
use Rattle.status.proofs.metrics.put_each.Given as goal

abbrev pub invariant-loop-family : goal.invariant-loop-family
invariant-loop-family g l =
    Appends (g.W.Write.contents l.initial.out) (g.W.Write.contents l.out)
    (flat_map (family_text l.peers) (take l.family-index l.families))
