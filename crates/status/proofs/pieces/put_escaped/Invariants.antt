use Rattle.std.proofs.Common.{take}
use Rattle.std.specs.Io.KnownBytes.{Appends}
use Rattle.std.specs.Prelude.{flat_map}
use Rattle.status.specs.Pieces.{octet_text}
use Rattle.status.proofs.pieces.put_escaped.Given as goal

abbrev pub invariant-loop-octet : goal.invariant-loop-octet
invariant-loop-octet g l =
    Appends (g.W.Write.contents l.initial.out) (g.W.Write.contents l.out)
    (flat_map (octet_text) (take l.octet-index l.text))
