use Rattle.std.specs.Prelude.{◌≡◌, [], drop}
use Rattle.kept_lines.specs.Lines.{others_of}
use Rattle.kept_lines.specs.Names.{AreRising}
use Rattle.kept_lines.proofs.read_line.others_of.Given as goal

-- those so far, with what the rest adds
abbrev pub invariant-loop-peer : goal.invariant-loop-peer
invariant-loop-peer l =
    AreRising l.names → others_of l.names l.others.items (drop l.peer-index l.peers) ≡ others_of l.names [] l.peers
