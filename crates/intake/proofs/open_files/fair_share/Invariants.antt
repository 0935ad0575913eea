use Rattle.std.specs.Prelude.{◌≤◌, length}
use Rattle.intake.specs.OpenFiles.{connections_at}
use Rattle.intake.proofs.open_files.fair_share.Given as goal

-- `share` connections for each peer fit, if one for each does
abbrev pub invariant-loop-share : goal.invariant-loop-share
invariant-loop-share l = length l.peers ≤ l.room → connections_at l.share l.peers ≤ l.room
