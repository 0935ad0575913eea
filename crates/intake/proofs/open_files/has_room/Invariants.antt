use Rattle.std.specs.Prelude.{◌≡◌, ◌+◌, take}
use Rattle.intake.specs.OpenFiles.{connections_at}
use Rattle.intake.proofs.open_files.has_room.Given as goal

-- what is left of the room beside the connections so far
abbrev pub invariant-loop-peer : goal.invariant-loop-peer
invariant-loop-peer l = l.left + connections_at l.fn.share (take l.peer-index l.peers) ≡ l.fn.room
