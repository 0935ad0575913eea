use Rattle.std.proofs.Common.{◌+◌, ◌≤◌, length, vec_len}
use Rattle.world_core.specs.Halting.{TapesStop}
use Rattle.world_core.specs.Opening.{HasRoomFor, Tries}
use Rattle.world_core.specs.Past.{Past}
use Rattle.world_core.proofs.restart.open_all.Given as goal

-- these so far are done with, and there is room for the others
abbrev pub invariant-loop-peer : goal.invariant-loop-peer
invariant-loop-peer l = record {
  tries : (past : Past) → TapesStop past l.fn.peers.items l.fn.intake → Tries past l.opening l.peer-iterator.rest.items;
  count : vec_len l.opening.opened + length l.peer-iterator.rest.items ≤ vec_len l.fn.peers;
  room : HasRoomFor (length l.peer-iterator.rest.items) l.opening;
}
