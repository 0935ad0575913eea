use Rattle.std.proofs.Common.{◌≡◌, ◌+◌, ◌≤◌, ◌++◌, length, vec_capacity, vec_len}
use Rattle.world_core.specs.Halting.{with_disks}
use Rattle.world_core.proofs.halt.with_disks.Given as goal

-- those so far have their disks, and there is room for the others
abbrev pub invariant-loop-peer : goal.invariant-loop-peer
invariant-loop-peer l = record {
  all : with_disks l.fn.peers.items l.fn.disks.items
      ≡ l.room.items ++ with_disks l.peer-iterator.rest.items l.disks.rest.items;
  room : vec_len l.room + length l.peer-iterator.rest.items ≤ vec_capacity l.room;
}
