use Rattle.std.proofs.Common.{◌≡◌, ◌+◌, ◌≤◌, length, vec_capacity, vec_len}
use Rattle.std.specs.List.{AllZip}
use Rattle.world_core.specs.Halting.{HaltsAs}
use Rattle.world_core.proofs.halt.halt_each.Given as goal

-- each so far has stopped, and there is room for the others
abbrev pub invariant-loop-peer : goal.invariant-loop-peer
invariant-loop-peer l = record {
  stopped : AllZip HaltsAs l.yielded l.room.items;
  room : vec_len l.room + length l.peer-iterator.rest.items ≤ vec_capacity l.room;
  same : vec_capacity l.room ≡ vec_capacity l.fn.room;
}
