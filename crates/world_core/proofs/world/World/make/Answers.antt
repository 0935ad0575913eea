-- The tape of each peer is empty.
use Rattle.std.proofs.Common.{subst}
use Rattle.world_core.specs.Given.{RefusesTapes}
use Rattle.world_core.proofs.WorldMade.{begins, make_fault, same_names}
use Rattle.world_core.proofs.world.World.make.Goals as goal

pub with_tapes-requires : goal.with_tapes-requires
with_tapes-requires c = record {
  distinct = same_names c.args.peers.items c.in_ok-given.given.items c.in_ok-given.ensures c.requires.distinct;
}

pub returns-in-Ok-clause-begins : goal.returns-in-Ok-clause-begins
returns-in-Ok-clause-begins c =
    begins c.args.peers.items c.in_ok-given.given.items c.in-Ok.world c.in_ok-given.ensures c.in-Ok.ensures.begins

pub returns-in-Err-Tape-clause-kinds : goal.returns-in-Err-Tape-clause-kinds
returns-in-Err-Tape-clause-kinds c =
    let given = c.in_ok-given.given.items in
    make_fault c.args.peers.items given c.in-Err-Tape.field-0-0 c.in-Err-Tape.fault c.in_ok-given.ensures
    (subst (RefusesTapes given) c.in-Err-Tape.field-0-is c.in-Err-Tape.ensures.refuses)
