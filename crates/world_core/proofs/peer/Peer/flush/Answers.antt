-- The peer was flushed, and counts as flushed since a number was kept.
use Rattle.std.proofs.Common.{refl}
use Rattle.world_core.proofs.Results.{if_err_is}
use Rattle.world_core.proofs.peer.Peer.flush.Goals as goal

pub returns-in_err-spill-clause-err : goal.returns-in_err-spill-clause-err
returns-in_err-spill-clause-err g c = λ past stands.
    if_err_is c.from_residual.result _ _ c.from_residual.ensures.1 (c.in_err-spill.ensures.err past stands)

pub returns-clause-ok : goal.returns-clause-ok
returns-clause-ok g c = λ past stands.
    let done = c.in_ok-spill.ensures.ok past stands in
    record {
      later = done.later;
      flushes = done.flushes;
      stands = record {
        conf = done.stands.conf;
        limits = done.stands.limits;
        tape = done.stands.tape;
        places = done.stands.places;
        parted = refl;
      };
    }
