-- A rotation of the station is one of the peer's tape.
use Rattle.world_core.specs.Safe.{KeepsNotes}
use Rattle.world_core.proofs.PeerCalls.{keeps_moments, with_station}
use Rattle.world_core.proofs.Results.{at_err, at_ok}
use Rattle.world_core.proofs.PeerRotates.{rotated_as, unrotated_as}
use Rattle.world_core.proofs.peer.Peer.rotate.Goals as goal
use Rattle.peer_queue.specs.Words.{tape_of}

pub returns-in-Ok-clause-ok : goal.returns-in-Ok-clause-ok
returns-in-Ok-clause-ok g c = λ past stands.
    let is = c.in-Ok.ensures in
    let h = past.tape.history in
    let done = rotated_as g.met.D.Disk.content_is_image (KeepsNotes past) past.tape (tape_of c.args.self.now.station)
    c.rotate.new.self.tape stands.tape
    (keeps_moments past _ _ ((is.rotates h stands.tape.stands).moments)) c.in-Ok.generation
    (at_ok is.refuses.broken) is.refuses.works
    (λ last. at_ok is.refuses.generation_full (at_ok is.refuses.broken, last))
    (λ long. at_ok is.refuses.full (
      at_ok is.refuses.broken,
      (λ last. at_ok is.refuses.generation_full (at_ok is.refuses.broken, last)),
      long,
    ))
    is.generation.0 is.generation.1 ((is.rotates h stands.tape.stands).ok) is.quiet in
    record {
      later = _;
      rotates = done.0;
      stands = with_station past c.args.self.now c.rotate.new.self _ stands is.keeps done.1;
    }

pub returns-in-Err-clause-err : goal.returns-in-Err-clause-err
returns-in-Err-clause-err g c = λ past stands.
    let is = c.in-Err.ensures in
    let h = past.tape.history in
    let done = unrotated_as g.met.D.Disk.content_is_image (KeepsNotes past) past.tape c.args.self.now.station
    c.rotate.new.self stands.tape
    (keeps_moments past _ _ ((is.rotates h stands.tape.stands).moments)) ((is.rotates h stands.tape.stands).stays)
    c.in-Err.fault c.from_station.result c.from_station.ensures (at_err is.refuses.broken)
    (at_err is.refuses.generation_full) (at_err is.refuses.full) is.refuses.kinds
    (λ never. (is.refuses.unchanged never).tape) (λ e. is.refuses.breaks cc)
    (λ e. (is.rotates h stands.tape.stands).cause cc) in
    record {
      later = done.later;
      refused = done.refused;
      stands = with_station past c.args.self.now c.rotate.new.self _ stands is.keeps done.stands;
    }
