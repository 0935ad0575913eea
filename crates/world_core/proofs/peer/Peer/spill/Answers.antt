-- A flush of the station is one of the peer's tape.
use Rattle.std.proofs.Common.{ap}
use Rattle.world_core.specs.Safe.{KeepsNotes}
use Rattle.world_core.proofs.PeerCalls.{flushed_as, keeps_moments, unflushed_as, with_station}
use Rattle.world_core.proofs.Results.{at_err, at_ok}
use Rattle.world_core.proofs.peer.Peer.spill.Goals as goal
use Rattle.peer_queue.specs.Words.{tape_of}

pub returns-in-Ok-clause-ok : goal.returns-in-Ok-clause-ok
returns-in-Ok-clause-ok g c = λ past stands.
    let is = c.in-Ok.ensures in
    let h = past.tape.history in
    let done = flushed_as g.met.D.Disk.content_is_image (KeepsNotes past) past.tape (tape_of c.args.self.now.station)
    c.flush.new.self.tape stands.tape
    (keeps_moments past _ _ ((is.flushes h stands.tape.stands).moments))
    (at_ok is.refuses.broken) is.refuses.works (λ full. at_ok is.refuses.full (at_ok is.refuses.broken, full))
    (λ none. ap (λ s. s.tape) (is.empty none)) ((is.flushes h stands.tape.stands).ok) is.quiet in
    record {
      later = _;
      flushes = done.0;
      stands = with_station past c.args.self.now c.flush.new.self _ stands is.keeps done.1;
    }

pub returns-in-Err-clause-err : goal.returns-in-Err-clause-err
returns-in-Err-clause-err g c = λ past stands.
    let is = c.in-Err.ensures in
    let h = past.tape.history in
    let done = unflushed_as g.met.D.Disk.content_is_image (KeepsNotes past) past.tape c.args.self.now.station
    c.flush.new.self stands.tape
    (keeps_moments past _ _ ((is.flushes h stands.tape.stands).moments)) ((is.flushes h stands.tape.stands).stays)
    c.in-Err.fault c.from_station.result c.from_station.ensures (at_err is.refuses.broken)
    (at_err is.refuses.full) (λ none works. let never = is.empty_ok none works in cc) is.refuses.kinds
    is.refuses.unchanged (λ e. is.refuses.breaks cc) (λ e. (is.flushes h stands.tape.stands).cause
    cc) in
    record {
      later = done.later;
      refused = done.refused;
      stands = with_station past c.args.self.now c.flush.new.self _ stands is.keeps done.stands;
    }
