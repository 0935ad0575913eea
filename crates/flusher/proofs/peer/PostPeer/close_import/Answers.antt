use Rattle.flusher.proofs.Keeps.{keeps_closed, kept_flushed}
use Rattle.flusher.proofs.peer.PostPeer.close_import.Goals as goal

pub invariant_of-self : goal.invariant_of-self
invariant_of-self g c =
    let e = c.close_import.ensures in
    let new = c.close_import.new.self in
    let kept = keeps_closed c.args.self.now.station new c.close_import.result e.closed e.refuses.unchanged
    c.args.self.now.kept in
    record { kept = kept; on_disks = kept_flushed new kept }
