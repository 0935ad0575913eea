use Rattle.flusher.proofs.Keeps.{keeps_owed, kept_flushed}
use Rattle.flusher.proofs.peer.PostPeer.import.Goals as goal

pub invariant_of-self : goal.invariant_of-self
invariant_of-self g c =
    let e = c.import.ensures in
    let new = c.import.new.self in
    let kept = keeps_owed c.args.self.now.station new _ c.import.result e.new e.unchanged e.refuses.unchanged
    c.args.self.now.kept in
    record { kept = kept; on_disks = kept_flushed new kept }
