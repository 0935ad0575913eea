use Rattle.flusher.proofs.Keeps.{kept_flushed}
use Rattle.flusher.proofs.peer.PostPeer.flush_or_rotate.Goals as goal

pub invariant_of-self : goal.invariant_of-self
invariant_of-self g c =
    let kept = c.flush_or_rotate.ensures.kept c.args.self.now.kept in
    record { kept = kept; on_disks = kept_flushed _ kept }
