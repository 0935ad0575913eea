-- What the station shed is dropped at the peer.
use Rattle.std.proofs.Common.{refl}
use Rattle.world_core.proofs.PeerRotates.{shed_as}
use Rattle.world_core.proofs.peer.Peer.shed.Goals as goal

pub returns-in-Ok-clause-ok : goal.returns-in-Ok-clause-ok
returns-in-Ok-clause-ok g c = λ past stands.
    let is = c.in-Ok.ensures in
    shed_as past c.args.self.now _ c.in-Ok.shed stands (λ b. let never = is.broken.1 b in cc)
    c.each_number_has_one_place.ensures.rising is.ok.set (is.ok.notes past.tape.history stands.tape.stands)
    is.ok.places is.disks is.works is.limits refl refl
