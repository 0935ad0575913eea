-- What the choice leaves of all disks.
use Rattle.std.proofs.Common.{List, Vec, refl, ap, ◌∙◌, subst}
use Rattle.std.specs.List.{AllZip}
use Rattle.std.specs.declared.alloc.Global.{Global}
use Rattle.world_core.specs.Halting.{IsLeftOf, with_disks}
use Rattle.world_core.specs.declared.peer.StoppedPeer.{StoppedPeer}
use Rattle.world_core.proofs.WorldStopped.{stands_left}
use Rattle.world_core.proofs.world.World.leave.Goals as goal

pub returns-clause-ok : goal.returns-clause-ok
returns-clause-ok c = λ life stands stopped.
    let disks = c.in_ok-disks.disks.items in
    stands_left c.args.self.now _ life c.args.choice c.in-Stopped.peers c.with_disks.result disks c.in-Stopped.intake
    c.in_ok-intake.field-0 stands stopped
    c.in-Stopped.is refl
    (c.with_disks.ensures ∙ ap (λ (v : Vec StoppedPeer Global). with_disks v.items disks)
    c.replace-stopped.ensures.value)
    (subst (λ (l : List StoppedPeer). AllZip (IsLeftOf c.args.choice) l disks) c.deref.ensures.value
    c.in_ok-disks.ensures)
    c.in_ok-intake.ensures refl refl refl
