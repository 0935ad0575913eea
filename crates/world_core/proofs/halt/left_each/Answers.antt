-- The disks of one more are left at each turn.
use Rattle.std.proofs.Common.{◌≡◌, ◌+◌, ◌∷◌, [], ◌++◌, List, take, sym, ap, ◌∙◌, subst, arith}
use Rattle.std.specs.List.{AllZip}
use Rattle.std.proofs.lemmas.List.{take_all, take_more}
use Rattle.world_core.specs.Halting.{IsLeftOf}
use Rattle.world_core.specs.declared.peer.StoppedPeer.{StoppedPeer}
use Rattle.world_core.specs.declared.stop.StopDisk.{StopDisk}
use Rattle.world_core.proofs.RelatedLists.{zip_push}
use Rattle.world_core.proofs.halt.left_each.Goals as goal

pub loop-peer-init : goal.loop-peer-init
loop-peer-init c = subst (λ (disks : List (StopDisk × StopDisk)). AllZip (IsLeftOf c.args.choice) [] disks)
    (sym c.new-disks.ensures.items) tt

pub loop-peer-preserved : goal.loop-peer-preserved
loop-peer-preserved c =
    let l = c.loop-peer in
    let peers = c.args.peers.now in
    let peer = c.peer-item.result in
    let more : take (l.peer-index + 1) peers ≡ take l.peer-index peers ++ peer ∷ [] =
    take_more peers l.peer-index peer (omega (arith, c.loop-peer-test.true))
    ∙ ap (λ (p : StoppedPeer). take l.peer-index peers ++ p ∷ []) (sym c.peer-item.is) in
    subst (λ (ps : List StoppedPeer). AllZip (IsLeftOf c.args.choice) ps c.push.new.self.items) (sym more)
    (subst (λ (disks : List (StopDisk × StopDisk)).
    AllZip (IsLeftOf c.args.choice) (take l.peer-index peers ++ peer ∷ []) disks) (sym c.in_ok-push.ensures.items)
    (zip_push (IsLeftOf c.args.choice) (take l.peer-index peers) l.disks.items peer c.in_ok-left_disks.field-0
    l.invariant c.in_ok-left_disks.ensures))

pub returns : goal.returns
returns c =
    let l = c.loop-peer in
    subst (λ (ps : List StoppedPeer). AllZip (IsLeftOf c.args.choice) ps l.disks.items)
    (take_all l.peer-index c.args.peers.now (omega (arith, c.loop-peer-test.false))) l.invariant
