-- The station stands for the ledger that lay on the disks.
use Rattle.std.proofs.Common.{◌∙◌, ap, refl}
use Rattle.world_core.specs.Past.{limits_of}
use Rattle.world_core.proofs.TapeOpened.{each_there, opened_as, refused_as}
use Rattle.world_core.proofs.peer.StoppedPeer.open.Goals as goal

pub returns-in-Ok-clause-ok : goal.returns-in-Ok-clause-ok
returns-in-Ok-clause-ok c = λ past stands.
    let is = c.in-Ok.ensures in
    let h = past.tape.history in
    opened_as past _ _ _ stands.disks.log stands.disks.faults
    ((is.recovers h tt tt (each_there past _ stands.disks.log stands.disks.images)).recovers)
    ((is.opens tt tt).ok) is.fresh.works is.quiet is.fresh.ready
    (is.fresh.limits ∙ (c.limits_of.ensures ∙ ap limits_of stands.conf)) stands.conf refl

pub returns-in-Err-clause-err : goal.returns-in-Err-clause-err
returns-in-Err-clause-err c = λ past stands.
    let is = c.in-Err.ensures in
    let there = each_there past _ stands.disks.log stands.disks.images in
    refused_as past _ _ _ stands.disks.legal stands.disks.log stands.disks.faults
    ((is.recovers past.tape.history tt tt there).survives) stands.conf
    c.in-Err.refused.fault c.from_tape-fault.result c.from_tape-fault.ensures is.kinds
    ((is.recovers past.tape.history tt tt there).undamaged) ((is.causes tt tt).cause)
