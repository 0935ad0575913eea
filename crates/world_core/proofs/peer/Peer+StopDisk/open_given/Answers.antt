-- The station stands for the ledger that the octets are.
use Rattle.std.proofs.Common.{◌∷◌, [], refl, ap, ◌∙◌, subst}
use Rattle.disk_model.specs.Disk.Event.{Made}
use Rattle.recovery.specs.Image.{IsNoTapeAt, Log}
use Rattle.recovery.specs.Tape.{contents_of}
use Rattle.world_core.specs.Given.{both_disks}
use Rattle.world_core.proofs.WorldMade.{both_are, opens_given, refuses_tape}
use Rattle.world_core.proofs.peer.Peer+StopDisk.open_given.Goals as goal

pub returns-in-Ok-clause-ok : goal.returns-in-Ok-clause-ok
returns-in-Ok-clause-ok c =
    let is = c.in-Ok.ensures in
    let first = c.in_ok-first.ensures in
    let second = c.in_ok-second.ensures in
    opens_given (both_disks c.args.given) _ _
    (both_are (first.log ∙ ap (λ octets. Made octets ∷ []) c.deref.ensures.value)
    (second.log ∙ ap (λ octets. Made octets ∷ []) c.deref-2.ensures.value))
    ((is.opens tt tt).ok) (is.quiet ∙ both_are first.faults second.faults)
    is.fresh.works is.fresh.ready (is.fresh.limits ∙ c.limits_of.ensures) refl refl

pub returns-in_default : goal.returns-in_default
returns-in_default c =
    let is = c.in-Err.ensures in
    let first = c.in_ok-first.ensures in
    let second = c.in_ok-second.ensures in
    let log = both_are (first.log ∙ ap (λ octets. Made octets ∷ []) c.deref.ensures.value)
    (second.log ∙ ap (λ octets. Made octets ∷ []) c.deref-2.ensures.value) in
    record {
      ok = tt;
      err = (
        refl,
        refuses_tape (both_disks c.args.given).1 c.in-Err.refused.fault is.kinds c.in_default.not-NoMemory
            (λ segment at fault. subst (λ (l : Log). IsNoTapeAt (contents_of l) segment at) log
            ((is.causes tt tt).damaged segment at fault)),
      );
    }
