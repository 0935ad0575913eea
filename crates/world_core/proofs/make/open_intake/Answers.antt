-- The tape stands for the ledger that the octets are.
use Rattle.std.proofs.Common.{◌∷◌, [], ap, ◌∙◌, subst}
use Rattle.disk_model.specs.Disk.Event.{Made}
use Rattle.recovery.specs.Image.{IsNoTapeAt, Log}
use Rattle.recovery.specs.Tape.{contents_of}
use Rattle.world_core.specs.Given.{octets_of}
use Rattle.world_core.proofs.WorldMade.{both_are, opens_intake, refuses_tape}
use Rattle.world_core.proofs.make.open_intake.Goals as goal

pub returns-in-Ok : goal.returns-in-Ok
returns-in-Ok c =
    let is = c.in-Ok.ensures in
    let first = c.in_ok-first.ensures in
    let second = c.in_ok-second.ensures in
    record {
      ok = opens_intake (octets_of c.args.given) _ c.in-Ok.tape
          (both_are (first.log ∙ ap (λ octets. Made octets ∷ []) c.deref.ensures.value)
          (second.log ∙ ap (λ octets. Made octets ∷ []) c.deref-2.ensures.value))
          ((is.opens tt tt).ok) (is.quiet ∙ both_are first.faults second.faults) is.fresh.works;
      err = tt;
    }

pub returns : goal.returns
returns c =
    let is = c.in-Err.ensures in
    let first = c.in_ok-first.ensures in
    let second = c.in_ok-second.ensures in
    let log = both_are (first.log ∙ ap (λ octets. Made octets ∷ []) c.deref.ensures.value)
    (second.log ∙ ap (λ octets. Made octets ∷ []) c.deref-2.ensures.value) in
    record {
      ok = tt;
      err = refuses_tape (octets_of c.args.given) c.in-Err.refused.fault is.kinds c.in_default.not-NoMemory
          (λ segment at fault. subst (λ (l : Log). IsNoTapeAt (contents_of l) segment at) log
          ((is.causes tt tt).damaged segment at fault));
    }
