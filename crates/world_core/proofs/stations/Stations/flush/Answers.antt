-- Each peer is flushed, and then the kept number is sealed.
use Rattle.std.proofs.Common.{◌∙◌}
use Rattle.world_core.specs.Steps.{begun_at}
use Rattle.world_core.proofs.Results.{if_err, if_err_is}
use Rattle.world_core.proofs.TapeSteps.{flush_failed_part, flush_failed_seal, flush_memory, flush_took, pushed}
use Rattle.world_core.proofs.TapeSteps.{sealable_begun}
use Rattle.world_core.proofs.stations.Stations.flush.Goals as goal

pub returns-in_err-outputs-clause-err : goal.returns-in_err-outputs-clause-err
returns-in_err-outputs-clause-err g c = λ past stands.
    if_err c.from_residual.result _ _ c.from_residual.ensures.1
    (λ halt memory. flush_memory past halt c.args.self.now memory stands)

pub returns-in_err-part_each-clause-err : goal.returns-in_err-part_each-clause-err
returns-in_err-part_each-clause-err g c = λ past stands.
    if_err_is c.from_residual-in_err-part_each.result _ _ c.from_residual-in_err-part_each.ensures.1
    (flush_failed_part past _ c.part_each.new.self
    (c.in_err-part_each.ensures.err (begun_at past) (c.begin.ensures past stands)))

pub returns-in-Err-clause-err : goal.returns-in-Err-clause-err
returns-in-Err-clause-err g c = λ past stands.
    let begun = c.begin.ensures past stands in
    let each = c.in_ok-part_each.ensures.ok (begun_at past) begun in
    let is = c.part_each.ensures.last ∙ begun.last in
    flush_failed_seal past c.part_each.new.self.last c.part_each.new.self c.seal_number.new.self each is c.in-Err.fault
    (c.in-Err.ensures.err each.did.later each.did.stands (sealable_begun past _ c.part_each.new.self each is))

pub returns-clause-ok : goal.returns-clause-ok
returns-clause-ok g c = λ past stands.
    let begun = c.begin.ensures past stands in
    let each = c.in_ok-part_each.ensures.ok (begun_at past) begun in
    let is = c.part_each.ensures.last ∙ begun.last in
    flush_took past c.part_each.new.self.last c.part_each.new.self c.seal_number.new.self each is c.mark-mark.result _
    (c.in_default.ensures.ok each.did.later each.did.stands (sealable_begun past _ c.part_each.new.self each is))
    c.mark-mark.ensures (pushed _ _ _ c.push_reserved.ensures.items c.in_ok-outputs.ensures.items)
