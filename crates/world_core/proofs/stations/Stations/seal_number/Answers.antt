-- Two events, one after the other.
use Rattle.world_core.proofs.Results.{if_err_is, if_err_map, on_ok_map}
use Rattle.world_core.proofs.TapeSteps.{seal_failed_first, seal_failed_second, sealed}
use Rattle.world_core.proofs.stations.Stations.seal_number.Goals as goal

pub returns-in_err-see-clause-err : goal.returns-in_err-see-clause-err
returns-in_err-see-clause-err g c = λ past stands sealable.
    if_err_is c.from_residual.result _ _ c.from_residual.ensures.1
    (seal_failed_first past c.args.number _ c.see.new.self (c.in_err-see.ensures.err past stands))

pub returns-clause-ok : goal.returns-clause-ok
returns-clause-ok g c = λ past stands sealable.
    let one = c.in_ok-see.ensures.ok past stands sealable in
    on_ok_map c.acknowledge.result _ _ (c.acknowledge.ensures.ok one.later one.stands)
    (sealed past c.args.number c.see.new.self c.acknowledge.new.self one)

pub returns-clause-err : goal.returns-clause-err
returns-clause-err g c = λ past stands sealable.
    let one = c.in_ok-see.ensures.ok past stands sealable in
    if_err_map c.acknowledge.result _ _ (c.acknowledge.ensures.err one.later one.stands)
    (seal_failed_second past c.args.number c.see.new.self c.acknowledge.new.self one)
