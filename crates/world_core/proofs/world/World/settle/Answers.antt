-- The stop is met if a disk failed at the tape that it names.
use Rattle.world_core.proofs.Results.{if_err_map, on_ok_map}
use Rattle.world_core.proofs.StepsOfWorlds.{struck, struck_unreported}
use Rattle.world_core.proofs.world.World.settle.Goals as goal

pub returns-clause-ok : goal.returns-clause-ok
returns-clause-ok c = λ step life was.
    let met = c.is_met.ensures.0 c.if-not-is_met.false in
    on_ok_map c.strike.result _ _ (c.strike.ensures.ok life was.now was.under_way was.goes_on was.stands)
    (struck step life c.args.halt c.args.self.now was c.in-Some.arming c.in-Some.is met.disk met.tape
    c.strike.new.out.items c.strike.new.self)

pub returns-clause-err : goal.returns-clause-err
returns-clause-err c = λ step life was.
    let met = c.is_met.ensures.0 c.if-not-is_met.false in
    if_err_map c.strike.result _ _ (c.strike.ensures.err life was.now was.under_way was.goes_on was.stands)
    (λ fault. struck_unreported step life c.args.halt c.args.self.now was c.in-Some.arming c.in-Some.is met.disk met.tape
    fault c.strike.new.self)
