use Rattle.std.proofs.Common.{◌≡◌, length, arith}
use Rattle.drill_script.proofs.Writing.{read_all}
use Rattle.drill_script.proofs.action.unescape.Goals as goal

pub returns : goal.returns
returns c =
    let none : length c.loop-rest.rest.now ≡ 0 = grind arith in
    read_all c.args.written.now c.loop-rest.rest.now c.loop-rest.text.items none c.loop-rest.invariant.from
