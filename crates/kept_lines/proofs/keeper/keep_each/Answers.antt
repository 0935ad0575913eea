use Rattle.std.proofs.Common.{subst, sym}
use Rattle.kept_lines.specs.Keeps.{KeepsOne}
use Rattle.kept_lines.proofs.Each.{each_step}
use Rattle.kept_lines.proofs.keeper.keep_each.Goals as goal

pub loop-peer-preserved : goal.loop-peer-preserved
loop-peer-preserved g c =
    each_step c.args.lines.now c.args.left_out.now c.loop-peer.peer-items c.loop-peer.peer-index c.peer-item.result
    c.keep_one.new.peer c.loop-peer-test.true c.peer-item.is c.loop-peer.invariant
    (subst (λ p. KeepsOne c.args.lines.now p c.keep_one.new.peer) (sym c.peer-item.is)
    (search c.in_ok-keep_one.ensures))
