use Rattle.intake.proofs.Counts.{keeps_step}
use Rattle.intake.proofs.nowhere.UnknownPeers.keep_all.Goals as goal

pub loop-name-preserved : goal.loop-name-preserved
loop-name-preserved c = (
  keeps_step c.args.names.now c.loop-name.name-index c.name-item.result c.args.self.now c.loop-name.self
      c.keep.new.self c.loop-name-test.true
      c.name-item.is c.loop-name.invariant.0 c.in_ok-keep.ensures.ok,
  c.in_ok-keep.ensures.few,
)
