use Rattle.std.proofs.Common.{◌≡◌, ◌∙◌, ◌+◌, ◌++◌, ◌∷◌, [], sym, ap, subst, take}
use Rattle.std.proofs.lemmas.List.{take_more}
use Rattle.run_parts.specs.Targets.{AreTargetsFrom}
use Rattle.run_parts.proofs.TargetLists.{targets_step}
use Rattle.run_parts.proofs.targets.targets_of.Goals as goal

pub loop-index-preserved : goal.loop-index-preserved
loop-index-preserved c =
    targets_step c.args.most c.args.accounts.now c.args.peers.now c.loop-index.index c.index-peers-index.result
    c.loop-index.targets.items
    c.in_ok-target_of.field-0
    c.push.new.self.items c.loop-index-test.true c.index-peers-index.is c.loop-index.invariant
    (search c.in_ok-target_of.ensures) (search c.in_ok-push.ensures.items)
