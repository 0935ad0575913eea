use Rattle.intake.proofs.Counts.{adds_line}
use Rattle.intake.proofs.nowhere.UnknownPeers.add_line.Goals as goal

pub returns-clause-ok : goal.returns-clause-ok
returns-clause-ok c =
    adds_line c.args.names.now c.args.self.now c.keep_all.new.self c.count.new.self c.count_others.new.self
    c.in_ok-keep_all.ensures.ok c.count.ensures.named
    c.count.ensures.others c.count_others.ensures.named c.count_others.ensures.others
