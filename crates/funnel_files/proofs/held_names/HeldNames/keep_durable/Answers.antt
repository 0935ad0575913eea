-- The place of the greatest mark is the last segment.
use Rattle.funnel_files.proofs.HeldOnes.{last_durable, none_durable}
use Rattle.funnel_files.proofs.held_names.HeldNames.keep_durable.Goals as goal

pub returns-in-Some-clause-durable : goal.returns-in-Some-clause-durable
returns-in-Some-clause-durable c first =
    last_durable c.args.self.now.segments c.args.self.now.durable_below c.max-self.result c.in-Some.last first
    c.in-Some.ensures.firsts c.in-Some.ensures.some c.max-self.ensures

pub returns-in_default-clause-durable : goal.returns-in_default-clause-durable
returns-in_default-clause-durable c first =
    none_durable c.args.self.now.segments c.args.self.now.durable_below first c.in_default.ensures.firsts
    c.in_default.ensures.none
