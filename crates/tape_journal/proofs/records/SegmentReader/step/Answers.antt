use Rattle.std.proofs.Common.{◌<◌, List, length, sym, ◌∙◌, subst, arith}
use Rattle.disk_model.specs.Disk.{Event, content}
use Rattle.tape_journal.specs.Segment.{HasPayloads}
use Rattle.tape_journal.proofs.Reading.{read_end, read_nothing}
use Rattle.tape_journal.proofs.records.SegmentReader.step.Goals as goal

pub returns-then-self-eq0-clause-step : goal.returns-then-self-eq0-clause-step
returns-then-self-eq0-clause-step g c payloads come =
    let self = c.args.self.now in
    record {
      honest = come.honest;
      has = read_nothing _ payloads self.at come.read (sym (self.whole come.honest) ∙ c.if-self-eq0.true);
    }

pub returns-in-End-clause-step : goal.returns-in-End-clause-step
returns-in-End-clause-step g c payloads come =
    let self = c.args.self.now in
    let all = content (g.D.Disk.log self.disk) in
    let ends = rw c.in-End.is at (c.in_ok-head_at.ensures.is come.honest (self.whole come.honest)) in
    let inside : self.at < length all = omega (arith, self.inside, self.whole come.honest) in
    record {
      honest = c.head_at.ensures.honest.0 come.honest;
      has = subst (λ (log : List Event). HasPayloads (content log) payloads self.at)
          (sym (c.head_at.ensures.log come.honest)) (read_end all payloads self.at come.read inside ends);
    }
