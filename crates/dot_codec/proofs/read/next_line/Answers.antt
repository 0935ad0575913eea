use Rattle.std.proofs.Common.{subst, sym, ◌∙◌}
use Rattle.dot_codec.specs.Scan.{IsRun}
use Rattle.dot_codec.specs.declared.scan.RunEnd.{RunEnd}
use Rattle.dot_codec.proofs.Runs.{bare_cr}
use Rattle.dot_codec.proofs.read.next_line.Goals as goal

pub returns-in-Cr-clause-fault : goal.returns-in-Cr-clause-fault
returns-in-Cr-clause-fault c =
    let run = c.first_run-run.result in
    let is = subst (λ (s : RunEnd). IsRun c.args.octets.now run.octets.now s run.rest.now) c.in-Cr.is c.first_run-run.ensures in
    bare_cr c.args.octets.now run.octets.now run.rest.now is (sym c.is_empty.ensures ∙ c.if-not-is_empty.true)
