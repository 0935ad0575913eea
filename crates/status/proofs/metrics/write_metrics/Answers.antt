use Rattle.status.specs.Metrics.{families_text, run_text}
use Rattle.status.proofs.Parts.{prefix_after, prefix_before, on_err, on_err_map}
use Rattle.status.proofs.metrics.write_metrics.Goals as goal

pub returns-in_err-put_run-clause-prefix : goal.returns-in_err-put_run-clause-prefix
returns-in_err-put_run-clause-prefix g c =
    on_err c.from_residual.result (
    prefix_before _ _ (run_text c.args.report.now) (families_text c.args.report.now.peers.now)
    c.in_err-put_run.ensures.prefix)

pub returns-clause-prefix : goal.returns-clause-prefix
returns-clause-prefix g c =
    let contents = g.W.Write.contents in
    on_err_map c.put_families.result (λ h.
    prefix_after (contents c.args.out.now) (contents c.put_run.new.out) (contents c.put_families.new.out)
    (run_text c.args.report.now) (families_text c.args.report.now.peers.now)
    c.in_ok-put_run.ensures.whole h) c.put_families.ensures.prefix
