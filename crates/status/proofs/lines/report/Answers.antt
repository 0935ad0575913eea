use Rattle.std.specs.Prelude.{flat_map}
use Rattle.status.specs.Report.{header, peer_text}
use Rattle.status.proofs.Parts.{both, prefix_after, prefix_before, on_err, on_err_map, on_ok_map}
use Rattle.status.proofs.lines.report.Goals as goal

pub returns-in_err-put-clause-prefix : goal.returns-in_err-put-clause-prefix
returns-in_err-put-clause-prefix g c =
    on_err c.from_residual.result (
    prefix_before _ _ header (flat_map peer_text c.args.peers.now) c.in_err-put.ensures.prefix)

pub returns-clause-whole : goal.returns-clause-whole
returns-clause-whole g c =
    let contents = g.W.Write.contents in
    on_ok_map c.put_peers.result (λ h.
    both (contents c.args.out.now) (contents c.put.new.out) (contents c.put_peers.new.out)
    header (flat_map peer_text c.args.peers.now)
    c.in_ok-put.ensures.whole h) c.put_peers.ensures.whole

pub returns-clause-prefix : goal.returns-clause-prefix
returns-clause-prefix g c =
    let contents = g.W.Write.contents in
    on_err_map c.put_peers.result (λ h.
    prefix_after (contents c.args.out.now) (contents c.put.new.out) (contents c.put_peers.new.out)
    header (flat_map peer_text c.args.peers.now)
    c.in_ok-put.ensures.whole h) c.put_peers.ensures.prefix
