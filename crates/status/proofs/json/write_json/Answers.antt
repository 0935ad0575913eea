use Rattle.std.proofs.Common.{ℕ, List, [], ◌∷◌, ◌++◌}
use Rattle.status.specs.Json.{head_text, peers_text}
use Rattle.status.proofs.Parts.{prefix_after, prefix_before, on_err, on_err_map}
use Rattle.status.proofs.json.write_json.Goals as goal

pub returns-in_err-put_head-clause-prefix : goal.returns-in_err-put_head-clause-prefix
returns-in_err-put_head-clause-prefix g c =
    let report = c.args.report.now in
    let end : List ℕ = 10 ∷ 93 ∷ 125 ∷ 10 ∷ [] in
    on_err c.from_residual.result (
    prefix_before _ _ (head_text report) (peers_text report.uptime report.peers.now ++ end)
    c.in_err-put_head.ensures.prefix)

pub returns-in_err-put_peers-clause-prefix : goal.returns-in_err-put_peers-clause-prefix
returns-in_err-put_peers-clause-prefix g c =
    let contents = g.W.Write.contents in
    let report = c.args.report.now in
    let end : List ℕ = 10 ∷ 93 ∷ 125 ∷ 10 ∷ [] in
    on_err c.from_residual-in_err-put_peers.result (
    prefix_after (contents c.args.out.now) (contents c.put_head.new.out) (contents c.put_peers.new.out)
    (head_text report) (peers_text report.uptime report.peers.now ++ end) c.in_ok-put_head.ensures.whole (
    prefix_before (contents c.put_head.new.out) (contents c.put_peers.new.out)
    (peers_text report.uptime report.peers.now) end c.in_err-put_peers.ensures.prefix))

pub returns-clause-prefix : goal.returns-clause-prefix
returns-clause-prefix g c =
    let contents = g.W.Write.contents in
    let report = c.args.report.now in
    let end : List ℕ = 10 ∷ 93 ∷ 125 ∷ 10 ∷ [] in
    on_err_map c.put.result (λ h.
    prefix_after (contents c.args.out.now) (contents c.put_head.new.out) (contents c.put.new.out)
    (head_text report) (peers_text report.uptime report.peers.now ++ end) c.in_ok-put_head.ensures.whole (
    prefix_after (contents c.put_head.new.out) (contents c.put_peers.new.out) (contents c.put.new.out)
    (peers_text report.uptime report.peers.now) end c.in_ok-put_peers.ensures.whole h)) c.put.ensures.prefix
