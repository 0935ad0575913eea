use Rattle.status.specs.Json.{next_text}
use Rattle.status.proofs.Parts.{next_prefix, next_whole, on_err}
use Rattle.status.proofs.json.put_rest.Goals as goal

pub returns-in_err-put_peer-clause-prefix : goal.returns-in_err-put_peer-clause-prefix
returns-in_err-put_peer-clause-prefix g c =
    let contents = g.W.Write.contents in
    on_err c.from_residual.result (
    next_prefix (contents c.args.out.now) (contents c.loop-peer.out) (contents c.put_peer.new.out)
    (next_text c.args.uptime) c.args.peers.now
    c.loop-peer.peer-index c.peer-item.result c.loop-peer-test.true c.peer-item.is
    c.loop-peer.invariant c.in_err-put_peer.ensures.prefix)

pub loop-peer-preserved : goal.loop-peer-preserved
loop-peer-preserved g c =
    let contents = g.W.Write.contents in
    next_whole (contents c.args.out.now) (contents c.loop-peer.out) (contents c.put_peer.new.out)
    (next_text c.args.uptime) c.args.peers.now
    c.loop-peer.peer-index c.peer-item.result c.loop-peer-test.true c.peer-item.is
    c.loop-peer.invariant c.in_ok-put_peer.ensures.whole
