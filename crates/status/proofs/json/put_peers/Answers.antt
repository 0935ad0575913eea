use Rattle.std.proofs.Common.{◌∷◌, ◌-◌, drop, length, subst, sym, take}
use Rattle.std.specs.Io.KnownBytes.{Appends}
use Rattle.std.specs.Prelude.{flat_map}
use Rattle.status.specs.Json.{next_text, peer_text}
use Rattle.status.specs.Prefixes.{AppendsPrefix}
use Rattle.status.proofs.Loops.{first_and_others}
use Rattle.status.proofs.Parts.{both, prefix_after, prefix_before, on_err, on_err_map, on_ok_map}
use Rattle.status.proofs.json.put_peers.Goals as goal

pub returns-in_err-put_peer-in-len1-up-clause-prefix : goal.returns-in_err-put_peer-in-len1-up-clause-prefix
returns-in_err-put_peer-in-len1-up-clause-prefix g c =
    let contents = g.W.Write.contents in
    let first = c.first-item.result in
    let others = take (length c.args.peers.now - 1) (drop 1 c.args.peers.now) in
    let e = first_and_others c.args.uptime c.args.peers.now first c.in-len1-up.len_at_least c.first-item.is in
    on_err c.from_residual.result (
    subst (AppendsPrefix (contents c.args.out.now) (contents c.put_peer.new.out)) (sym e) (
    prefix_before _ _ (10 ∷ peer_text c.args.uptime first)
    (flat_map (next_text c.args.uptime) others) c.in_err-put_peer-in-len1-up.ensures.prefix))

pub returns-in_ok-put_peer-in-len1-up-clause-whole : goal.returns-in_ok-put_peer-in-len1-up-clause-whole
returns-in_ok-put_peer-in-len1-up-clause-whole g c =
    let contents = g.W.Write.contents in
    let first = c.first-item.result in
    let others = take (length c.args.peers.now - 1) (drop 1 c.args.peers.now) in
    let e = first_and_others c.args.uptime c.args.peers.now first c.in-len1-up.len_at_least c.first-item.is in
    on_ok_map c.put_rest.result (λ h.
    subst (Appends (contents c.args.out.now) (contents c.put_rest.new.out)) (sym e) (
    both (contents c.args.out.now) (contents c.put_peer.new.out) (contents c.put_rest.new.out)
    (10 ∷ peer_text c.args.uptime first) (flat_map (next_text c.args.uptime) others)
    c.in_ok-put_peer-in-len1-up.ensures.whole h)) c.put_rest.ensures.whole

pub returns-in_ok-put_peer-in-len1-up-clause-prefix : goal.returns-in_ok-put_peer-in-len1-up-clause-prefix
returns-in_ok-put_peer-in-len1-up-clause-prefix g c =
    let contents = g.W.Write.contents in
    let first = c.first-item.result in
    let others = take (length c.args.peers.now - 1) (drop 1 c.args.peers.now) in
    let e = first_and_others c.args.uptime c.args.peers.now first c.in-len1-up.len_at_least c.first-item.is in
    on_err_map c.put_rest.result (λ h.
    subst (AppendsPrefix (contents c.args.out.now) (contents c.put_rest.new.out)) (sym e) (
    prefix_after (contents c.args.out.now) (contents c.put_peer.new.out) (contents c.put_rest.new.out)
    (10 ∷ peer_text c.args.uptime first) (flat_map (next_text c.args.uptime) others)
    c.in_ok-put_peer-in-len1-up.ensures.whole h)) c.put_rest.ensures.prefix
