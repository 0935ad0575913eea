use Rattle.std.proofs.Common.{subst}
use Rattle.std.specs.Io.KnownBytes.{Appends}
use Rattle.std.specs.Prelude.{flat_map}
use Rattle.status.specs.Family.{help_of, kind_of, name_of}
use Rattle.status.specs.Metrics.{head_text, peer_text}
use Rattle.status.specs.Prefixes.{AppendsPrefix}
use Rattle.status.proofs.Parts.{both, prefix_after, prefix_before, on_err, on_err_map, on_ok_map}
use Rattle.status.proofs.Same.{same_of_3}
use Rattle.status.proofs.metrics.put_family.Goals as goal

pub returns-in_err-put_head-clause-prefix : goal.returns-in_err-put_head-clause-prefix
returns-in_err-put_head-clause-prefix g c =
    let contents = g.W.Write.contents in
    let family = c.args.family in
    let e = same_of_3 head_text _ _ _ _ _ _ c.name_of.ensures c.help_of.ensures c.kind_of.ensures in
    on_err c.from_residual.result (
    prefix_before _ _ (head_text (name_of family) (help_of family) (kind_of family))
    (flat_map (peer_text family) c.args.peers.now)
    (subst (AppendsPrefix (contents c.args.out.now) (contents c.put_head.new.out)) e c.in_err-put_head.ensures.prefix))

pub returns-clause-whole : goal.returns-clause-whole
returns-clause-whole g c =
    let contents = g.W.Write.contents in
    let family = c.args.family in
    let e = same_of_3 head_text _ _ _ _ _ _ c.name_of.ensures c.help_of.ensures c.kind_of.ensures in
    on_ok_map c.put_samples.result (λ h.
    both (contents c.args.out.now) (contents c.put_head.new.out) (contents c.put_samples.new.out)
    (head_text (name_of family) (help_of family) (kind_of family)) (flat_map (peer_text family) c.args.peers.now)
    (subst (Appends (contents c.args.out.now) (contents c.put_head.new.out)) e c.in_ok-put_head.ensures.whole) h)
    c.put_samples.ensures.whole

pub returns-clause-prefix : goal.returns-clause-prefix
returns-clause-prefix g c =
    let contents = g.W.Write.contents in
    let family = c.args.family in
    let e = same_of_3 head_text _ _ _ _ _ _ c.name_of.ensures c.help_of.ensures c.kind_of.ensures in
    on_err_map c.put_samples.result (λ h.
    prefix_after (contents c.args.out.now) (contents c.put_head.new.out) (contents c.put_samples.new.out)
    (head_text (name_of family) (help_of family) (kind_of family)) (flat_map (peer_text family) c.args.peers.now)
    (subst (Appends (contents c.args.out.now) (contents c.put_head.new.out)) e c.in_ok-put_head.ensures.whole) h)
    c.put_samples.ensures.prefix
