use Rattle.std.proofs.Common.{ℕ, List, Some, None, subst}
use Rattle.memchr.specs.Find.{FindsNeedle}
use Rattle.dot_codec.proofs.Parts.{if_none, none_found, part_cut}
use Rattle.dot_codec.proofs.stored.first_part.Goals as goal

pub returns-in_err-at-clause-last : goal.returns-in_err-at-clause-last
returns-in_err-at-clause-last c =
    let octets = c.args.octets.now in
    if_none c.from_residual.result
    (none_found octets (subst (λ (crlf : List ℕ). FindsNeedle octets crlf 0 None) c.requires c.in_err-at.ensures))

pub returns-clause-part : goal.returns-clause-part
returns-clause-part c =
    let octets = c.args.octets.now in
    (part_cut octets c.in_ok-at.at
    (subst (λ (crlf : List ℕ). FindsNeedle octets crlf 0 (Some c.in_ok-at.at)) c.requires c.in_ok-at.ensures)).0

pub returns-clause-cut : goal.returns-clause-cut
returns-clause-cut c =
    let octets = c.args.octets.now in
    (part_cut octets c.in_ok-at.at
    (subst (λ (crlf : List ℕ). FindsNeedle octets crlf 0 (Some c.in_ok-at.at)) c.requires c.in_ok-at.ensures)).1
