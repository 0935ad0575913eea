-- A text is added.
use Rattle.std.proofs.Common.{◌≤◌, ◌∙◌, ap, subst, arith, length}
use Rattle.connections.specs.Kept.{by_token}
use Rattle.connections.proofs.Kept.{entries-put, sum-put}
use Rattle.connections.proofs.kept_texts.push.Goals as goal

pub overflow_sub-result : goal.overflow_sub-result
overflow_sub-result c =
    omega (
      arith,
      c.octets_of.ensures,
      c.len-more.ensures.value,
      sum-put c.args.texts.now c.args.token c.args.kept c.args.octets c.in_ok-gone.gone c.push.new.self
          c.len-count.ensures.valid.1 c.requires.most c.requires.sum c.in_ok-gone.ensures.entries
          c.in_ok-gone.ensures.old,
    )

pub returns-clause-texts : goal.returns-clause-texts
returns-clause-texts c =
    ap (λ t. by_token t.entries) c.in_ok-gone.ensures.entries
    ∙ entries-put c.args.texts.now c.args.token c.args.kept
    (subst (λ n. length c.args.texts.now.entries ≤ n) c.requires.most c.len-count.ensures.valid.1) c.requires.most

pub returns-clause-octets : goal.returns-clause-octets
returns-clause-octets c =
    omega (
      arith,
      c.octets_of.ensures,
      c.len-more.ensures.value,
      sum-put c.args.texts.now c.args.token c.args.kept c.args.octets c.in_ok-gone.gone c.push.new.self
          c.len-count.ensures.valid.1 c.requires.most c.requires.sum c.in_ok-gone.ensures.entries
          c.in_ok-gone.ensures.old,
    )
