-- The oldest texts are dropped.
use Rattle.std.proofs.Common.{◌≤◌, ◌<◌, ◌∙◌, ap, subst, arith}
use Rattle.connections.specs.Kept.{by_token, first_within, octets_in}
use Rattle.connections.proofs.Kept.{all-within, pops, pops-within}
use Rattle.connections.proofs.kept_texts.drop_oldest.Goals as goal

pub overflow_sub-octets : goal.overflow_sub-octets
overflow_sub-octets c =
    omega (
      arith,
      c.loop-octets.invariant.0,
      c.len-octets.ensures.value,
      pops c.loop-octets.texts.entries _ _ c.in-Some.ensures.value,
    )

pub loop-octets-preserved : goal.loop-octets-preserved
loop-octets-preserved c = (
  omega (
    arith,
    c.loop-octets.invariant.0,
    c.len-octets.ensures.value,
    pops c.loop-octets.texts.entries _ _ c.in-Some.ensures.value,
    ap (λ t. octets_in t.entries) c.in-Some.ensures.entries,
  ),
  (
    ap (λ t. first_within 4194304 (by_token t.entries)) c.in-Some.ensures.entries
        ∙ pops-within 4194304 c.loop-octets.texts.entries
        (subst (λ n. 4194304 < n) c.loop-octets.invariant.0 c.loop-octets-test.true)
        ∙ c.loop-octets.invariant.1.0,
    ap (λ t. t.cap) c.in-Some.ensures.entries ∙ c.loop-octets.invariant.1.1,
  ),
)

pub returns-clause-texts : goal.returns-clause-texts
returns-clause-texts c =
    all-within 4194304 c.loop-octets.texts.entries
    (subst (λ n. n ≤ 4194304) c.loop-octets.invariant.0 c.loop-octets-test.false)
    ∙ c.loop-octets.invariant.1.0
