use Rattle.std.proofs.Common.{◌⊎◌, inl, rules}
use Rattle.flusher.specs.Claims.{GivesBack}
use Rattle.flusher.specs.Moments.{AtSomeMoment, IsStray}
use Rattle.flusher.specs.declared.fault.PostFault.{PostFault}
use Rattle.flusher.proofs.Moments.{for_each_err}
use Rattle.flusher.proofs.post.Post.claimed.Goals as goal

pub returns-in_err-claimed-clause-given_back : goal.returns-in_err-claimed-clause-given_back
returns-in_err-claimed-clause-given_back g c =
    for_each_err c.from_residual-in_err-claimed.result
    (λ (e : PostFault). AtSomeMoment g.row.N.Denot g.N.Naming c.args.peer (GivesBack c.args.connection.0 c.args.now)
    ⊎ IsStray g.row.N.Denot g.N.Naming c.args.peer e)
    (λ e. inl (record {
      found = c.deref_mut.result.now;
      left = c.claim_at.new.desk;
      own = search rules;
      does = c.in_err-claimed.ensures.given_back;
    }))

pub returns-clause-claims : goal.returns-clause-claims
returns-clause-claims g c = record {
  found = c.deref_mut.result.now;
  left = c.claim_at.new.desk;
  own = search rules;
  does = c.in_ok-claimed.ensures.ok;
}
