use Rattle.std.proofs.Common.{inl, rules}
use Rattle.flusher.proofs.post.Post.handed.Goals as goal

pub returns-in_ok-desk-in-Err-clause-given_back : goal.returns-in_ok-desk-in-Err-clause-given_back
returns-in_ok-desk-in-Err-clause-given_back g c =
    inl (
      c.in-Err.is,
      record {
        found = c.deref_mut.result.now;
        left = c.unclaim.new.self;
        own = search rules;
        does = c.unclaim.ensures.unclaims;
      },
    )
