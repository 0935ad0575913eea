use Rattle.std.proofs.Common.{inl, rules}
use Rattle.flusher.proofs.post.Post.report_to_front.Goals as goal

pub returns-in-Ok-clause-told : goal.returns-in-Ok-clause-told
returns-in-Ok-clause-told g c =
    inl (record {
      found = c.deref_mut.result.now;
      left = c.fail_at.new.desk;
      own = search rules;
      does = c.fail_at.ensures;
    })
