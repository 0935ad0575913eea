use Rattle.std.proofs.Common.{inl, rules}
use Rattle.std.proofs.lemmas.Result.{on_err_weaker, on_ok_weaker}
use Rattle.flusher.proofs.post.Post.finish.Goals as goal

pub returns-clause-finishes : goal.returns-clause-finishes
returns-clause-finishes g c =
    on_ok_weaker c.finish_at.result
    (λ done. record {
      found = c.deref_mut.result.now;
      left = c.finish_at.new.desk;
      own = search rules;
      does = done;
    }) c.finish_at.ensures.ok

pub returns-clause-front : goal.returns-clause-front
returns-clause-front g c =
    on_err_weaker c.finish_at.result
    (λ same. inl (record {
      found = c.deref_mut.result.now;
      left = c.finish_at.new.desk;
      own = search rules;
      does = same;
    })) c.finish_at.ensures.front
