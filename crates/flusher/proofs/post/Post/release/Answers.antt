use Rattle.std.proofs.Common.{inl, rules}
use Rattle.flusher.proofs.post.Post.release.Goals as goal

pub returns-in-Ok : goal.returns-in-Ok
returns-in-Ok g c =
    let released = c.release.ensures in
    record {
      releases = inl (record {
        found = c.deref_mut.result.now;
        left = c.release.new.self;
        own = search rules;
        does = record { held = released.count; places = released.places; keeps = released.keeps };
      });
    }
