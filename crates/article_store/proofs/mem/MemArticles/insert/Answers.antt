use Rattle.std.proofs.Common.{◌∙◌}
use Rattle.std.specs.Vec.{vec_items}
use Rattle.article_store.proofs.Keys.{lookup-other}
use Rattle.article_store.proofs.mem.MemArticles.insert.Goals as goal

pub returns-clause-keeps_others : goal.returns-clause-keeps_others
returns-clause-keeps_others c = λ other differ.
    let key = c.in_ok-key.ensures.items ∙ c.bytes.ensures.value in
    lookup-other vec_items c.in_ok-key.key.items other c.args.self.now.texts.entries c.insert.new.self.entries c.in_ok-insert.ensures.updates.3 (λ e. differ (e ∙ key))
