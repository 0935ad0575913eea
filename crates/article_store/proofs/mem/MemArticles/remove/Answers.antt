use Rattle.std.proofs.Common.{◌∙◌}
use Rattle.std.specs.Vec.{vec_items}
use Rattle.article_store.proofs.Keys.{lookup-other}
use Rattle.article_store.proofs.mem.MemArticles.remove.Goals as goal

pub returns-clause-keeps_others : goal.returns-clause-keeps_others
returns-clause-keeps_others c = λ other differ.
    lookup-other vec_items c.bytes.result.now other c.args.self.now.texts.entries c.remove.new.self.entries c.remove.ensures.updates.3 (λ e. differ (e ∙ c.bytes.ensures.value))
