use Rattle.drill_script.proofs.Growing.{drafts_none}
use Rattle.drill_script.proofs.draft.Draft.new.Goals as goal

pub returns : goal.returns
returns c =
    drafts_none _ c.new.ensures.items c.new-2.ensures.empty c.new-3.ensures c.new-4.ensures c.new-5.ensures.items
    c.new-6.ensures.items
