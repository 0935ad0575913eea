use Rattle.std.proofs.Common.{sym, ◌∙◌}
use Rattle.dot_codec.proofs.Parts.{at_end_some}
use Rattle.dot_codec.proofs.stored.text_at_end.Goals as goal

pub returns-else-is_empty : goal.returns-else-is_empty
returns-else-is_empty c = at_end_some c.args.text.items c.args.rest.now (sym c.is_empty.ensures ∙ c.if-is_empty.false)
