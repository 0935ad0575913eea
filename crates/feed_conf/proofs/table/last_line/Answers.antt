-- The last use, as it is held and as the definition has it.
use Rattle.std.proofs.Common.{Some, None, sym}
use Rattle.feed_conf.proofs.Tables.{last-held}
use Rattle.feed_conf.proofs.table.last_line.Goals as goal

pub returns-in-None : goal.returns-in-None
returns-in-None c = sym (last-held c.args.key c.args.uses.now None c.in-None.ensures)

pub returns-in-Some : goal.returns-in-Some
returns-in-Some c = sym (last-held c.args.key c.args.uses.now (Some c.in-Some.held.now) c.in-Some.ensures)
