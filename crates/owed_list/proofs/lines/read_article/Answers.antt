-- A line that is not good has no article.
use Rattle.std.proofs.Common.{◌≢◌, refl, rules}
use Rattle.funnel.specs.declared.line.LineFault.TheVariants.{NoMemory}
use Rattle.owed_list.proofs.Articles.{no_article}
use Rattle.owed_list.proofs.lines.read_article.Goals as goal

pub returns-in-Err-clause-malformed : goal.returns-in-Err-clause-malformed
returns-in-Err-clause-malformed c =
    let e = c.in-Err.ensures in
    let other : c.in-Err.field-0 ≢ NoMemory = search rules in
    no_article c.in-Err.field-0 c.args.line.now _ refl e.too_long e.no_token e.bad_token e.bad_id other
