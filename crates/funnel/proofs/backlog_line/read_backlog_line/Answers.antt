-- The cut returns the line's own fault, and a line that was cut is good.
use Rattle.std.proofs.Common.{List, ℕ, ◌∙◌, ap, subst, sym, Err}
use Rattle.std.proofs.lemmas.Result.{err_from_is_err_and}
use Rattle.funnel.specs.Line.{IsBacklogLine}
use Rattle.funnel.specs.LineLaws.{parts_backlog, parts_read, refused, unrefused}
use Rattle.funnel.specs.declared.line.LineFault.TheVariants.{NoToken, BadToken, BadId}
use Rattle.funnel.proofs.backlog_line.read_backlog_line.Goals as goal

pub returns-in_err-parts-clause-no_token : goal.returns-in_err-parts-clause-no_token
returns-in_err-parts-clause-no_token c =
    let p = err_from_is_err_and c.from_residual.result c.from_residual.ensures.1 in
    refused c.args.line.now c.from_residual.result c.in_err-parts.field-0.0 NoToken (p.1 ∙ ap (λ fault. Err fault) p.2) c.in_err-parts.ensures (λ e. cc)

pub returns-in_err-parts-clause-bad_token : goal.returns-in_err-parts-clause-bad_token
returns-in_err-parts-clause-bad_token c =
    let p = err_from_is_err_and c.from_residual.result c.from_residual.ensures.1 in
    refused c.args.line.now c.from_residual.result c.in_err-parts.field-0.0 BadToken (p.1 ∙ ap (λ fault. Err fault) p.2) c.in_err-parts.ensures (λ e. cc)

pub returns-in_err-parts-clause-bad_id : goal.returns-in_err-parts-clause-bad_id
returns-in_err-parts-clause-bad_id c =
    let p = err_from_is_err_and c.from_residual.result c.from_residual.ensures.1 in
    refused c.args.line.now c.from_residual.result c.in_err-parts.field-0.0 BadId (p.1 ∙ ap (λ fault. Err fault) p.2) c.in_err-parts.ensures (λ e. cc)

pub returns-in_err-article-clause-no_memory : goal.returns-in_err-article-clause-no_memory
returns-in_err-article-clause-no_memory c = λ e.
    (_, _, parts_backlog c.args.line.now _ _ _ c.in_ok-parts.ensures)

pub returns-in_err-article-clause-bad_token : goal.returns-in_err-article-clause-bad_token
returns-in_err-article-clause-bad_token c =
    let p = err_from_is_err_and c.from_residual-in_err-article.result c.from_residual-in_err-article.ensures.1 in
    let read = parts_read c.args.line.now _ _ _ c.in_ok-parts.ensures in
    unrefused c.args.line.now _ _ read.0 c.from_residual-in_err-article.result BadToken read.1 (λ e. cc) (λ e. cc)

pub returns-in_err-article-clause-bad_id : goal.returns-in_err-article-clause-bad_id
returns-in_err-article-clause-bad_id c =
    let p = err_from_is_err_and c.from_residual-in_err-article.result c.from_residual-in_err-article.ensures.1 in
    let read = parts_read c.args.line.now _ _ _ c.in_ok-parts.ensures in
    unrefused c.args.line.now _ _ read.0 c.from_residual-in_err-article.result BadId read.1 (λ e. cc) (λ e. cc)

pub returns-clause-bad_token : goal.returns-clause-bad_token
returns-clause-bad_token c =
    let read = parts_read c.args.line.now _ _ _ c.in_ok-parts.ensures in
    unrefused c.args.line.now _ _ read.0 _ BadToken read.1 (λ e. cc) (λ e. cc)

pub returns-clause-bad_id : goal.returns-clause-bad_id
returns-clause-bad_id c =
    let read = parts_read c.args.line.now _ _ _ c.in_ok-parts.ensures in
    unrefused c.args.line.now _ _ read.0 _ BadId read.1 (λ e. cc) (λ e. cc)

pub returns-clause-good : goal.returns-clause-good
returns-clause-good c =
    let line = c.args.line.now in
    subst (λ (token : List ℕ). IsBacklogLine line token c.in_ok-article.article.1) (sym c.in_ok-article.ensures.token)
    (subst (λ (id : List ℕ). IsBacklogLine line c.in_ok-parts.parts.token.now id) (sym c.in_ok-article.ensures.id)
    (parts_backlog line _ _ _ c.in_ok-parts.ensures))
