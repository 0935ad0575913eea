-- What follows the name is a line with an article, or not.
use Rattle.std.proofs.Common.{◌∙◌, ◌≤◌, length, sym, arith}
use Rattle.std.specs.Prelude.{IsTrue}
use Rattle.funnel.specs.Line.{longest_line}
use Rattle.funnel.specs.Names.{is_peer_name}
use Rattle.owed_list.proofs.Articles.{article_behind, found_goes, missing_goes, no_article_behind, no_name}
use Rattle.owed_list.proofs.lines.read_unknown.Goals as goal

pub returns-then-not-holds-clause-malformed : goal.returns-then-not-holds-clause-malformed
returns-then-not-holds-clause-malformed c =
    no_name c.args.line.now c.in-Some.name.now c.in-Some.rest.now c.in-Some.ensures.word
    (sym c.holds.ensures ∙ c.if-not-holds.true)

pub returns-clause-good : goal.returns-clause-good
returns-clause-good c =
    let short : length c.args.line.now ≤ longest_line = omega (arith, c.if-line-gt-LINE_MAX_OCTETS.false) in
    let form : IsTrue (is_peer_name c.in-Some.name.now) = sym c.holds.ensures ∙ c.if-not-holds.false in
    found_goes c.read_article.result _ _
    (λ article is. article_behind c.args.line.now c.in-Some.name.now c.in-Some.rest.now article.name.now article.token
    article.id short c.in-Some.ensures.word form is)
    c.read_article.ensures.good

pub returns-clause-malformed : goal.returns-clause-malformed
returns-clause-malformed c =
    missing_goes c.read_article.result _ _
    (λ none. no_article_behind c.args.line.now c.in-Some.name.now c.in-Some.rest.now c.in-Some.ensures.word none)
    c.read_article.ensures.malformed
