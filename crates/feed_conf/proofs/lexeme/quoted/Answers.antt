-- The octets before the first quote are the quoted text.
use Rattle.std.proofs.Common.{sym, ◌∙◌}
use Rattle.std.proofs.lemmas.List.{nil_from_length}
use Rattle.feed_conf.specs.Lexemes.{is_quoted_octet}
use Rattle.feed_conf.proofs.Scans.{prefix-found, after-quote, after-open_quote}
use Rattle.feed_conf.proofs.lexeme.quoted.Goals as goal

pub returns-in-Some-clause-lexemes : goal.returns-in-Some-clause-lexemes
returns-in-Some-clause-lexemes c =
    let prefix = prefix-found is_quoted_octet c.args.behind.now _ _ c.find_quote.ensures c.unwrap_or-end.ensures in
    let rest = sym c.split_at.ensures.back ∙ c.in-Some.ensures.cases.0 in
    rw c.split_at.ensures.front (after-quote c.args.behind.now _ _ _ prefix rest)

pub returns-in-None-clause-lexemes : goal.returns-in-None-clause-lexemes
returns-in-None-clause-lexemes c =
    let prefix = prefix-found is_quoted_octet c.args.behind.now _ _ c.find_quote.ensures c.unwrap_or-end.ensures in
    let none = nil_from_length c.split_at.result.1.now c.in-None.ensures.cases in
    rw none (after-open_quote c.args.behind.now _ prefix (sym c.split_at.ensures.back ∙ none))
