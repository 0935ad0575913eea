-- The octets before the first that is not blank are a gap.
use Rattle.std.proofs.Common.{subst, sym, ap, ◌∙◌}
use Rattle.feed_conf.specs.Lexemes.{is_blank}
use Rattle.feed_conf.specs.Scan.{StopsAt, lexemes_of}
use Rattle.feed_conf.proofs.Scans.{prefix-found, after-blanks}
use Rattle.feed_conf.proofs.lexeme.skip_blanks.Goals as goal

pub returns-clause-keeps_lexemes : goal.returns-clause-keeps_lexemes
returns-clause-keeps_lexemes c =
    let prefix = prefix-found is_blank c.args.line.now _ _ c.find_solid.ensures c.unwrap_or-start.ensures in
    after-blanks c.args.line.now c.unwrap_or-start.result prefix ∙ ap lexemes_of (sym c.split_at.ensures.back)

pub returns-clause-first : goal.returns-clause-first
returns-clause-first c =
    let prefix = prefix-found is_blank c.args.line.now _ _ c.find_solid.ensures c.unwrap_or-start.ensures in
    subst (StopsAt is_blank) (sym c.split_at.ensures.back) prefix.stops
