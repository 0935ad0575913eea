-- The octets before the first that no word may have are the word.
use Rattle.std.proofs.Common.{◌<◌, length, arith}
use Rattle.feed_conf.specs.Lexemes.{is_word_octet}
use Rattle.feed_conf.proofs.Scans.{prefix-found, after-word, word-some}
use Rattle.feed_conf.proofs.lexeme.word.Goals as goal

pub returns-clause-lexemes : goal.returns-clause-lexemes
returns-clause-lexemes c =
    let prefix = prefix-found is_word_octet c.args.line.now _ _ c.find_word_end.ensures c.unwrap_or-end.ensures in
    rw (c.split_at.ensures.front, c.split_at.ensures.back) (after-word c.args.line.now c.unwrap_or-end.result c.requires prefix)

pub returns-clause-shorter : goal.returns-clause-shorter
returns-clause-shorter c =
    let prefix = prefix-found is_word_octet c.args.line.now _ _ c.find_word_end.ensures c.unwrap_or-end.ensures in
    let some = word-some c.args.line.now c.unwrap_or-end.result c.requires prefix in
    let prefix_some : 0 < length c.split_at.result.0.now = rw c.split_at.ensures.front some in
    omega arith
