-- Both are the lexemes that the walk gives.
use Rattle.std.proofs.Common.{sym, ◌∙◌}
use Rattle.feed_conf.specs.LexemeLaws.{lexemes-are}
use Rattle.feed_conf.proofs.laws.lexemes_once.Goals as goal

pub returns : goal.returns
returns c = λ line one other h k. sym (lexemes-are line one h) ∙ lexemes-are line other k
