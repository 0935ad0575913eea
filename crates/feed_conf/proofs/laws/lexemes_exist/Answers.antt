-- The lexemes that the walk over the line gives.
use Rattle.feed_conf.specs.Scan.{lexemes_of}
use Rattle.feed_conf.proofs.Walks.{has-lexemes}
use Rattle.feed_conf.proofs.laws.lexemes_exist.Goals as goal

pub returns : goal.returns
returns c = λ line. (lexemes_of line, has-lexemes line)
