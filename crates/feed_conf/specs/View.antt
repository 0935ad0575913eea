-- The lexeme of the definition that one of the reader stands for.
use Rattle.feed_conf.specs.Lexemes.{Lexeme}
use Rattle.feed_conf.specs.declared.lexeme.Lexeme.{Lexeme as Held}
use Rattle.feed_conf.specs.declared.lexeme.Lexeme.TheVariants.{Word, Quoted, Open, Close, Unclosed}

abbrev pub lexeme_of : Held → Lexeme
lexeme_of (Word octets) = Lexeme.Word octets.now
lexeme_of (Quoted octets) = Lexeme.Quoted octets.now
lexeme_of Open = Lexeme.Open
lexeme_of Close = Lexeme.Close
lexeme_of Unclosed = Lexeme.Unclosed
