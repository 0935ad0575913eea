-- What a reader holds, seen from outside.
use Rattle.reply_reader.specs.Stream.{Held, Working, Broken}
use Rattle.reply_reader.specs.declared.reader.ReaderStage.{ReaderStage}
use Rattle.reply_reader.specs.declared.reader.ReaderStage.TheVariants.{Working as AtWorkOn, Broken as IsBroken}

-- the octets that wait, or that a fault was returned
abbrev pub held_of : ReaderStage → Held
held_of (AtWorkOn unread) = Working unread
held_of IsBroken = Broken
