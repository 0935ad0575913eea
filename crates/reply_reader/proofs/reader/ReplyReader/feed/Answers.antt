-- More octets follow the same replies.
use Rattle.std.proofs.Common.{rules, ◌≡◌, ◌++◌, ℕ, List, Result, Ok, Err, sym, subst}
use Rattle.std.specs.Prelude.{OnOk}
use Rattle.reply_reader.specs.Stream.{Given, Held, StandsFor, after_feed}
use Rattle.reply_reader.proofs.Readings.{fed-more}
use Rattle.reply_reader.proofs.reader.ReplyReader.feed.Goals as goal
use Rattle.reply_reader.proofs.reader.ReplyReader.feed.Goals.{in-Working, in-Broken}

stands : {T E : Type 0} (r : Result T E) (old new : Held) (piece : List ℕ) → OnOk r (new ≡ after_feed old piece)
    → OnOk r ((fed : List ℕ) (given : List Given) → StandsFor old fed given → StandsFor new (fed ++ piece) given)
stands (Ok done) old new piece e = λ fed given s. subst (λ held. StandsFor held (fed ++ piece) given) (sym e) (fed-more old piece fed given s)
stands (Err refused) old new piece e = tt

pub returns-clause-stands : goal.returns-clause-stands
returns-clause-stands c =
    stands c.match-self.result c.args.self.now _ c.args.piece.now
    (elim c.match-self.branch [ in-Working w ↦ search rules | in-Broken w ↦ search rules ])
