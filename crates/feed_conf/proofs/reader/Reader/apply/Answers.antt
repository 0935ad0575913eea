-- A key and its value, as the definition has them.
use Rattle.std.proofs.Common.{subst, sym}
use Rattle.feed_conf.specs.Reading.{step}
use Rattle.feed_conf.specs.ItemView.{item_view}
use Rattle.feed_conf.specs.ReaderView.{Steps, reader_view}
use Rattle.feed_conf.proofs.reader.Reader.apply.Goals as goal

pub returns-in-Uses-clause-state : goal.returns-in-Uses-clause-state
returns-in-Uses-clause-state c =
    subst (λ z. Steps (step (reader_view c.args.self) c.args.line (item_view z)) c.use_key.result) (sym c.in-Uses.is) c.use_key.ensures.state
