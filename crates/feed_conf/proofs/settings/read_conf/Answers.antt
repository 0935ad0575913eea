-- The lexemes of each line are those that were read.
use Rattle.std.proofs.Common.{ap, subst, sym, ◌∙◌, map}
use Rattle.feed_conf.specs.Scan.{lexemes_of}
use Rattle.feed_conf.specs.Reading.{lines_of, run_lines, start, then_on, finish}
use Rattle.feed_conf.specs.Items.{items_of}
use Rattle.feed_conf.specs.ReaderView.{reader_view}
use Rattle.feed_conf.specs.Settings.{judged}
use Rattle.feed_conf.specs.ConfView.{Makes}
use Rattle.feed_conf.proofs.Bounds.{reading-bounded}
use Rattle.feed_conf.proofs.Lookups.{items-are, have-lexemes}
use Rattle.feed_conf.proofs.settings.read_conf.Goals as goal

pub returns-in-Ok-clause-meaning : goal.returns-in-Ok-clause-meaning
returns-in-Ok-clause-meaning c = λ lines h.
    let same = ap (λ z. judged (then_on (run_lines z start 1) finish)) (items-are (lines_of c.args.text.now) lines h) in
    subst (λ z. Makes z c.make_conf.result) (sym (same ∙ ap judged c.in-Ok.ensures.state)) c.make_conf.ensures

pub returns-in-Err-clause-meaning : goal.returns-in-Err-clause-meaning
returns-in-Err-clause-meaning c = λ lines h k.
    ap (λ z. judged (then_on (run_lines z start 1) finish)) (items-are (lines_of c.args.text.now) lines h) ∙ ap judged (c.in-Err.ensures.state k)

pub returns-in-Ok-clause-lexemes : goal.returns-in-Ok-clause-lexemes
returns-in-Ok-clause-lexemes c = (map lexemes_of (lines_of c.args.text.now), have-lexemes (lines_of c.args.text.now))

pub returns-in-Err-clause-lexemes : goal.returns-in-Err-clause-lexemes
returns-in-Err-clause-lexemes c = (map lexemes_of (lines_of c.args.text.now), have-lexemes (lines_of c.args.text.now))

pub make_conf-requires-clause-bounded : goal.make_conf-requires-clause-bounded
make_conf-requires-clause-bounded c = reading-bounded (map items_of (lines_of c.args.text.now)) (reader_view c.in-Ok.reader) c.in-Ok.ensures.state
