use Rattle.std.proofs.Common.{◌≡◌, ◌≤◌, ◌+◌, length}
use Rattle.feed_conf.specs.Items.{items_of}
use Rattle.feed_conf.specs.Reading.{run_line}
use Rattle.feed_conf.specs.ReaderView.{IsNamed, reader_view}
use Rattle.feed_conf.proofs.read.read_line.Given as goal

abbrev pub invariant-items : goal.invariant-items
invariant-items l = record {
  state : run_line (items_of l.rest) (reader_view l.reader) l.line ≡ run_line (items_of l.text) (reader_view l.initial.reader) l.line;
  named : IsNamed l.reader;
  room : l.reader.opened + length l.rest ≤ l.initial.reader.opened + length l.text;
}

abbrev pub decreases-items : goal.decreases-items
decreases-items l = length l.rest
