use Rattle.std.proofs.Common.{◌≡◌, ◌≤◌, ◌+◌, length, map}
use Rattle.feed_conf.specs.Items.{items_of}
use Rattle.feed_conf.specs.Reading.{lines_of, run_lines, start}
use Rattle.feed_conf.specs.ReaderView.{IsNamed, reader_view}
use Rattle.feed_conf.proofs.read.read_lines.Given as goal

abbrev pub invariant-lines : goal.invariant-lines
invariant-lines l = record {
  state : run_lines (map items_of (lines_of l.rest)) (reader_view l.reader) l.line ≡ run_lines (map items_of (lines_of l.text)) start 1;
  named : IsNamed l.reader;
  room : l.reader.opened + length l.rest ≤ length l.text;
  count : l.line + length l.rest ≤ length l.text + 1;
}

abbrev pub decreases-lines : goal.decreases-lines
decreases-lines l = length l.rest
