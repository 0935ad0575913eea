use Rattle.std.proofs.Common.{◌≡◌, ◌≤◌, ◌+◌, ◌++◌, length, map}
use Rattle.feed_conf.specs.Explanation.{items_text}
use Rattle.feed_conf.specs.Items.{items_of}
use Rattle.feed_conf.specs.Reading.{lines_of}
use Rattle.feed_conf.proofs.explanation.add_values.Given as goal

abbrev pub invariant-lines : goal.invariant-lines
invariant-lines l = record {
  written : l.out.items ++ items_text l.file l.line (map items_of (lines_of l.rest))
      ≡ l.initial.out.items ++ items_text l.file 1 (map items_of (lines_of l.text));
  count : l.line + length l.rest ≤ length l.text + 1;
}

abbrev pub decreases-lines : goal.decreases-lines
decreases-lines l = length l.rest
