use Rattle.std.proofs.Common.{◌≡◌, map, take}
use Rattle.std.specs.Prelude.{flat_map}
use Rattle.feed_conf.specs.Advice.{report_text}
use Rattle.feed_conf.specs.ReaderView.{report_view}
use Rattle.feed_conf.proofs.advice.advise.Given as goal

abbrev pub invariant-loop-report : goal.invariant-loop-report
invariant-loop-report l =
    l.lines.items ≡ flat_map (report_text l.file) (map report_view (take l.report-index l.reports))
