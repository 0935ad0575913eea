use Rattle.std.proofs.Common.{◌≡◌, map, take}
use Rattle.std.specs.Prelude.{flat_map}
use Rattle.feed_conf.specs.ReaderView.{report_view}
use Rattle.cli.specs.Check.{report_text}
use Rattle.cli.proofs.check.report.Given as goal

abbrev pub invariant-loop-report : goal.invariant-loop-report
invariant-loop-report l = l.text.items ≡ flat_map report_text (map report_view (take l.report-index l.reports))
