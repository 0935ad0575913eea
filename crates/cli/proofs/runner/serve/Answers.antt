use Rattle.std.proofs.Common.{◌≡◌}
use Rattle.feed_conf.specs.ConfView.{conf_view}
use Rattle.cli.specs.Ends.{TriesOn, Works}
use Rattle.cli.specs.Errand.{DoesErrand}
use Rattle.cli.specs.Strangers.{stranger_of_errand}
use Rattle.cli.proofs.Reporting.{comes_as}
use Rattle.cli.proofs.Working.{works_by}
use Rattle.cli.proofs.runner.serve.Goals as goal

pub returns-in-Ok-settings_of : goal.returns-in-Ok-settings_of
returns-in-Ok-settings_of g c =
    let old = g.W.Write.contents c.args.out.now in
    let new = g.W.Write.contents c.serve_by.new.out in
    let before = c.args.feeds.now in
    let after = c.serve_by.new.feeds in
    let says = g.F.ReadFile.says c.args.files.now c.args.path.now in
    let stranger = stranger_of_errand c.args.errand in
    let did = DoesErrand g.P.Feeds.fed g.P.Feeds.listed before after old new c.args.errand in
    let outcome = conf_view c.in-Ok-settings_of.conf in
    let means = rw c.deref.ensures.value at c.in-Ok-settings_of.ensures in
    comes_as (TriesOn stranger did (after ≡ before) c.args.path.now old new outcome)
    (Works says stranger did (after ≡ before) c.args.path.now c.args.verbose old new)
    (works_by says stranger did (after ≡ before) c.args.path.now c.args.verbose old new c.in-Ok.text.items outcome
    c.in-Ok.ensures.read means)
    c.serve_by.result c.serve_by.ensures
