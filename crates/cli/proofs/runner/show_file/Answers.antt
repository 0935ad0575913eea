use Rattle.std.proofs.Common.{inl}
use Rattle.feed_conf.specs.ConfView.{conf_view}
use Rattle.cli.specs.Ends.{Checks, Prints, in_force}
use Rattle.cli.proofs.Reporting.{comes_as}
use Rattle.cli.proofs.runner.show_file.Goals as goal

pub returns-in-Ok-settings_of : goal.returns-in-Ok-settings_of
returns-in-Ok-settings_of g c =
    let old = g.W.Write.contents c.args.out.now in
    let new = g.W.Write.contents c.print.new.out in
    let means = rw c.deref.ensures.value at c.in-Ok-settings_of.ensures in
    let shown = c.deref-in-Ok-settings_of.result.now in
    comes_as (Prints shown old new)
    (Checks (g.F.ReadFile.says c.args.files.now c.args.path.now) in_force c.args.path.now c.args.verbose old new)
    (λ exit line prints. inl (
      c.in-Ok.text.items,
      c.in-Ok.ensures.read,
      (
        conf_view c.in-Ok-settings_of.conf,
        means,
        rw (c.deref-in-Ok-settings_of.ensures.value, c.in_ok-conf_text-in-Ok-settings_of.ensures) at prints,
      ),
    ))
    c.print.result c.print.ensures
