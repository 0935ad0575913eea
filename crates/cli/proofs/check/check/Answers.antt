use Rattle.feed_conf.specs.ConfView.{conf_view}
use Rattle.cli.proofs.check.check.Goals as goal

pub returns-in_ok-advice-in-Ok : goal.returns-in_ok-advice-in-Ok
returns-in_ok-advice-in-Ok c =
    (conf_view c.in-Ok.conf, c.in-Ok.ensures, c.in_ok-report-in-Ok.ensures, c.in_ok-advice-in-Ok.ensures)
