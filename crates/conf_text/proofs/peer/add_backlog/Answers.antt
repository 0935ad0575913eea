use Rattle.std.specs.Prelude.{codes, decimal}
use Rattle.conf_text.specs.ConfText.{high_text, inside, line}
use Rattle.conf_text.proofs.Adding.{added}
use Rattle.conf_text.proofs.peer.add_backlog.Goals as goal

pub returns : goal.returns
returns c =
    let peer = c.args.peer.now in
    added c.args.out.now.items c.add_number.new.out.items c.add_high.new.out.items
    (line inside (codes "backlog-limit") (decimal peer.backlog_limit)) (high_text peer.backlog_limit peer.backlog_high)
    c.in_ok-add_number.ensures c.in_ok-add_high.ensures
