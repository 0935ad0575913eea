use Rattle.kept_lines.specs.Texts.{unknown_line}
use Rattle.kept_lines.proofs.Joined.{joined_on}
use Rattle.kept_lines.proofs.texts.add_names.Goals as goal

pub loop-name-preserved : goal.loop-name-preserved
loop-name-preserved c =
    joined_on (unknown_line c.args.left_out.now c.args.token.now c.args.id.now) c.args.names.now
    c.loop-name.name-index c.name-item.result c.args.text.now.items c.loop-name.text.items
    c.add_named.new.text.items c.loop-name-test.true c.name-item.is c.loop-name.invariant
    (search c.in_ok-add_named.ensures)
