-- The last use so far of each key in each block.
use Rattle.std.proofs.Common.{[]}
use Rattle.feed_conf.specs.declared.reader.Use.{Use}
use Rattle.feed_conf.specs.declared.key.SettingKey.TheVariants.{IpName}
use Rattle.feed_conf.specs.declared.value.Value.TheVariants.{Text}
use Rattle.feed_conf.proofs.Tables.{table-more}
use Rattle.feed_conf.proofs.table.table_of.Goals as goal

pub loop-held-preserved : goal.loop-held-preserved
loop-held-preserved c =
    let none : Use =
    record { line = 0; block = 0; key = IpName; value = Text (record { ref_ptr = (0, 0); now = [] }) } in
    table-more c.loop-held.values c.insert.new.self c.args.uses.now c.loop-held.held-index none c.index.result c.loop-held-test.true c.index.ensures
    c.in_ok-insert.ensures.updates.0 c.loop-held.invariant
