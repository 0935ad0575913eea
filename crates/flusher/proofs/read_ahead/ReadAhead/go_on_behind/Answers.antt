use Rattle.std.proofs.Common.{◌-◌, length, sym, arith}
use Rattle.flusher.proofs.Ahead.{gone_last}
use Rattle.flusher.proofs.read_ahead.ReadAhead.go_on_behind.Goals as goal

pub returns-in-Some-clause-end : goal.returns-in-Some-clause-end
returns-in-Some-clause-end c =
    let keys = c.args.keys.now in
    let last = c.in-Some.ensures in
    sym (gone_last c.args.self.now.end keys c.in-Some.last.now (length keys - 1) (omega (arith, last.item.3.0))
    (sym last.value))
