use Rattle.std.proofs.Common.{◌≡◌, length, sym, ◌∙◌}
use Rattle.conn_core.proofs.Losses.{takes-back, takes-none}
use Rattle.conn_core.proofs.machine.Machine.outcome.Goals.{in-Some-take_first, in-None}
use Rattle.conn_core.proofs.machine.Machine.outcome.Goals as goal

pub returns : goal.returns
returns c =
    let empty : length c.self.inside.found.items ≡ 0 = sym c.self.inside.found.ok.0 ∙ c.in_default.ensures.cases.0 in
    elim c.match-take_first.branch [
      | in-Some-take_first w ↦ rw (← c.self.view_is, w.result-is, w.into_debt.ensures)
          (takes-back _ _ w.in-Some-take_first.x empty c.if-is_none.ensures c.in_default.ensures.items
          w.in-Some-take_first.ensures.items (cc (c.take_first.ensures.accepted)))
      | in-None w ↦ rw (← c.self.view_is, w.result-is)
          (takes-none _ _ empty c.if-is_none.ensures c.in_default.ensures.items w.in-None.ensures.items
          w.in-None.ensures.none_left (cc (c.take_first.ensures.accepted)))
    ]
