use Rattle.std.proofs.Common.{rules, ◌∙◌}
use Rattle.std.proofs.lemmas.List.Sorted.{answers_always}
use Rattle.conn_core.specs.Commands.{Held}
use Rattle.conn_core.proofs.Tickets.{searched}
use Rattle.conn_core.proofs.held.HeldDebts.index_of.Goals as goal

pub returns : goal.returns
returns c =
    let facts = c.binary_search_by_key.ensures in
    let by_key = facts.position (λ (x : Held). x.ticket) (answers_always _ _ _ (λ f a r g called. search rules)) in
    rw (← c.self.view_is) (c.ok.ensures.value
    ∙ searched c.self.inside.debts.items c.args.ticket c.self.invariant.0 c.binary_search_by_key.result
    (rw (← c.self.inside.debts.ok.0) facts.bound) by_key)
