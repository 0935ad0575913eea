use Rattle.std.proofs.Common.{◌≡◌, length, sym, ◌∙◌, arith}
use Rattle.crossbeam_queue.specs.Passes.{view}
use Rattle.note_queue.specs.RelayLaws.{pops-relayed, totals}
use Rattle.note_queue.proofs.Owning.{all_popped}
use Rattle.note_queue.proofs.drain.drained.Goals as goal

pub pop_as-requires-clause-rule : goal.pop_as-requires-clause-rule
pop_as-requires-clause-rule g c =
    (pops-relayed _ _ c.loop.invariant.3, totals _ _ c.loop.invariant.2 c.loop.invariant.3)

pub returns-clause-all : goal.returns-clause-all
returns-clause-all g c =
    let inv = c.loop.invariant in
    let was = c.len_as-count.ensures.rule.1 in
    let now = c.learn_as.ensures.rule in
    let many : length was.0 ≡ length c.loop.notes.items =
    omega (arith, was.1, inv.6, c.loop.auto.counter-end, c.loop-test.false) in
    sym inv.4
    ∙ all_popped (view c.loop.pass).sent (view c.loop.pass).got (view c.args.pass.now).got c.loop.notes.items now.0
    was.0 (inv.4 ∙ was.2.1) many now.1.1 inv.5
