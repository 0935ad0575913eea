use Rattle.std.proofs.Common.{◌≡◌, true, inl, inr, ◌∙◌, arith}
use Rattle.deferral.specs.Tree.{waiting_in}
use Rattle.deferral.proofs.Below.{below}
use Rattle.deferral.proofs.Listed.{none_listed, taken_enough, taken_none}
use Rattle.deferral.proofs.tree.+push_due.Goals as goal
use Rattle.deferral.proofs.tree.+push_due.Goals.{Tree::push_due-then-len-most-via-then-len-most}
use Rattle.deferral.proofs.tree.+push_due.Goals.{Tree::push_due-then-len-most-via-else-len-most+then-is_below}
use Rattle.deferral.proofs.tree.+push_due.Goals.{Tree::push_due-then-len-most-via-else-len-most+else-is_below+then-not-is_by}

pub Tree::push_due-returns-then-len-most : goal.Tree::push_due-returns-then-len-most
Tree::push_due-returns-then-len-most t c =
    let b = c.bounds-last.result in
    let old = c.args.keys.now.items in
    let waiting = waiting_in c.args.self.now in
    let none = none_listed b waiting c.args.first c.args.now c.bounds-last.ensures in
    record {
      ok = elim c.then-len-most.branch [
        | Tree::push_due-then-len-most-via-then-len-most w ↦
            taken_enough c.args.most old _ c.requires (omega (arith, c.len.ensures, w.if-len-most.true))
        | Tree::push_due-then-len-most-via-else-len-most+then-is_below w ↦
            taken_none c.args.most old _ c.requires (none (inl (below _ _ _ w.is_below.ensures w.if-is_below.true)))
        | Tree::push_due-then-len-most-via-else-len-most+else-is_below+then-not-is_by w ↦
            taken_none c.args.most old _ c.requires
            (none (inr (λ h. let by : w.is_by.result ≡ true = w.is_by.ensures ∙ h in cc)))
      ];
    }
