use Rattle.std.proofs.Common.{ℕ, List, ◌+◌, ap, sym, subst, refl, ◌∙◌, arith}
use Rattle.std.specs.List.{Contains}
use Rattle.ledger_core.proofs.Parted.{keys-parts, ordinals-less, sizes-less}
use Rattle.ledger_core.proofs.Shaped.{final-stays, final-steps}
use Rattle.ledger_core.specs.Outline.{shape_in}
use Rattle.ledger_core.specs.Parts.{Parts, ordinals_of, sizes_of}
use Rattle.ledger_core.proofs.outline.Outline.answer.Goals as goal

pub invariant_of-self-2 : goal.invariant_of-self-2
invariant_of-self-2 c =
    let outline = c.args.self.now in
    record {
      counted = omega (arith, c.in-Some.ensures.count, outline.counted);
      summed = omega (arith, c.in-Some.ensures.octets, outline.summed);
      past = c.in-Some.ensures.past outline.marks outline.past;
      openable = outline.openable;
    }

pub returns-clause-applied : goal.returns-clause-applied
returns-clause-applied c = λ code.
    let outline = c.args.self.now in
    final-steps (shape_in outline) c.args.key (outline.answered + 1) code (sizes_of c.take_out.new.debts.entries)
    (subst (λ (ns : List ℕ). Contains ns c.args.key) (sym (keys-parts outline.debts.entries)) c.in-Some.ensures.owed)
    (omega (arith, outline.counted, c.in-Some.ensures.count)) refl
    (ap sizes_of c.in-Some.ensures.left ∙ sizes-less c.args.key outline.debts.entries)

pub returns-clause-ordinals : goal.returns-clause-ordinals
returns-clause-ordinals c =
    ap ordinals_of c.in-Some.ensures.left ∙ ordinals-less c.args.key c.args.self.now.debts.entries

pub returns-in_default-clause-applied : goal.returns-in_default-clause-applied
returns-in_default-clause-applied c = λ code.
    let outline = c.args.self.now in
    let none = c.in_default.ensures.none in
    final-stays (shape_in outline) (record (shape_in outline) { sizes = sizes_of c.take_out.new.debts.entries })
    c.args.key code
    (λ owed. none.0 (subst (λ (ns : List ℕ). Contains ns c.args.key) (keys-parts outline.debts.entries) owed))
    (ap (λ (es : Parts). record (shape_in outline) { sizes = sizes_of es }) none.1)

pub returns-in_default-clause-unchanged : goal.returns-in_default-clause-unchanged
returns-in_default-clause-unchanged c = ap ordinals_of c.in_default.ensures.none.1
