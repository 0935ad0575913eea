use Rattle.std.proofs.Common.{◌≡◌, ◌+◌, ℕ, List, length, subst, arith, rules}
use Rattle.std.proofs.lemmas.Grind.{common_steps}
use Rattle.drill_script.specs.Draft.{Drafts, Gains, IsRefusal}
use Rattle.drill_script.specs.Line.{Says, SentenceView}
use Rattle.drill_script.specs.Script.{BreaksAt}
use Rattle.drill_script.specs.declared.fault.BrokenRule.TheVariants.{Unended}
use Rattle.drill_script.specs.declared.fault.ScriptFault.TheVariants.{Broken}
use Rattle.std.specs.Prelude.{Err, Ok}
use Rattle.drill_script.proofs.Reading.{fault_good, fault_reported, first_both}
use Rattle.drill_script.proofs.Reading.{has_more, keeps_both, placed, read_whole}
use Rattle.drill_script.proofs.Reading.{refusal_told}
use Rattle.drill_script.proofs.Distinct.{names_differ}
use Rattle.drill_script.proofs.read.read_script.Goals as goal

pub returns-in_err-add-clause-broken : goal.returns-in_err-add-clause-broken
returns-in_err-add-clause-broken c =
    let has = c.loop-line.invariant.read in
    let fault = c.in_err-add.field-0.0 in
    let refused : IsRefusal c.loop-line.line_number c.without_cr.result.now has.sentences fault =
    c.in_err-add.ensures.broken has.sentences has.drafts in
    let told =
    refusal_told c.args.text.now c.loop-line.rest.now c.in-Some.line.now c.in-Some.more.now c.loop-line.line_number
    has.sentences has.reads has.at c.in-Some.ensures.line fault
    (subst (λ (l : List ℕ). IsRefusal c.loop-line.line_number l has.sentences fault) c.without_cr.ensures refused) in
    fault_reported c.args.text.now c.from_residual.result fault c.from_residual.ensures.1 told

pub returns-in_err-add-clause-keeps : goal.returns-in_err-add-clause-keeps
returns-in_err-add-clause-keeps c =
    let has = c.loop-line.invariant.read in
    let fault = c.in_err-add.field-0.0 in
    let refused : IsRefusal c.loop-line.line_number c.without_cr.result.now has.sentences fault =
    c.in_err-add.ensures.broken has.sentences has.drafts in
    let told =
    refusal_told c.args.text.now c.loop-line.rest.now c.in-Some.line.now c.in-Some.more.now c.loop-line.line_number
    has.sentences has.reads has.at c.in-Some.ensures.line fault
    (subst (λ (l : List ℕ). IsRefusal c.loop-line.line_number l has.sentences fault) c.without_cr.ensures refused) in
    keeps_both c.args.text.now c.from_residual.result
    (fault_good c.args.text.now c.from_residual.result fault c.from_residual.ensures.1)
    (fault_reported c.args.text.now c.from_residual.result fault c.from_residual.ensures.1 told)

pub returns-in_err-add-clause-first : goal.returns-in_err-add-clause-first
returns-in_err-add-clause-first c =
    let has = c.loop-line.invariant.read in
    let fault = c.in_err-add.field-0.0 in
    let refused : IsRefusal c.loop-line.line_number c.without_cr.result.now has.sentences fault =
    c.in_err-add.ensures.broken has.sentences has.drafts in
    let told =
    refusal_told c.args.text.now c.loop-line.rest.now c.in-Some.line.now c.in-Some.more.now c.loop-line.line_number
    has.sentences has.reads has.at c.in-Some.ensures.line fault
    (subst (λ (l : List ℕ). IsRefusal c.loop-line.line_number l has.sentences fault) c.without_cr.ensures refused) in
    first_both c.args.text.now c.from_residual.result
    (fault_good c.args.text.now c.from_residual.result fault c.from_residual.ensures.1)
    (fault_reported c.args.text.now c.from_residual.result fault c.from_residual.ensures.1 told)

pub loop-line-preserved : goal.loop-line-preserved
loop-line-preserved c =
    record {
      read =
          has_more c.args.text.now c.loop-line.rest.now c.in-Some.line.now c.in-Some.more.now c.loop-line.line_number
          c.loop-line.draft c.add.new.self c.in-Some.ensures.line
          c.loop-line.invariant.read
          (subst (λ (l : List ℕ). (before : List SentenceView) → Drafts c.loop-line.draft before →
          c.loop-line.line_number ≡ length before + 1 →
          (said : SentenceView) × Says l said × Gains c.loop-line.draft c.add.new.self before said)
          c.without_cr.ensures c.in_ok-add.ensures.ok);
      room = omega (arith, c.in-Some.ensures.shorter);
    }

pub returns-then-not-is_empty-clause-keeps : goal.returns-then-not-is_empty-clause-keeps
returns-then-not-is_empty-clause-keeps c =
    let told : BreaksAt c.args.text.now c.loop-line.line_number Unended = search rules in
    keeps_both c.args.text.now (Err (Broken c.loop-line.line_number Unended)) tt told

pub returns-then-not-is_empty-clause-first : goal.returns-then-not-is_empty-clause-first
returns-then-not-is_empty-clause-first c =
    let told : BreaksAt c.args.text.now c.loop-line.line_number Unended = search rules in
    first_both c.args.text.now (Err (Broken c.loop-line.line_number Unended)) tt told

pub returns-clause-first : goal.returns-clause-first
returns-clause-first c =
    let none : length c.loop-line.rest.now ≡ 0 = grind (arith, common_steps) in
    let good =
    read_whole c.args.text.now c.loop-line.rest.now c.loop-line.line_number c.loop-line.draft c.in_ok-script.script
    c.loop-line.invariant.read none c.in_ok-script.ensures in
    first_both c.args.text.now (Ok c.in_ok-script.script) good tt

pub returns-clause-distinct : goal.returns-clause-distinct
returns-clause-distinct c =
    let none : length c.loop-line.rest.now ≡ 0 = grind (arith, common_steps) in
    let good =
    read_whole c.args.text.now c.loop-line.rest.now c.loop-line.line_number c.loop-line.draft c.in_ok-script.script
    c.loop-line.invariant.read none c.in_ok-script.ensures in
    names_differ c.args.text.now c.in_ok-script.script good

pub returns-clause-placed : goal.returns-clause-placed
returns-clause-placed c =
    let none : length c.loop-line.rest.now ≡ 0 = grind (arith, common_steps) in
    let good =
    read_whole c.args.text.now c.loop-line.rest.now c.loop-line.line_number c.loop-line.draft c.in_ok-script.script
    c.loop-line.invariant.read none c.in_ok-script.ensures in
    placed c.args.text.now c.in_ok-script.script good

pub returns-clause-ok : goal.returns-clause-ok
returns-clause-ok c =
    let none : length c.loop-line.rest.now ≡ 0 = grind (arith, common_steps) in
    read_whole c.args.text.now c.loop-line.rest.now c.loop-line.line_number c.loop-line.draft c.in_ok-script.script
    c.loop-line.invariant.read none c.in_ok-script.ensures

pub returns-clause-keeps : goal.returns-clause-keeps
returns-clause-keeps c =
    let none : length c.loop-line.rest.now ≡ 0 = grind (arith, common_steps) in
    let good =
    read_whole c.args.text.now c.loop-line.rest.now c.loop-line.line_number c.loop-line.draft c.in_ok-script.script
    c.loop-line.invariant.read none c.in_ok-script.ensures in
    keeps_both c.args.text.now (Ok c.in_ok-script.script) good tt
