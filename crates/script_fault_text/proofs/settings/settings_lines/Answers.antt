-- Settings without a fault, and settings that have one.
use Rattle.std.proofs.Common.{◌≡◌, ◌≢◌, ◌∙◌, List, ℕ, Ok, Err, ap, inl, inr, rules, subst, sym}
use Rattle.feed_conf.specs.ConfView.{conf_view}
use Rattle.feed_conf.specs.Explanation.{explanation}
use Rattle.feed_conf.specs.Reading.{HaveLexemes, lines_of}
use Rattle.feed_conf.specs.declared.fault.ConfFaultKind.TheVariants.{NoMemory}
use Rattle.std.specs.Prelude.{codes}
use Rattle.script_fault_text.specs.FaultText.{AreOnSettings, Means, block_text, second_text}
use Rattle.std.proofs.lemmas.Result.{IfOk-weaker}
use Rattle.script_fault_text.proofs.settings.settings_lines.Goals as goal

pub returns-in-Ok : goal.returns-in-Ok
returns-in-Ok c =
    let source = c.args.place.source.now in
    let number = c.args.place.number in
    let line = c.args.line.now in
    let block = block_text number c.args.name.now c.args.items.now in
    let text : c.deref.result.now ≡ block = c.deref.ensures.value ∙ c.in_ok-text.ensures in
    let means : Means block (Ok (conf_view c.in-Ok.field-0)) = λ lexemes have. c.in-Ok.ensures.meaning lexemes
    (subst (λ (t : List ℕ). HaveLexemes (lines_of t) lexemes) (sym text) have) in
    IfOk-weaker c.on_second.result
    (λ lines. lines.items ≡ second_text source number line (codes "the settings of one peer of this name"))
    (λ lines. AreOnSettings source number line c.args.name.now c.args.items.now lines.items)
    (λ lines same. inr (conf_view c.in-Ok.field-0, means, same))
    c.on_second.ensures

pub returns : goal.returns
returns c =
    let source = c.args.place.source.now in
    let number = c.args.place.number in
    let block = block_text number c.args.name.now c.args.items.now in
    let fault = c.in-Err.fault in
    let text : c.deref.result.now ≡ block = c.deref.ensures.value ∙ c.in_ok-text.ensures in
    let again : c.deref-in-Err-2.result.now ≡ block = c.deref-in-Err-2.ensures.value ∙ c.in_ok-text.ensures in
    let has_memory : fault.kind ≢ NoMemory = search rules in
    let means : Means block (Err fault) = λ lexemes have. c.in-Err.ensures.meaning lexemes
    (subst (λ (t : List ℕ). HaveLexemes (lines_of t) lexemes) (sym text) have) has_memory in
    IfOk-weaker c.explain.result (λ lines. lines.items ≡ explanation source c.deref-in-Err-2.result.now fault)
    (λ lines. AreOnSettings source number c.args.line.now c.args.name.now c.args.items.now lines.items)
    (λ lines same. inl (fault, means, same ∙ ap (λ (t : List ℕ). explanation source t fault) again))
    c.explain.ensures
