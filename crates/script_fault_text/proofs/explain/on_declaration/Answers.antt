-- The settings of the peer that is named.
use Rattle.script_fault_text.specs.FaultText.{AreOnDeclaration, AreOnSettings}
use Rattle.std.proofs.lemmas.Result.{IfOk-weaker}
use Rattle.script_fault_text.proofs.explain.on_declaration.Goals as goal

pub returns : goal.returns
returns c =
    let source = c.args.place.source.now in
    let number = c.args.place.number in
    let line = c.args.line.now in
    let name = c.split_peer.result.0.now in
    let items = c.split_peer.result.1.now in
    IfOk-weaker c.settings_lines.result (λ lines. AreOnSettings source number line name items lines.items)
    (λ lines. AreOnDeclaration source number line c.args.declaration.now lines.items)
    (λ lines on. (name, items, c.split_peer.ensures.parts, c.split_peer.ensures.solid, on))
    c.settings_lines.ensures
