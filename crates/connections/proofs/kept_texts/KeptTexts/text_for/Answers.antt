-- The text that is kept under a token.
use Rattle.std.proofs.Common.{◌∙◌, sym, ap, Some, None}
use Rattle.std.specs.Map.{lookup}
use Rattle.std.specs.Option.{option_map_or, option_copied}
use Rattle.std.specs.Str.{bytes_eq}
use Rattle.connections.specs.Kept.{text_if_for}
use Rattle.connections.proofs.Kept.{found}
use Rattle.connections.proofs.kept_texts.KeptTexts.text_for.Goals as goal

pub returns-in_err-peek : goal.returns-in_err-peek
returns-in_err-peek c =
    ap option_copied c.from_residual.ensures
    ∙ ap (λ one. option_map_or (text_if_for c.args.id.now c.args.now) one None)
    (sym (ap (lookup (bytes_eq c.args.token.now)) (sym c.self.view_is)
    ∙ found c.args.token.now _ c.self.inside.texts.entries None c.bytes.ensures.value c.in_err-peek.ensures))

pub returns : goal.returns
returns c =
    c.text_for.ensures
    ∙ ap (λ one. option_map_or (text_if_for c.args.id.now c.args.now) one None)
    (sym (ap (lookup (bytes_eq c.args.token.now)) (sym c.self.view_is)
    ∙ found c.args.token.now _ c.self.inside.texts.entries (Some c.in_ok-peek.field-0.now) c.bytes.ensures.value
    c.in_ok-peek.ensures))
