use Rattle.std.proofs.Common.{ℕ, List, [], ◌∷◌, ◌++◌, ◌∙◌, ap}
use Rattle.std.specs.Prelude.{codes}
use Rattle.cli.proofs.fault.unread_line_of.Goals as goal

pub returns : goal.returns
returns c =
    let path = c.args.path.now in
    let why = codes ": " ++ c.args.reason.now ++ 10 ∷ [] in
    let begun = c.in_ok-lines.ensures.items ∙ c.as_bytes.ensures.value in
    let first = c.in_ok-add_line.ensures ∙ ap (λ (text : List ℕ). text ++ why) begun in
    let last = c.as_bytes-2.result.now in
    c.in_ok-add_line-2.ensures
    ∙ (ap (λ (text : List ℕ). text ++ (codes "cannot read " ++ last ++ 10 ∷ [])) first
    ∙ ap (λ (text : List ℕ). path ++ why ++ (codes "cannot read " ++ text ++ 10 ∷ [])) c.as_bytes-2.ensures.value)
