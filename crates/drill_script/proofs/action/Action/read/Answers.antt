use Rattle.std.proofs.Common.{◌≡◌, arith}
use Rattle.std.specs.Prelude.{codes}
use Rattle.drill_script.proofs.Saying.{says_none}
use Rattle.drill_script.proofs.action.Action.read.Goals as goal

pub returns-in_default : goal.returns-in_default
returns-in_default c =
    says_none (λ t. t.now) c.args.word.now c.args.text
    (λ none. (
      λ (same : c.args.word.now ≡ codes "hand"). grind arith,
      λ (same : c.args.word.now ≡ codes "break").
          grind arith,
    ))
    (λ t some. (
      λ (same : c.args.word.now ≡ codes "say"). grind arith,
      λ (same : c.args.word.now ≡ codes "raw"). grind
          arith,
      λ (same : c.args.word.now ≡ codes "article"). grind arith,
    ))
