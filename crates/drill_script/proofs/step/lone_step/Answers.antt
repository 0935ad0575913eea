-- A word that names no step without a text.
use Rattle.std.proofs.Common.{◌≡◌, arith}
use Rattle.std.specs.Prelude.{codes}
use Rattle.drill_script.proofs.Saying.{says_none_alone}
use Rattle.drill_script.proofs.step.lone_step.Goals as goal

pub returns-in_default : goal.returns-in_default
returns-in_default c =
    says_none_alone c.args.word.now
    (λ (same : c.args.word.now ≡ codes "line"). grind arith)
    (λ (same : c.args.word.now ≡ codes "flush"). grind arith)
    (λ (same : c.args.word.now ≡ codes "begin"). grind arith)
    (λ (same : c.args.word.now ≡ codes "seal"). grind arith)
    (λ (same : c.args.word.now ≡ codes "stop"). grind arith)
    (λ (same : c.args.word.now ≡ codes "restart"). grind arith)
