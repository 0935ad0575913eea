-- A word that names no other step.
use Rattle.std.proofs.Common.{◌≡◌, arith}
use Rattle.std.specs.Prelude.{codes}
use Rattle.drill_script.proofs.Saying.{says_step}
use Rattle.drill_script.proofs.step.step_of.Goals as goal

pub returns-in_default-Some : goal.returns-in_default-Some
returns-in_default-Some c =
    says_step c.args.word.now (λ (same : c.args.word.now ≡ codes "line"). grind arith)
    (λ (same : c.args.word.now ≡ codes "part"). grind arith)
    (λ (same : c.args.word.now ≡ codes "connect"). grind arith)
    (λ (same : c.args.word.now ≡ codes "shed"). grind arith)
    (λ (same : c.args.word.now ≡ codes "rotate"). grind arith)
    (λ (same : c.args.word.now ≡ codes "tick"). grind arith) (λ (same : c.args.word.now ≡ codes "stop"). grind arith)
    (λ t. t.now) c.args.text _ c.step_behind.result c.step_behind.ensures (grind arith)
