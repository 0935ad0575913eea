use Rattle.std.proofs.Common.{ℕ, Some, sym, ap, ◌∙◌}
use Rattle.std.specs.Prelude.{option_map}
use Rattle.ledger_core.proofs.Parted.{octets-found}
use Rattle.ledger_core.proofs.outline.Outline.octets.Goals as goal

pub returns-in_err-part : goal.returns-in_err-part
returns-in_err-part c =
    c.from_residual.ensures
    ∙ sym (octets-found c.args.key c.args.self.now.debts.entries
    ∙ ap (option_map (λ (part : ℕ × ℕ). part.1)) (sym c.in_err-part.ensures.value))

pub returns : goal.returns
returns c =
    ap (λ (n : ℕ). Some n) (c.from.ensures ∙ c.octets.ensures)
    ∙ sym (octets-found c.args.key c.args.self.now.debts.entries
    ∙ ap (option_map (λ (part : ℕ × ℕ). part.1)) (sym c.in_ok-part.ensures.value))
