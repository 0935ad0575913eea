use Rattle.std.proofs.Common.{ℕ, List, Some, is_some, refl, sym, ap, ◌∙◌, subst}
use Rattle.std.specs.Prelude.{option_map}
use Rattle.std.proofs.lemmas.Bool.{false≢true}
use Rattle.std.proofs.lemmas.Map.Lookups.{exact_unsigned}
use Rattle.std.proofs.lemmas.Map.Views.{btree_map_contains_key_iff}
use Rattle.std.specs.Cmp.{nat_cmp_total}
use Rattle.std.specs.List.{Contains}
use Rattle.ledger_core.proofs.Parted.{keys-parts, ordinal-found}
use Rattle.ledger_core.proofs.Spellings.{not-some}
use Rattle.ledger_core.proofs.outline.Outline.ordinal.Goals as goal

pub returns-in_err-part-clause-ordinal : goal.returns-in_err-part-clause-ordinal
returns-in_err-part-clause-ordinal c =
    c.from_residual.ensures
    ∙ sym (ordinal-found c.args.key c.args.self.now.debts.entries
    ∙ ap (option_map (λ (part : ℕ × ℕ). part.0)) (sym c.in_err-part.ensures.value))

pub returns-in_err-part-clause-owed : goal.returns-in_err-part-clause-owed
returns-in_err-part-clause-owed c =
    let key = btree_map_contains_key_iff nat_cmp_total exact_unsigned c.args.self.now.debts c.args.key in
    rw c.from_residual.ensures (
      λ some. absurd (false≢true some),
      λ owed. absurd (not-some _ (sym c.in_err-part.ensures.value)
          (key.1 (subst (λ (ns : List ℕ). Contains ns c.args.key) (keys-parts c.args.self.now.debts.entries) owed))),
    )

pub returns-clause-ordinal : goal.returns-clause-ordinal
returns-clause-ordinal c =
    ap (λ (n : ℕ). Some n) c.ordinal.ensures
    ∙ sym (ordinal-found c.args.key c.args.self.now.debts.entries
    ∙ ap (option_map (λ (part : ℕ × ℕ). part.0)) (sym c.in_ok-part.ensures.value))

pub returns-clause-owed : goal.returns-clause-owed
returns-clause-owed c =
    let key = btree_map_contains_key_iff nat_cmp_total exact_unsigned c.args.self.now.debts c.args.key in (
      λ some. subst (λ (ns : List ℕ). Contains ns c.args.key) (sym (keys-parts c.args.self.now.debts.entries))
          (key.0 (ap is_some (sym c.in_ok-part.ensures.value))),
      λ owed. refl,
    )
