use Rattle.std.proofs.Common.{rules, ◌≡◌, ℕ, List, IfOk, map, sym, ◌∙◌, subst}
use Rattle.std.proofs.lemmas.Map.Keys.{IsStrictlyIncreasing-from_sorted}
use Rattle.std.specs.List.Sorted.{IsStrictlyIncreasing}
use Rattle.std.proofs.lemmas.Result.{IfOk-weaker}
use Rattle.ledger_core.proofs.Parted.{keys-parts}
use Rattle.ledger_core.specs.Parts.{sizes_of}
use Rattle.ledger_core.specs.Shape.{keys_sized}
use Rattle.ledger_core.proofs.outline.Outline.keys.Goals as goal

pub returns-clause-items : goal.returns-clause-items
returns-clause-items c =
    let parts = c.args.self.now.debts.entries in
    let keys = map (λ (part : ℕ × (ℕ × ℕ)). part.0) parts in
    let items : IfOk c.collect.result (λ v. v.items ≡ keys) = search rules in
    IfOk-weaker c.collect.result (λ v. v.items ≡ keys) (λ v. v.items ≡ keys_sized (sizes_of parts))
    (λ v e. e ∙ sym (keys-parts parts)) items

pub returns-clause-rising : goal.returns-clause-rising
returns-clause-rising c =
    let parts = c.args.self.now.debts.entries in
    let keys = map (λ (part : ℕ × (ℕ × ℕ)). part.0) parts in
    let items : IfOk c.collect.result (λ v. v.items ≡ keys) = search rules in
    IfOk-weaker c.collect.result (λ v. v.items ≡ keys) (λ v. IsStrictlyIncreasing v.items)
    (λ v e. subst (λ (xs : List ℕ). IsStrictlyIncreasing xs) (sym e)
    (IsStrictlyIncreasing-from_sorted keys c.keys.ensures.ordered)) items
