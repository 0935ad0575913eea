use Rattle.std.proofs.Common.{ℕ, List, subst, sym}
use Rattle.std.proofs.lemmas.Map.Lookups.{exact_unsigned}
use Rattle.std.proofs.lemmas.Map.Views.{btree_map_contains_key_iff}
use Rattle.std.specs.Cmp.{nat_cmp_total}
use Rattle.std.specs.List.{Contains}
use Rattle.ledger_core.proofs.Parted.{keys-parts}
use Rattle.ledger_core.proofs.outline.Outline.owes.Goals as goal

pub returns : goal.returns
returns c =
    let key = btree_map_contains_key_iff nat_cmp_total exact_unsigned c.args.self.now.debts c.args.key in
    let same = keys-parts c.args.self.now.debts.entries in
    rw c.contains_key.ensures (
      λ t. subst (λ (ns : List ℕ). Contains ns c.args.key) (sym same) (key.0 t),
      λ owed. key.1 (subst (λ (ns : List ℕ). Contains ns c.args.key) same owed),
    )
