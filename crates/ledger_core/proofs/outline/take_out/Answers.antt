use Rattle.std.proofs.Common.{ℕ, is_some, sym, ap, ◌∙◌, subst, arith}
use Rattle.std.proofs.lemmas.Map.Lookups.{exact_unsigned}
use Rattle.std.proofs.lemmas.Map.Views.{All-map-remove_entry, btree_map_contains_key_iff}
use Rattle.std.specs.BTreeMap.{is_at}
use Rattle.std.specs.Cmp.{nat_cmp_total}
use Rattle.std.specs.List.{All}
use Rattle.std.specs.Map.{keys_of, lookup}
use Rattle.std.specs.Ordering.{nat_cmp}
use Rattle.ledger_core.proofs.Parted.{octets-less, removed}
use Rattle.ledger_core.proofs.Spellings.{not-some}
use Rattle.ledger_core.specs.Parts.{Parts}
use Rattle.ledger_core.specs.State.{IsPast}
use Rattle.ledger_core.proofs.outline.take_out.Goals as goal

pub returns-in_err-part-clause-none : goal.returns-in_err-part-clause-none
returns-in_err-part-clause-none c =
    let key = btree_map_contains_key_iff nat_cmp_total exact_unsigned c.args.debts.now c.args.key in
    rw c.from_residual.ensures (
      λ owed. not-some _ (sym c.in_err-part.ensures.value) (key.1 owed),
      c.in_err-part.ensures.unchanged,
    )

pub returns-clause-owed : goal.returns-clause-owed
returns-clause-owed c =
    (btree_map_contains_key_iff nat_cmp_total exact_unsigned c.args.debts.now c.args.key).0
    (ap is_some (sym c.in_ok-part.ensures.value))

pub returns-clause-left : goal.returns-clause-left
returns-clause-left c =
    c.remove.ensures.entries
    ∙ removed c.args.key c.args.debts.now.entries
    (ap (λ (es : Parts). lookup (is_at (nat_cmp c.args.key)) es) (sym c.remove.ensures.entries)
    ∙ c.remove.ensures.updates.1)

pub returns-clause-octets : goal.returns-clause-octets
returns-clause-octets c =
    octets-less c.args.key c.args.debts.now.entries c.remove.new.self.entries c.in_ok-part.part c.from.result
    c.remove.ensures.entries (sym c.in_ok-part.ensures.value) (omega (arith, c.octets.ensures))

pub returns-clause-past : goal.returns-clause-past
returns-clause-past c = λ marks all.
    subst (λ (es : Parts). All (IsPast marks) (keys_of es)) (sym c.remove.ensures.entries)
    (All-map-remove_entry (is_at (nat_cmp c.args.key)) (λ (part : ℕ × (ℕ × ℕ)). part.0) (IsPast marks)
    c.args.debts.now.entries all)
