use Rattle.std.proofs.Common.{◌≡◌, ◌-◌, ◌<◌, ◌∙◌, ℕ, Some, length, get_or, sym, ap, subst, arith}
use Rattle.std.specs.Prelude.{slice_get, false, map}
use Rattle.std.specs.List.{All}
use Rattle.std.specs.Ordering.{is_lt, nat_cmp}
use Rattle.std.proofs.lemmas.List.{get_or-map, length-map}
use Rattle.std.proofs.lemmas.Map.Keys.{ge_from_not_lt}
use Rattle.std.proofs.lemmas.Option.{get_or_from_slice_get, slice_get_within}
use Rattle.ledger_core.specs.Spots.{Entries, debts_of}
use Rattle.ledger_core.specs.State.{keys_in}
use Rattle.ledger_core.specs.declared.spot.DebtEntry.{DebtEntry}
use Rattle.ledger_core.proofs.Debts.{keys-kept}
use Rattle.ledger_core.proofs.ledger.Ledger.is_above_all.Goals as goal

abbrev key_in : ℕ × DebtEntry → ℕ
key_in entry = entry.0

-- a key above the last is above all
above-last : (entries : Entries) (last key : ℕ) → All (λ n. is_lt (nat_cmp last n) ≡ false) (map key_in entries)
    → last < key → All (λ n. n < key) (keys_in (debts_of entries))
above-last entries last key all low =
    subst (All (λ n. n < key)) (sym (keys-kept entries))
    (λ k d within. omega (arith, low, ge_from_not_lt last (get_or (map key_in entries) k d) (all k d within)))

-- and a key above all is above the last
last-below : (entries : Entries) (last key : ℕ) (entry : DebtEntry)
    → slice_get entries (length entries - 1) ≡ Some (last, entry) → All (λ n. n < key) (keys_in (debts_of entries))
    → last < key
last-below entries last key entry e all =
    let i = length entries - 1 in
    let within = slice_get_within entries i (last, entry) e in
    let at : get_or (map key_in entries) i 0 ≡ last =
    get_or-map key_in entries i (last, entry) 0 within
    ∙ ap key_in (get_or_from_slice_get entries i (last, entry) (last, entry) e) in
    let below = subst (All (λ n. n < key)) (keys-kept entries) all i 0
    (omega (arith, within, length-map entries key_in)) in
    omega (arith, below, at)

pub returns-in-Some : goal.returns-in-Some
returns-in-Some c =
    let entries = c.args.self.now.debts.entries in (
      λ low. above-last entries c.in-Some.last.now c.args.key c.in-Some.ensures.all_up_to (c.is_below.ensures.0 low),
      λ all. c.is_below.ensures.1 (last-below entries c.in-Some.last.now c.args.key _ c.in-Some.ensures.last all),
    )
