-- The debts of a ledger, put into an outline one after another.
use Rattle.std.proofs.Common.{◌≡◌, ℕ, ◌<◌, ◌+◌, List, [], ◌∷◌, ◌++◌, map, refl, sym, ap, ◌∙◌, arith}
use Rattle.std.proofs.lemmas.Bool.Decides.{nat_tests}
use Rattle.std.proofs.lemmas.List.{append-nil, append_assoc}
use Rattle.std.proofs.lemmas.List.Elements.{All-head, All-push, All-tail, All-weaker}
use Rattle.std.proofs.lemmas.Map.Keys.{sorted_head, sorted_tail}
use Rattle.std.specs.BTreeMap.{insert_entry}
use Rattle.std.specs.List.{All, fold}
use Rattle.std.specs.List.Sorted.{IsStrictlySortedBy}
use Rattle.std.specs.Map.{keys_of}
use Rattle.std.specs.Ordering.{nat_cmp}
use Rattle.std.specs.declared.cmp.Ordering.TheVariants.{Less}
use Rattle.ledger_core.specs.Parts.{Parts, ordinals_of, sizes_of}
use Rattle.ledger_core.specs.Shape.{Size, size_of}
use Rattle.ledger_core.specs.Spots.{Entries, debts_of}
use Rattle.ledger_core.specs.State.{keys_in, line_octets}
use Rattle.ledger_core.specs.declared.spot.DebtEntry.{DebtEntry}

-- what is kept of a debt that was owed at the beginning
abbrev pub part_of : ℕ × DebtEntry → ℕ × (ℕ × ℕ)
part_of entry = (entry.0, (0, line_octets entry.1.token.value entry.1.id.value))

abbrev pub put_part : Parts → ℕ × DebtEntry → Parts
put_part parts entry = insert_entry nat_cmp parts entry.0 (part_of entry).1

-- these debts, each put in behind those before it
abbrev pub gathered : Entries → Parts
gathered entries = fold put_part [] entries

last-step : (key : ℕ) (part : ℕ × ℕ) (first : ℕ × (ℕ × ℕ)) (parts : Parts) → first.0 < key
    → insert_entry nat_cmp parts key part ≡ parts ++ (key, part) ∷ []
    → insert_entry nat_cmp (first ∷ parts) key part ≡ first ∷ (parts ++ (key, part) ∷ [])
last-step key part first parts below rest = grind (arith, nat_tests)

-- a key that is above all others comes last
put-last : (parts : Parts) (key : ℕ) (part : ℕ × ℕ) → All (λ (p : ℕ × (ℕ × ℕ)). p.0 < key) parts
    → insert_entry nat_cmp parts key part ≡ parts ++ (key, part) ∷ []
put-last [] key part below = refl
put-last (first ∷ parts) key part below =
    last-step key part first parts (All-head (λ (p : ℕ × (ℕ × ℕ)). p.0 < key) first parts below)
    (put-last parts key part (All-tail (λ (p : ℕ × (ℕ × ℕ)). p.0 < key) first parts below))

abbrev Below : Parts → Entries → Type 0
Below parts [] = Unit {0}
Below parts (entry ∷ entries) = All (λ (p : ℕ × (ℕ × ℕ)). p.0 < entry.0) parts

rises : (one other : ℕ) → nat_cmp one other ≡ Less → one < other
rises one other less = grind (arith, nat_tests)

below-more : (parts : Parts) (entry : ℕ × DebtEntry) (entries : Entries) → Below parts (entry ∷ entries)
    → IsStrictlySortedBy nat_cmp (keys_of (entry ∷ entries)) → Below (parts ++ part_of entry ∷ []) entries
below-more parts entry [] below sorted = tt
below-more parts entry (next ∷ entries) below sorted =
    let above : entry.0 < next.0 =
    rises entry.0 next.0 (sorted_head nat_cmp entry.0 (keys_of (next ∷ entries)) sorted).0 in
    All-push (λ (p : ℕ × (ℕ × ℕ)). p.0 < next.0) parts (part_of entry)
    (All-weaker (λ (p : ℕ × (ℕ × ℕ)). p.0 < entry.0) (λ (p : ℕ × (ℕ × ℕ)). p.0 < next.0)
    (λ p here. omega (arith, here, above)) parts below) above

gathers : (parts : Parts) (entries : Entries) → Below parts entries → IsStrictlySortedBy nat_cmp (keys_of entries)
    → fold put_part parts entries ≡ parts ++ map part_of entries
gathers parts [] below sorted = sym (append-nil parts)
gathers parts (entry ∷ entries) below sorted =
    ap (λ (ps : Parts). fold put_part ps entries) (put-last parts entry.0 (part_of entry).1 below)
    ∙ (gathers (parts ++ part_of entry ∷ []) entries (below-more parts entry entries below sorted)
    (sorted_tail nat_cmp entry.0 (keys_of entries) sorted)
    ∙ append_assoc parts (part_of entry ∷ []) (map part_of entries))

below-none : (entries : Entries) → Below [] entries
below-none [] = tt
below-none (entry ∷ entries) = λ k d within. absurd (omega arith)

-- debts by rising keys are kept in that order
pub gathered-all : (entries : Entries) → IsStrictlySortedBy nat_cmp (keys_of entries)
    → gathered entries ≡ map part_of entries
gathered-all entries sorted = gathers [] entries (below-none entries) sorted

-- ---- what is kept then

pub sizes-kept : (entries : Entries) → sizes_of (map part_of entries) ≡ map size_of (debts_of entries)
sizes-kept [] = refl
sizes-kept (entry ∷ entries) =
    ap (λ (l : List Size). (entry.0, line_octets entry.1.token.value entry.1.id.value) ∷ l) (sizes-kept entries)

pub ordinals-kept : (entries : Entries)
    → ordinals_of (map part_of entries) ≡ map (λ (key : ℕ). (key, 0)) (keys_in (debts_of entries))
ordinals-kept [] = refl
ordinals-kept (entry ∷ entries) = ap (λ (l : List (ℕ × ℕ)). (entry.0, 0) ∷ l) (ordinals-kept entries)

pub keys-outlined : (entries : Entries) → keys_of (map part_of entries) ≡ keys_in (debts_of entries)
keys-outlined [] = refl
keys-outlined (entry ∷ entries) = ap (λ (l : List ℕ). entry.0 ∷ l) (keys-outlined entries)
