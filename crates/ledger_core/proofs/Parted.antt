-- What is kept of debts by their keys: what one more and one less leave.
use Rattle.std.proofs.Common.{◌≡◌, ℕ, suc, ◌+◌, Bool, true, false, cond, not, ◌==◌, List, [], ◌∷◌, Option, Some, None}
use Rattle.std.proofs.Common.{length, IsSome, refl, sym, ap, ◌∙◌, arith}
use Rattle.std.specs.BTreeMap.{insert_entry, is_at}
use Rattle.std.specs.Cmp.{nat_cmp_total}
use Rattle.std.specs.List.{All, Contains, sum_by}
use Rattle.std.specs.List.Sorted.{IsStrictlySortedBy}
use Rattle.std.specs.Map.{keys_of, lookup, remove_entry, values_of}
use Rattle.std.specs.Option.{unwrap_or}
use Rattle.std.specs.Ordering.{is_eq, match_ordering, nat_cmp}
use Rattle.std.specs.Prelude.{option_map}
use Rattle.std.specs.declared.cmp.Ordering.{Ordering}
use Rattle.std.specs.declared.cmp.Ordering.TheVariants.{Less, Equal, Greater}
use Rattle.std.proofs.lemmas.Bool.Decides.{nat_tests}
use Rattle.std.proofs.lemmas.List.{length-map}
use Rattle.std.proofs.lemmas.List.Sums.{sum_by-cons}
use Rattle.std.proofs.lemmas.Map.{NonePasses, none_passes_from_lookup}
use Rattle.std.proofs.lemmas.Map.Made.{lookup-map_values}
use Rattle.std.proofs.lemmas.Map.Entries.{lookup_tail, sum_by-insert_entry, sum_by-remove_entry}
use Rattle.ledger_core.proofs.Debts.{tests}
use Rattle.ledger_core.specs.Parts.{Parts, ordinal_at, ordinals_of, sizes_of}
use Rattle.ledger_core.specs.Shape.{Size, keys_sized, octets_sized, size_at, without_key}
use Rattle.ledger_core.specs.ShapeLaws.{valued-keys, valued-with, valued-without}

abbrev octets_at : ℕ × ℕ → ℕ
octets_at part = part.1

abbrev ordinal_in : ℕ × ℕ → ℕ
ordinal_in part = part.0

-- ---- sizes and ordinals

pub keys-parts : (parts : Parts) → keys_sized (sizes_of parts) ≡ keys_of parts
keys-parts parts = valued-keys octets_at parts

pub length-parts : (parts : Parts) → length (sizes_of parts) ≡ length parts
length-parts parts = length-map parts (λ (part : ℕ × (ℕ × ℕ)). (part.0, part.1.1))

pub sizes-more : (parts : Parts) (key : ℕ) (part : ℕ × ℕ)
    → sizes_of (insert_entry nat_cmp parts key part) ≡ insert_entry nat_cmp (sizes_of parts) key part.1
sizes-more parts key part = valued-with octets_at parts key part

pub ordinals-more : (parts : Parts) (key : ℕ) (part : ℕ × ℕ)
    → ordinals_of (insert_entry nat_cmp parts key part) ≡ insert_entry nat_cmp (ordinals_of parts) key part.0
ordinals-more parts key part = valued-with ordinal_in parts key part

pub sizes-less : (key : ℕ) (parts : Parts) → sizes_of (without_key key parts) ≡ without_key key (sizes_of parts)
sizes-less key parts = valued-without octets_at key parts

pub ordinals-less : (key : ℕ) (parts : Parts)
    → ordinals_of (without_key key parts) ≡ without_key key (ordinals_of parts)
ordinals-less key parts = valued-without ordinal_in key parts

octets-parts : (parts : Parts) → octets_sized (sizes_of parts) ≡ sum_by octets_at (values_of parts)
octets-parts [] = refl
octets-parts (part ∷ parts) =
    sum_by-cons (λ (size : Size). size.1) (part.0, part.1.1) (sizes_of parts)
    ∙ ap (λ (n : ℕ). part.1.1 + n) (octets-parts parts)
    ∙ sym (sum_by-cons octets_at part.1 (values_of parts))

-- ---- one more

is-none : {A : Type 0} (found : Option A) → (IsSome found → ⊥) → found ≡ None
is-none None absent = refl
is-none (Some x) absent = absurd (absent refl)

-- a key that differs from each of these is none of them
pub absent-from : (key : ℕ) (ns : List ℕ) → All (λ n. key ≡ n → ⊥) ns → Contains ns key → ⊥
absent-from key ns apart has = apart has.0 key has.1 (sym has.2)

apart-test : (key other : ℕ) → (key ≡ other → ⊥) → is_at (nat_cmp key) other ≡ false
apart-test key other apart = tests key other ∙ differs
  where
    differs : (other == key) ≡ false
    differs = grind (arith, nat_tests)

-- and it is not found
pub not-found : {V : Type 0} (key : ℕ) (entries : List (ℕ × V)) → All (λ n. key ≡ n → ⊥) (keys_of entries)
    → lookup (is_at (nat_cmp key)) entries ≡ None
not-found key [] apart = refl
not-found {V} key (entry ∷ entries) apart =
    ap (λ (b : Bool). cond b (Some entry.1) (lookup (is_at (nat_cmp key)) entries))
    (apart-test key entry.0 (apart 0 0 (omega arith)))
    ∙ not-found key entries (λ k d within. apart (suc k) d (omega (arith, within)))

length-step : {V : Type 0} (order : Ordering) (key : ℕ) (value : V) (entry : ℕ × V) (entries rest : List (ℕ × V))
    (found : Option V) → cond (is_eq order) (Some entry.1) found ≡ None
    → (found ≡ None → length rest ≡ length entries + 1)
    → length (match_ordering order ((key, value) ∷ entry ∷ entries) ((entry.0, value) ∷ entries) (entry ∷ rest))
    ≡ length (entry ∷ entries) + 1
length-step Less key value entry entries rest found none more = omega arith
length-step Equal key value entry entries rest found none more = absurd (cc)
length-step Greater key value entry entries rest found none more = omega (arith, more none)

-- there is one more then
pub length-more : {V : Type 0} (key : ℕ) (value : V) (entries : List (ℕ × V))
    → lookup (is_at (nat_cmp key)) entries ≡ None
    → length (insert_entry nat_cmp entries key value) ≡ length entries + 1
length-more key value [] none = refl
length-more key value (entry ∷ entries) none =
    length-step (nat_cmp key entry.0) key value entry entries (insert_entry nat_cmp entries key value)
    (lookup (is_at (nat_cmp key)) entries) none (length-more key value entries)

-- and its octets are added
pub octets-more : (parts : Parts) (key : ℕ) (part : ℕ × ℕ) → IsStrictlySortedBy nat_cmp (keys_of parts)
    → lookup (is_at (nat_cmp key)) parts ≡ None
    → octets_sized (sizes_of (insert_entry nat_cmp parts key part)) ≡ octets_sized (sizes_of parts) + part.1
octets-more parts key part sorted none =
    let whole = sum_by-insert_entry octets_at nat_cmp_total parts key part sorted in
    let more : sum_by octets_at (values_of (insert_entry nat_cmp parts key part))
    + unwrap_or (option_map octets_at None) 0
    ≡ sum_by octets_at (values_of parts) + octets_at part = rw none at whole in
    octets-parts (insert_entry nat_cmp parts key part)
    ∙ (omega (arith, more) ∙ ap (λ (n : ℕ). n + part.1) (sym (octets-parts parts)))

-- ---- one less

without-none : {V : Type 0} (key : ℕ) (entries : List (ℕ × V)) → NonePasses (is_at (nat_cmp key)) entries
    → without_key key entries ≡ entries
without-none key [] none = refl
without-none {V} key (entry ∷ entries) none =
    let other : (entry.0 == key) ≡ false = sym (tests key entry.0) ∙ none.0 in
    ap (λ (b : Bool). cond (not b) (entry ∷ without_key key entries) (without_key key entries)) other
    ∙ ap (λ (es : List (ℕ × V)). entry ∷ es) (without-none key entries none.1)

removed-step : {V : Type 0} (key : ℕ) (b : Bool) (entry : ℕ × V) (entries : List (ℕ × V)) → (entry.0 == key) ≡ b
    → lookup (is_at (nat_cmp key)) (cond b entries (entry ∷ remove_entry (is_at (nat_cmp key)) entries)) ≡ None
    → (lookup (is_at (nat_cmp key)) (remove_entry (is_at (nat_cmp key)) entries) ≡ None
    → remove_entry (is_at (nat_cmp key)) entries ≡ without_key key entries)
    → cond b entries (entry ∷ remove_entry (is_at (nat_cmp key)) entries)
    ≡ cond (not b) (entry ∷ without_key key entries) (without_key key entries)
removed-step key true entry entries e gone rest =
    sym (without-none key entries (none_passes_from_lookup (is_at (nat_cmp key)) entries gone))
removed-step {V} key false entry entries e gone rest =
    ap (λ (es : List (ℕ × V)). entry ∷ es) (rest
    (sym (lookup_tail (is_at (nat_cmp key)) entry (remove_entry (is_at (nat_cmp key)) entries) (tests key entry.0 ∙ e))
    ∙ gone))

-- what a removal leaves is all but what is kept by this key
pub removed : {V : Type 0} (key : ℕ) (entries : List (ℕ × V))
    → lookup (is_at (nat_cmp key)) (remove_entry (is_at (nat_cmp key)) entries) ≡ None
    → remove_entry (is_at (nat_cmp key)) entries ≡ without_key key entries
removed key [] gone = refl
removed {V} key (entry ∷ entries) gone =
    let test = tests key entry.0 in
    ap (λ (b : Bool). cond b entries (entry ∷ remove_entry (is_at (nat_cmp key)) entries)) test
    ∙ removed-step key (entry.0 == key) entry entries refl
    (ap (λ (b : Bool). lookup (is_at (nat_cmp key))
    (cond b entries (entry ∷ remove_entry (is_at (nat_cmp key)) entries))) (sym test) ∙ gone)
    (removed key entries)

-- and its octets are taken off
pub octets-less : (key : ℕ) (parts left : Parts) (part : ℕ × ℕ) (octets : ℕ)
    → left ≡ remove_entry (is_at (nat_cmp key)) parts → lookup (is_at (nat_cmp key)) parts ≡ Some part
    → octets ≡ part.1
    → octets_sized (sizes_of left) + octets ≡ octets_sized (sizes_of parts)
octets-less key parts left part octets e found is =
    let whole = sum_by-remove_entry octets_at (is_at (nat_cmp key)) parts in
    let part_is : sum_by octets_at (values_of (remove_entry (is_at (nat_cmp key)) parts)) + octets_at part
    ≡ sum_by octets_at (values_of parts) = rw found at whole in
    ap (λ (n : ℕ). octets_sized (sizes_of left) + n) is
    ∙ ap (λ (n : ℕ). n + part.1) (ap (λ (es : Parts). octets_sized (sizes_of es)) e
    ∙ octets-parts (remove_entry (is_at (nat_cmp key)) parts))
    ∙ part_is ∙ sym (octets-parts parts)

-- ---- looking one up

same-found : {V : Type 0} (key : ℕ) (entries : List (ℕ × V))
    → lookup (λ (other : ℕ). other == key) entries ≡ lookup (is_at (nat_cmp key)) entries
same-found key [] = refl
same-found {V} key (entry ∷ entries) =
    ap (λ (found : Option V). cond (entry.0 == key) (Some entry.1) found) (same-found key entries)
    ∙ ap (λ (b : Bool). cond b (Some entry.1) (lookup (is_at (nat_cmp key)) entries)) (sym (tests key entry.0))

-- the ordinal of a key is that of what is found by it
pub ordinal-found : (key : ℕ) (parts : Parts)
    → ordinal_at (ordinals_of parts) key ≡ option_map ordinal_in (lookup (is_at (nat_cmp key)) parts)
ordinal-found key parts =
    lookup-map_values ordinal_in (λ (other : ℕ). other == key) parts ∙ ap (option_map ordinal_in) (same-found key parts)

-- and so are its octets
pub octets-found : (key : ℕ) (parts : Parts)
    → size_at (sizes_of parts) key ≡ option_map octets_at (lookup (is_at (nat_cmp key)) parts)
octets-found key parts =
    lookup-map_values octets_at (λ (other : ℕ). other == key) parts ∙ ap (option_map octets_at) (same-found key parts)
