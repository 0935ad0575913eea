-- Laws of ordinals, for this crate and those above.
use Rattle.std.proofs.Common.{◌≡◌, ◌==◌, ℕ, Bool, true, false, cond, not, List, [], ◌∷◌, Option, Some, None}
use Rattle.std.proofs.Common.{refl, sym, ap, ◌∙◌, subst, arith}
use Rattle.std.proofs.lemmas.Bool.{eqb-true}
use Rattle.std.proofs.lemmas.Bool.Decides.{nat_tests}
use Rattle.std.proofs.lemmas.List.Elements.{All-cons, All-filter, All-head, All-tail}
use Rattle.std.proofs.lemmas.Map.Entries.{lookup-filter-keys}
use Rattle.std.specs.BTreeMap.{insert_entry}
use Rattle.std.specs.List.{All}
use Rattle.std.specs.Ordering.{match_ordering, nat_cmp}
use Rattle.std.specs.declared.cmp.Ordering.{Ordering}
use Rattle.std.specs.declared.cmp.Ordering.TheVariants.{Less, Equal, Greater}
use Rattle.ledger_core.specs.declared.note.Note.{Note}
use Rattle.ledger_core.specs.declared.note.Note.TheVariants.{Owe, Final, Drop, Seen, Closed}
use Rattle.ledger_core.specs.Parts.{ordinal_at, ordinals_step}
use Rattle.ledger_core.specs.Shape.{without_key}

abbrev Pair : Type 0
Pair = ℕ × ℕ

abbrev placed_by : Ordering → ℕ → ℕ → Pair → List Pair → List Pair → List Pair
placed_by order key ordinal entry ordinals rest =
    match_ordering order ((key, ordinal) ∷ entry ∷ ordinals) ((entry.0, ordinal) ∷ ordinals) (entry ∷ rest)

same-key : (m n : ℕ) → nat_cmp m n ≡ Equal → m ≡ n
same-key m n same = grind (arith, nat_tests)

differs : (key other : ℕ) → (other ≡ key → ⊥) → (key == other) ≡ false
differs key other apart = grind (arith, nat_tests)

passes : (key other : ℕ) → (other ≡ key → ⊥) → (k : ℕ) → (k == other) ≡ true → not (k == key) ≡ true
passes key other apart k same = ap not (differs k key (λ e. apart (sym (eqb-true k other same) ∙ sym e)))

-- ---- what holds of each key and its ordinal

all-step : (P : Pair → Type 0) (order : Ordering) (key ordinal : ℕ) (entry : Pair) (ordinals rest : List Pair)
    → nat_cmp key entry.0 ≡ order → P (key, ordinal) → All P (entry ∷ ordinals) → All P rest
    → All P (placed_by order key ordinal entry ordinals rest)
all-step P Less key ordinal entry ordinals rest is here all more =
    All-cons P (key, ordinal) (entry ∷ ordinals) here all
all-step P Equal key ordinal entry ordinals rest is here all more =
    All-cons P (entry.0, ordinal) ordinals (subst (λ (n : ℕ). P (n, ordinal)) (same-key key entry.0 is) here)
    (All-tail P entry ordinals all)
all-step P Greater key ordinal entry ordinals rest is here all more =
    All-cons P entry rest (All-head P entry ordinals all) more

all-more : (P : Pair → Type 0) (ordinals : List Pair) (key ordinal : ℕ) → P (key, ordinal) → All P ordinals
    → All P (insert_entry nat_cmp ordinals key ordinal)
all-more P [] key ordinal here all = All-cons P (key, ordinal) [] here all
all-more P (entry ∷ ordinals) key ordinal here all =
    all-step P (nat_cmp key entry.0) key ordinal entry ordinals (insert_entry nat_cmp ordinals key ordinal) refl
    here all (all-more P ordinals key ordinal here (All-tail P entry ordinals all))

all-less : (P : Pair → Type 0) (key : ℕ) (ordinals : List Pair) → All P ordinals → All P (without_key key ordinals)
all-less P key ordinals all = All-filter (λ (entry : Pair). not (entry.0 == key)) P ordinals all

-- it holds after a note, too, if it holds of the debt that the note owes
pub ordinals-all : (P : Pair → Type 0) (ordinals : List Pair) (note : Note) (ordinal : ℕ)
    → ((key : ℕ) (token id : List ℕ) → note ≡ Owe key token id → P (key, ordinal)) → All P ordinals
    → All P (ordinals_step ordinals note ordinal)
ordinals-all P ordinals (Owe key token id) ordinal here all =
    all-more P ordinals key ordinal (here key token id refl) all
ordinals-all P ordinals (Final key code) ordinal here all = all-less P key ordinals all
ordinals-all P ordinals (Drop key cause) ordinal here all = all-less P key ordinals all
ordinals-all P ordinals (Seen number) ordinal here all = all
ordinals-all P ordinals (Closed source) ordinal here all = all

-- ---- the ordinal of a key

found-step : (order : Ordering) (key ordinal : ℕ) (entry : Pair) (ordinals rest : List Pair)
    → nat_cmp key entry.0 ≡ order → ordinal_at rest key ≡ Some ordinal
    → ordinal_at (placed_by order key ordinal entry ordinals rest) key
    ≡ Some ordinal
found-step Less key ordinal entry ordinals rest is found = grind (arith, nat_tests)
found-step Equal key ordinal entry ordinals rest is found =
    ap (λ (b : Bool). cond b (Some ordinal) (ordinal_at ordinals key)) (tested (same-key key entry.0 is))
  where
    tested : key ≡ entry.0 → (entry.0 == key) ≡ true
    tested same = grind (arith, nat_tests)
found-step Greater key ordinal entry ordinals rest is found =
    ap (λ (b : Bool). cond b (Some entry.1) (ordinal_at rest key)) tested ∙ found
  where
    tested : (entry.0 == key) ≡ false
    tested = grind (arith, nat_tests)

-- a debt that a note owes has the note's
pub ordinal-owed : (ordinals : List Pair) (key ordinal : ℕ)
    → ordinal_at (insert_entry nat_cmp ordinals key ordinal) key ≡ Some ordinal
ordinal-owed [] key ordinal = grind (arith, nat_tests)
ordinal-owed (entry ∷ ordinals) key ordinal =
    found-step (nat_cmp key entry.0) key ordinal entry ordinals (insert_entry nat_cmp ordinals key ordinal) refl
    (ordinal-owed ordinals key ordinal)

other-step : (order : Ordering) (key other ordinal : ℕ) (entry : Pair) (ordinals rest : List Pair)
    → nat_cmp key entry.0 ≡ order → (other ≡ key → ⊥) → ordinal_at rest other ≡ ordinal_at ordinals other
    → ordinal_at (placed_by order key ordinal entry ordinals rest) other
    ≡ ordinal_at (entry ∷ ordinals) other
other-step Less key other ordinal entry ordinals rest is apart same =
    ap (λ (b : Bool). cond b (Some ordinal) (ordinal_at (entry ∷ ordinals) other)) (differs key other apart)
other-step Equal key other ordinal entry ordinals rest is apart same =
    let tested : (entry.0 == other) ≡ false =
    differs entry.0 other (λ e. apart (e ∙ sym (same-key key entry.0 is))) in
    ap (λ (b : Bool). cond b (Some ordinal) (ordinal_at ordinals other)) tested
    ∙ sym (ap (λ (b : Bool). cond b (Some entry.1) (ordinal_at ordinals other)) tested)
other-step Greater key other ordinal entry ordinals rest is apart same =
    ap (λ (found : Option ℕ). cond (entry.0 == other) (Some entry.1) found) same

-- those of others stay
pub ordinal-other : (ordinals : List Pair) (key other ordinal : ℕ) → (other ≡ key → ⊥)
    → ordinal_at (insert_entry nat_cmp ordinals key ordinal) other ≡ ordinal_at ordinals other
ordinal-other [] key other ordinal apart =
    ap (λ (b : Bool). cond b (Some ordinal) None) (differs key other apart)
ordinal-other (entry ∷ ordinals) key other ordinal apart =
    other-step (nat_cmp key entry.0) key other ordinal entry ordinals (insert_entry nat_cmp ordinals key ordinal) refl
    apart (ordinal-other ordinals key other ordinal apart)

-- a debt that ends has none
pub ordinal-ended : (ordinals : List Pair) (key : ℕ) → ordinal_at (without_key key ordinals) key ≡ None
ordinal-ended ordinals key =
    lookup-filter-keys (λ (k : ℕ). k == key) (λ (k : ℕ). not (k == key)) false (λ k e. ap not e) ordinals

-- and those of others stay then too
pub ordinal-kept : (ordinals : List Pair) (key other : ℕ) → (other ≡ key → ⊥)
    → ordinal_at (without_key key ordinals) other ≡ ordinal_at ordinals other
ordinal-kept ordinals key other apart =
    lookup-filter-keys (λ (k : ℕ). k == other) (λ (k : ℕ). not (k == key)) true (passes key other apart) ordinals
