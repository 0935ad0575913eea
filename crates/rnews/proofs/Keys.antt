-- Maps whose keys are octets: what a change under one key leaves under every other.
use Rattle.std.proofs.Common.{◌≡◌, ◌≢◌, ℕ, true, false, List, sym, ◌∙◌}
use Rattle.std.specs.Cmp.{eq_by_cmp_equiv}
use Rattle.std.specs.Cmp.Lexicographic.{slice_cmp}
use Rattle.std.specs.Map.{lookup, KeepsOthers}
use Rattle.std.specs.Ordering.{is_eq, nat_cmp}
use Rattle.std.proofs.lemmas.Bool.{false_from_ne_true}
use Rattle.std.proofs.lemmas.Cmp.{nat_list_cmp_total}
use Rattle.std.proofs.lemmas.Map.Text.{is_eq-slice_cmp}
use Rattle.std.proofs.lemmas.Slice.Eq.{bytes_eq-Decides}

-- octets that compare as equal are equal
same : (a b : List ℕ) → is_eq (slice_cmp nat_cmp a b) ≡ true → a ≡ b
same a b h = (bytes_eq-Decides a b).0 (sym (is_eq-slice_cmp a b) ∙ h)

-- no key equals two others
apart : (one other key : List ℕ) → other ≢ one → is_eq (slice_cmp nat_cmp one key) ≡ true
    → is_eq (slice_cmp nat_cmp other key) ≡ false
apart one other key differ h =
    false_from_ne_true (is_eq (slice_cmp nat_cmp other key)) (λ e. differ (same other key e ∙ sym (same one key h)))

pub lookup-other : {K X : Type 0} (octets : K → List ℕ) (one other : List ℕ) (old new : List (K × X))
    → KeepsOthers (λ x y. is_eq (slice_cmp nat_cmp (octets x) (octets y))) (λ key. is_eq (slice_cmp nat_cmp one
    (octets key))) old new
    → other ≢ one
    → lookup (λ key. is_eq (slice_cmp nat_cmp other (octets key))) new
    ≡ lookup (λ key. is_eq (slice_cmp nat_cmp other (octets key))) old
unfolding KeepsOthers
lookup-other octets one other old new kept differ =
    kept
    (λ key. is_eq (slice_cmp nat_cmp other (octets key)))
    (λ x y. (eq_by_cmp_equiv nat_list_cmp_total).congr other (octets x) (octets y))
    (λ key. apart one other (octets key) differ)
