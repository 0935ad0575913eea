-- Worked examples of the lines of a stream.
use Rattle.std.specs.Prelude.{◌≡◌, ℕ, [], ◌∷◌, ◌++◌, codes, refl}
use Rattle.std.proofs.Common.{arith, replicate}
use Rattle.std.proofs.lemmas.List.Elements.{All-cons, All-nil}
use Rattle.funnel.specs.Stream.{IsUnended, Splits, StandsFor, clipped, ended}

no_lines : ended [] ≡ []
no_lines = refl

empty_line : ended ([] ∷ []) ≡ 10 ∷ []
empty_line = refl

two_lines : ended (codes "ab" ∷ codes "c" ∷ []) ≡ codes "ab" ++ 10 ∷ codes "c" ++ 10 ∷ []
two_lines = refl

short_line : clipped (codes "abc") ≡ codes "abc"
short_line = refl

long_line : clipped (replicate 9000 97) ≡ replicate 8193 97
long_line = refl

-- one octet other than LF
alone : (octet : ℕ) → (octet ≡ 10 → ⊥) → IsUnended (octet ∷ [])
alone octet other = All-cons (λ o. o ≡ 10 → ⊥) octet [] other (All-nil (λ o. o ≡ 10 → ⊥))

-- `a`, LF, `b`: one line, and a rest
one_line : Splits (97 ∷ 10 ∷ 98 ∷ []) ((97 ∷ []) ∷ []) (98 ∷ [])
one_line = record {
  whole = refl;
  each = All-cons (λ l. IsUnended l) (97 ∷ []) [] (alone 97 (λ e. omega (arith, e))) (All-nil (λ l. IsUnended l));
  last = alone 98 (λ e. omega (arith, e));
}

-- the cutter that was fed this and gave nothing
one_held : StandsFor (record { lines = (97 ∷ []) ∷ []; rest = 98 ∷ [] }) (97 ∷ 10 ∷ 98 ∷ []) []
one_held = record { lines = (97 ∷ []) ∷ []; rest = 98 ∷ []; splits = one_line; holds_lines = refl; holds_rest = refl }
