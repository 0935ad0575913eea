-- Lists that are made of others, one item after another.
use Rattle.std.specs.Prelude.{◌≡◌, List, [], ◌∷◌, ◌++◌, length, map, refl}
use Rattle.std.proofs.Common.{ap, arith}

-- what was made, and what is left to be made, is the same when one more was made
pub moved : {A B C : Type 0} (f : A → C) (h : B → C) (before : List B) (b : B) (x : A) (left : List A)
    → h b ≡ f x → map h (before ++ b ∷ []) ++ map f left ≡ map h before ++ map f (x ∷ left)
moved f h [] b x left same = ap (λ c. c ∷ map f left) same
moved f h (y ∷ ys) b x left same = ap (λ (cs : List _). h y ∷ cs) (moved f h ys b x left same)

pub nothing : {A : Type 0} (xs : List A) → length xs ≡ 0 → xs ≡ []
nothing [] none = refl
nothing (x ∷ xs) none = absurd (omega arith)
