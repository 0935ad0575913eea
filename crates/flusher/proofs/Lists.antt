-- Lists that are made of others, one item after another.
use Rattle.std.proofs.Common.{◌≡◌, ℕ, zero, suc, ◌+◌, List, [], ◌∷◌, ◌++◌, length, refl, ap, sym, ◌∙◌}
use Rattle.std.proofs.Common.{add-one, arith}
use Rattle.std.specs.Prelude.{◌<◌, drop, map, sum_by, slice_get, take, Some}
use Rattle.std.proofs.Math.Seq.{take-append_seam}
use Rattle.std.proofs.lemmas.List.Sums.{sum_by-append}
use Rattle.std.proofs.lemmas.List.{length-append, length-map, map-append}

-- what was made, and what is left to be made, is the same when one more was made
pub moved : {A B C : Type 0} (f : A → C) (h : B → C) (before : List B) (b : B) (x : A) (left : List A)
    → h b ≡ f x → map h (before ++ b ∷ []) ++ map f left ≡ map h before ++ map f (x ∷ left)
moved f h [] b x left same = ap (λ c. c ∷ map f left) same
moved f h (y ∷ ys) b x left same = ap (λ (cs : List _). h y ∷ cs) (moved f h ys b x left same)

pub moved_plain : {A C : Type 0} (f : A → C) (before : List C) (b : C) (x : A) (left : List A)
    → b ≡ f x → (before ++ b ∷ []) ++ map f left ≡ before ++ map f (x ∷ left)
moved_plain f [] b x left same = ap (λ c. c ∷ map f left) same
moved_plain f (y ∷ ys) b x left same = ap (λ (cs : List _). y ∷ cs) (moved_plain f ys b x left same)

-- the sum with one more
pub sum_snoc : {A B : Type 0} (f : B → ℕ) (h : A → B) (xs : List A) (x : A)
    → sum_by f (map h (xs ++ x ∷ [])) ≡ sum_by f (map h xs) + f (h x)
sum_snoc f h xs x = let e = sum_by-append f (map h xs) (h x ∷ []) in ap (sum_by f) (map-append h xs (x ∷ []))
    ∙ omega (arith, e)

pub length_snoc : {A : Type 0} (xs : List A) (x : A) → length (xs ++ x ∷ []) ≡ length xs + 1
length_snoc [] x = refl
length_snoc (y ∷ ys) x = let e = length_snoc ys x in omega (arith, e)

pub all_moved : {A : Type 0} (xs : List A) → xs ++ [] ≡ xs
all_moved [] = refl
all_moved (y ∷ ys) = ap (λ (cs : List _). y ∷ cs) (all_moved ys)

pub nothing : {A : Type 0} (xs : List A) → length xs ≡ 0 → xs ≡ []
nothing [] none = refl
nothing (x ∷ xs) none = absurd (omega arith)

-- what was made is of the first of all
pub made_first : {A B C : Type 0} (f : A → C) (h : B → C) (before : List B) (left : List A) (all : List C) (k : ℕ)
    → map h before ++ map f left ≡ all → k ≡ length before → map h before ≡ take k all
made_first f h before left all k is long =
    sym (take-append_seam (map h before) (map f left))
    ∙ (ap (λ (cs : List _). take (length (map h before)) cs) is
    ∙ ap (λ n. take n all) (length-map before h ∙ sym long))

-- and if one more is left, it is fewer
pub fewer_made : {A B C : Type 0} (f : A → C) (h : B → C) (before : List B) (x : A) (left : List A) (all : List C)
    (k : ℕ) → map h before ++ map f (x ∷ left) ≡ all → k ≡ length before → k < length all
fewer_made f h before x left all k is long =
    let whole = ap length is in
    let parts = length-append (map h before) (map f (x ∷ left)) in
    let made = length-map before h in
    omega (arith, whole, parts, made, long)

-- what comes next is found at the length of what was made
pub at_moved : {A B C : Type 0} (f : A → C) (h : B → C) (before : List B) (left : List A) (x : A) (all : List C)
    → map h before ++ map f (x ∷ left) ≡ all → slice_get all (length before) ≡ Some (f x)
at_moved f h [] left x all is = ap (λ cs. slice_get cs 0) (sym is)
at_moved f h (y ∷ ys) left x all is =
    ap (λ cs. slice_get cs (length (y ∷ ys))) (sym is) ∙ at_moved f h ys left x (map h ys ++ map f (x ∷ left)) refl

-- what is left after N items begins with the next one
pub at_drop : {A : Type 0} (xs ys : List A) (k : ℕ) (x : A) → drop k xs ≡ x ∷ ys → slice_get xs k ≡ Some x
at_drop xs ys zero x is = ap (λ l. slice_get l 0) is
at_drop [] ys (suc k) x is = absurd (omega (arith, ap length is))
at_drop (z ∷ zs) ys (suc k) x is = at_drop zs ys k x is

drop_suc : {A : Type 0} (xs ys : List A) (k : ℕ) (x : A) → drop k xs ≡ x ∷ ys → drop (suc k) xs ≡ ys
drop_suc [] ys zero x is = absurd (omega (arith, ap length is))
drop_suc (z ∷ zs) ys zero x is = cc
drop_suc [] ys (suc k) x is = absurd (omega (arith, ap length is))
drop_suc (z ∷ zs) ys (suc k) x is = drop_suc zs ys k x is

-- and after that one the rest is left
pub drop_next : {A : Type 0} (xs ys : List A) (k : ℕ) (x : A) → drop k xs ≡ x ∷ ys → drop (k + 1) xs ≡ ys
drop_next xs ys k x is = ap (λ n. drop n xs) (add-one k) ∙ drop_suc xs ys k x is
