-- The first of what a test holds of in a list, from some place on.
use Rattle.std.proofs.Common.{◌≡◌, ◌∙◌, ℕ, ◌+◌, ◌<◌, ◌≤◌, Bool, true, false, cond, List, length, get_or, map}
use Rattle.std.proofs.Common.{Option, None, Some, ap, drop, find}
use Rattle.std.proofs.lemmas.List.{drop_all, drop_more}

pub found_here : {A B : Type 0} (f : A → B) (test : B → Bool) (xs : List A) (i : ℕ) (d : A) → i < length xs
    → test (f (get_or xs i d)) ≡ true → find test (map f (drop i xs)) ≡ Some (f (get_or xs i d))
found_here f test xs i d within holds =
    ap (λ l. find test (map f l)) (drop_more xs i d within)
    ∙ ap (λ b. cond b (Some (f (get_or xs i d))) (find test (map f (drop (i + 1) xs)))) holds

pub found_later : {A B : Type 0} (f : A → B) (test : B → Bool) (xs : List A) (i : ℕ) (d : A) → i < length xs
    → test (f (get_or xs i d)) ≡ false → find test (map f (drop i xs)) ≡ find test (map f (drop (i + 1) xs))
found_later f test xs i d within holds =
    ap (λ l. find test (map f l)) (drop_more xs i d within)
    ∙ ap (λ b. cond b (Some (f (get_or xs i d))) (find test (map f (drop (i + 1) xs)))) holds

pub found_nowhere : {A B : Type 0} (f : A → B) (test : B → Bool) (xs : List A) (n : ℕ) → length xs ≤ n
    → find test (map f (drop n xs)) ≡ None
found_nowhere f test xs n past = ap (λ l. find test (map f l)) (drop_all n xs past)

pub ruleset first_found = (found_here, found_later, found_nowhere)
