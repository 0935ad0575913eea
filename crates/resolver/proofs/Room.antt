-- Hosts that all differ leave room for one more.
use Rattle.std.proofs.Common.{rules, ◌≡◌, ◌≢◌, ℕ, ◌<◌, ◌≤◌, Bool, true, List}
use Rattle.std.proofs.Common.{[], ◌∷◌, ◌++◌, length, length-append, cond, subst, arith}
use Rattle.std.specs.Prelude.{eqb}
use Rattle.std.specs.List.{All, Contains, list_any}
use Rattle.std.proofs.lemmas.Bool.{eqb-true}
use Rattle.std.proofs.lemmas.Bool.Decides.{Decides-eqb}
use Rattle.std.proofs.lemmas.List.Elements.{All-append}
use Rattle.std.proofs.lemmas.List.Quantifiers.{all_pairs_push}
use Rattle.std.proofs.lemmas.Map.Made.{IsDistinct-from_AllPairs}
use Rattle.std.proofs.lemmas.Map.Steps.{length-le_from_distinct_below}
use Rattle.std.proofs.lemmas.Map.Views.{Contains-from_any}
use Rattle.resolver.specs.LookUpQueue.{AreHosts}

-- each is below n
below : (xs : List ℕ) (n : ℕ) → All (λ x. x < n) xs → (q : ℕ) → list_any (eqb q) xs ≡ true → q < n
below xs n all q any =
    let (k, inside, same) = Contains-from_any {eq = eqb} eqb-true q xs any in
    let P : ℕ → Type 0 = λ x. x < n in
    subst P same (all k q inside)

-- hosts that differ are at most as many as there are
few : (xs : List ℕ) (n : ℕ) → AreHosts n xs → length xs ≤ n
few xs n (apart, all) =
    length-le_from_distinct_below xs n (IsDistinct-from_AllPairs Decides-eqb xs apart) (below xs n all)

-- hosts still differ with one more at the end that is not among them
still_hosts : (xs : List ℕ) (n host : ℕ) → AreHosts n xs → host < n → (Contains xs host → ⊥)
    → AreHosts n (xs ++ host ∷ [])
still_hosts xs n host (apart, all) is_host absent = (
  all_pairs_push (λ one other. one ≢ other) xs host apart (search (rules, absent)),
  All-append (λ x. x < n) xs (host ∷ []) all (search (rules, is_host)),
)

pub room : (xs : List ℕ) (n host : ℕ) → AreHosts n xs → host < n → (Contains xs host → ⊥) → length xs < n
room xs n host hosts is_host absent =
    let h = few (xs ++ host ∷ []) n (still_hosts xs n host hosts is_host absent) in
    omega (arith, h, length-append xs (host ∷ []))

-- what a push makes of hosts that there is room for
pub pushed : (xs ys : List ℕ) (n room_for len host : ℕ) (done : Bool) → AreHosts n xs → host < n
    → (Contains xs host → ⊥) → n ≤ room_for → length xs ≡ len → (len < room_for → done ≡ true)
    → ys ≡ cond done (xs ++ host ∷ []) xs → ys ≡ xs ++ host ∷ []
pushed xs ys n room_for len host done hosts is_host absent enough is_len succeeds is =
    let there = succeeds (omega (arith, room xs n host hosts is_host absent, enough, is_len)) in
    let P : Bool → Type 0 = λ b. ys ≡ cond b (xs ++ host ∷ []) xs in
    subst P there is
