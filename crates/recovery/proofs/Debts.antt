-- The debts of keys, one after another.
use Rattle.std.proofs.Common.{◌≡◌, ℕ, ◌+◌, ◌<◌, List, [], ◌∷◌, ◌++◌, map, length, get_or, take, filter_map, Option}
use Rattle.std.proofs.Common.{Some, None, option_map, refl, sym, ap, ◌∙◌, append-nil}
use Rattle.std.proofs.lemmas.List.{map_push, take_more}
use Rattle.std.proofs.lemmas.List.Elements.{filter_map-append}
use Rattle.ledger_core.specs.Index.{debt_at}
use Rattle.ledger_core.specs.State.{Owing, State}
use Rattle.recovery.specs.Texts.{debts_at, lengths_of}

-- a list with what was found after it, if anything was
abbrev pub with_found : {X : Type 0} → List X → Option X → List X
with_found xs None = xs
with_found xs (Some x) = xs ++ x ∷ []

found_alone : {X Y : Type 0} (f : X → Option Y) (ys : List Y) (x : X) (found : Option Y) → f x ≡ found
    → ys ++ filter_map f (x ∷ []) ≡ with_found ys found
found_alone f ys x None is = rw is (append-nil ys)
found_alone f ys x (Some y) is = rw is refl

map_found : {X Y : Type 0} (f : X → Y) (xs : List X) (found : Option X)
    → map f (with_found xs found) ≡ with_found (map f xs) (option_map f found)
map_found f xs None = refl
map_found f xs (Some x) = map_push f xs x

module _ (state : State) (keys : List ℕ) (k key : ℕ) (here : key ≡ get_or keys k key) (within : k < length keys) where
  -- with one more key comes its debt, if it is owed
  debts_more : debts_at state (take (k + 1) keys) ≡ with_found (debts_at state (take k keys)) (debt_at state key)
  debts_more =
      ap (debts_at state) (take_more keys k key within)
      ∙ ap (λ (n : ℕ). debts_at state (take k keys ++ n ∷ [])) (sym here)
      ∙ filter_map-append (debt_at state) (take k keys) (key ∷ [])
      ∙ found_alone (debt_at state) (debts_at state (take k keys)) key (debt_at state key) refl

  pub debts_then : (debts : List Owing) (found : Option Owing) → debts ≡ debts_at state (take k keys)
      → found ≡ debt_at state key → with_found debts found ≡ debts_at state (take (k + 1) keys)
  debts_then debts found before is = rw (before, is) (sym debts_more)

  pub lengths_then : (debts : List Owing) (found : Option Owing)
      → map lengths_of debts ≡ map lengths_of (debts_at state (take k keys))
      → option_map lengths_of found ≡ option_map lengths_of (debt_at state key)
      → map lengths_of (with_found debts found) ≡ map lengths_of (debts_at state (take (k + 1) keys))
  lengths_then debts found before is =
      map_found lengths_of debts found
      ∙ ap (λ (l : List (ℕ × (ℕ × ℕ))). with_found l (option_map lengths_of found)) before
      ∙ ap (with_found (map lengths_of (debts_at state (take k keys)))) is
      ∙ sym (map_found lengths_of (debts_at state (take k keys)) (debt_at state key))
      ∙ ap (map lengths_of) (sym debts_more)
