-- Files that keep lines, one more at a time.
use Rattle.std.proofs.Common.{◌≡◌, ◌+◌, ◌<◌, ◌≤◌, ◌⊎◌, ◌++◌, ℕ, List, [], ◌∷◌, length, take, drop, get_or}
use Rattle.std.proofs.Common.{refl, sym, ◌∙◌, ap, subst, arith, rules, ⊎_elim}
use Rattle.std.specs.Prelude.{slice_set}
use Rattle.std.proofs.lemmas.List.{drop-set-lt, drop_all, drop_more, take_more, take_more_set}
use Rattle.disk_model.specs.declared.Disk.{Ghosts}
use Rattle.kept_lines.specs.Keeps.{KeepsEach, KeepsOne}
use Rattle.kept_lines.specs.declared.keeper.LeftOut.{LeftOut}
use Rattle.kept_lines.specs.declared.read_line.ReadLine.{ReadLine}

heads : {A : Type 0} (x y : A) (xs ys : List A) → x ∷ xs ≡ y ∷ ys → (x ≡ y) × (xs ≡ ys)
heads x y xs ys e = (cc, cc)

is_inside : {A : Type 0} (xs : List A) (i : ℕ) (x : A) (rest : List A) → drop i xs ≡ x ∷ rest → i < length xs
is_inside xs i x rest e = ⊎_elim (λ inside. inside) (λ past. none (sym (drop_all i xs past) ∙ e)) (split i (length xs))
  where
    split : (k n : ℕ) → (k < n) ⊎ (n ≤ k)
    split k n = search (rules, arith)

    none : [] ≡ x ∷ rest → i < length xs
    none e = cc

module _ {D : Type 0} {g : Ghosts D} where
  each_snoc : (lines : List ReadLine) (olds news : List (LeftOut D g)) (old new : LeftOut D g)
      → KeepsEach lines olds news → KeepsOne lines old new → KeepsEach lines (olds ++ old ∷ []) (news ++ new ∷ [])
  each_snoc lines [] [] old new all last = (last, tt)
  each_snoc lines [] (n ∷ ns) old new all last = absurd all
  each_snoc lines (o ∷ os) [] old new all last = absurd all
  each_snoc lines (o ∷ os) (n ∷ ns) old new all last = (all.0, each_snoc lines os ns old new all.1 last)

  pub each_step : (lines : List ReadLine) (first xs : List (LeftOut D g)) (i : ℕ) (old new : LeftOut D g)
      → i < length first → old ≡ get_or xs i old
      → KeepsEach lines (take i first) (take i xs) × (drop i xs ≡ drop i first)
      → KeepsOne lines old new
      → KeepsEach lines (take (i + 1) first) (take (i + 1) (slice_set xs i new))
      × (drop (i + 1) (slice_set xs i new) ≡ drop (i + 1) first)
  each_step lines first xs i old new within is (all, rest) one =
      let there : drop i first ≡ get_or first i old ∷ drop (i + 1) first = drop_more first i old within in
      let inside : i < length xs = is_inside xs i (get_or first i old) (drop (i + 1) first) (rest ∙ there) in
      let here : drop i first ≡ get_or xs i old ∷ drop (i + 1) xs = sym rest ∙ drop_more xs i old inside in
      let both = heads (get_or first i old) (get_or xs i old) (drop (i + 1) first) (drop (i + 1) xs)
      (sym there ∙ here) in
      let taken : take (i + 1) first ≡ take i first ++ old ∷ [] =
      take_more first i old within ∙ ap (λ p. take i first ++ p ∷ []) (both.0 ∙ sym is) in
      let added : take (i + 1) (slice_set xs i new) ≡ take i xs ++ new ∷ [] = take_more_set xs i new inside in (
        subst (λ ps. KeepsEach lines ps (take (i + 1) (slice_set xs i new))) (sym taken)
            (subst (λ ps. KeepsEach lines (take i first ++ old ∷ []) ps) (sym added)
            (each_snoc lines (take i first) (take i xs) old new all one)),
        drop-set-lt (i + 1) xs i new (omega arith) ∙ sym both.1,
      )
