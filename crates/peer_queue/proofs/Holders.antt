-- Who holds a number, by the pairs of a connection and a number that it holds.
use Rattle.std.proofs.Common.{◌≡◌, ◌==◌, ◌||◌, ℕ, Bool, true, false, cond, Option, Some, None, List, [], ◌∷◌}
use Rattle.std.proofs.Common.{refl, sym, ap, ◌∙◌, subst}
use Rattle.std.specs.Prelude.{IsSome, find, option_map}
use Rattle.std.specs.Ordering.{is_eq}
use Rattle.std.specs.List.{list_any}
use Rattle.std.specs.BTreeMap.{is_at}
use Rattle.std.specs.BTreeSet.{BTreeSet}
use Rattle.std.proofs.lemmas.Bool.{eqb-true, eq-eqb, or_right}
use Rattle.deferral.specs.Due.{Waiting, due_of}
use Rattle.peer_queue.specs.Index.{IsKept, holder_in, holds, pair_cmp}
use Rattle.peer_queue.proofs.Kept.{free, not_true, pair_at, pair_same, pair_self, split_false, split_true}

-- ---- what pairs say of a number

-- whether one of the pairs is this connection's with this number
abbrev has : List (ℕ × ℕ) → ℕ → ℕ → Bool
has pairs b m = list_any (is_at (pair_cmp (b, m))) pairs

-- the holder, if this is the first pair
abbrev first : Option (ℕ × ℕ) → Option ℕ
first = option_map (λ (pair : ℕ × ℕ). pair.0)

-- the first pair of a number
abbrev pair_of : List (ℕ × ℕ) → ℕ → Option (ℕ × ℕ)
pair_of pairs m = find (λ (pair : ℕ × ℕ). pair.1 == m) pairs

-- the holder is the connection of one of the pairs
pair_in : (pairs : List (ℕ × ℕ)) (m b : ℕ) → holder_in pairs m ≡ Some b → has pairs b m ≡ true
pair_in [] m b e = cc
pair_in (x ∷ xs) m b e = on (x.1 == m) refl e (pair_in xs m b)
  where
    on : (t : Bool) → (x.1 == m) ≡ t → first (cond t (Some x) (pair_of xs m)) ≡ Some b
        → (holder_in xs m ≡ Some b → has xs b m ≡ true) → (is_eq (pair_cmp (b, m) x) || has xs b m) ≡ true
    on true at here rest =
        let who : x.0 ≡ b = cc in
        ap (λ (t : Bool). t || has xs b m) (pair_same b m x.0 x.1 (sym who) (sym (eqb-true x.1 m at)))
    on false at there rest = or_right (is_eq (pair_cmp (b, m) x)) (has xs b m) (rest there)

-- a number of one of the pairs has a holder
holder_of : (pairs : List (ℕ × ℕ)) (m b : ℕ) → has pairs b m ≡ true → IsSome (holder_in pairs m)
holder_of [] m b e = cc
holder_of (x ∷ xs) m b e = on (x.1 == m) refl (is_eq (pair_cmp (b, m) x)) refl e (holder_of xs m b)
  where
    on : (t : Bool) → (x.1 == m) ≡ t → (p : Bool) → is_eq (pair_cmp (b, m) x) ≡ p
        → (p || has xs b m) ≡ true → (has xs b m ≡ true → IsSome (holder_in xs m))
        → IsSome (first (cond t (Some x) (pair_of xs m)))
    on true at p is some rest = refl
    on false at true is some rest =
        let same = pair_at b m x.0 x.1 is in
        let clash : false ≡ true = sym at ∙ eq-eqb x.1 m (sym same.1) in
        cc
    on false at false is some rest = rest some

-- ---- what changes

-- an index with these pairs, and other pairs
module _ (agenda : Waiting) (old new : BTreeSet (ℕ × ℕ)) (kept : IsKept agenda (holder_in old.keys) (holds old)) where
  -- a number that the same connections have has the same holder
  same_holder : (m : ℕ) → ((b : ℕ) → holds new b m ≡ holds old b m)
      → holder_in new.keys m ≡ holder_in old.keys m
  same_holder m same = on (holder_in new.keys m) refl (holder_in old.keys m) refl
    where
      on : (now : Option ℕ) → holder_in new.keys m ≡ now → (was : Option ℕ) → holder_in old.keys m ≡ was → now ≡ was
      on (Some b) now was before =
          sym ((kept.told b m).0 (sym (same b) ∙ pair_in new.keys m b now)) ∙ before
      on None now None before = refl
      on None now (Some b) before =
          let some = holder_of new.keys m b (same b ∙ pair_in old.keys m b before) in
          let none : IsSome {T = ℕ} None = subst IsSome now some in
          cc

  module _ (c n : ℕ) where
    -- the holder of a number that this connection has from now on
    pub new_holder : (d : ℕ) → due_of agenda n ≡ Some (Some d)
        → ((b m : ℕ) → holds new b m ≡ cond (is_eq (pair_cmp (c, n) (b, m))) true (holds old b m))
        → holder_in new.keys n ≡ Some c
    new_holder d due pairs = on (holder_in new.keys n) refl
        (holder_of new.keys n c (pairs c n ∙ ap (λ (t : Bool). cond t true (holds old c n)) (pair_self c n)))
      where
        on : (now : Option ℕ) → holder_in new.keys n ≡ now → IsSome (holder_in new.keys n) → now ≡ Some c
        on None now some = let none : IsSome {T = ℕ} None = subst IsSome now some in cc
        on (Some b) now some = split_true (is_eq (pair_cmp (c, n) (b, n))) (holds old b n)
            (λ at. ap Some (sym (pair_at c n b n at).0))
            (λ held. absurd (free (holder_in old.keys) agenda (holds old) n b d kept due ((kept.told b n).0 held)))
            (sym (pairs b n) ∙ pair_in new.keys n b now)

    -- none holds a number that this connection has had until now
    pub no_holder_now : holder_in old.keys n ≡ Some c
        → ((b m : ℕ) → holds new b m ≡ cond (is_eq (pair_cmp (c, n) (b, m))) false (holds old b m))
        → holder_in new.keys n ≡ None
    no_holder_now was pairs = on (holder_in new.keys n) refl
      where
        on : (now : Option ℕ) → holder_in new.keys n ≡ now → now ≡ None
        on None now = refl
        on (Some b) now = split_false (is_eq (pair_cmp (c, n) (b, n))) (holds old b n)
            (λ off held.
            let both : Some c ≡ Some b = sym was ∙ (kept.told b n).0 held in
            let who : c ≡ b = cc in
            let at = pair_same c n b n who refl in
            cc)
            (sym (pairs b n) ∙ pair_in new.keys n b now)

    -- any other number keeps its holder
    pub others_hold : (x : Bool)
        → ((b m : ℕ) → holds new b m ≡ cond (is_eq (pair_cmp (c, n) (b, m))) x (holds old b m))
        → (m : ℕ) → (m ≡ n → ⊥) → holder_in new.keys m ≡ holder_in old.keys m
    others_hold x pairs m apart = same_holder m (λ b.
        let off = not_true (is_eq (pair_cmp (c, n) (b, m))) (λ at. apart (sym (pair_at c n b m at).1)) in
        pairs b m ∙ ap (λ (t : Bool). cond t x (holds old b m)) off)
