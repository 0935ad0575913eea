-- A prefix of what is to be shed, and all that comes after it.
use Rattle.std.proofs.Common.{◌≡◌, ℕ, zero, suc, ◌+◌, ◌-◌, ◌<◌, ◌≤◌, Option, None, List, length, take}
use Rattle.std.proofs.Common.{refl, sym, ap, ◌∙◌, subst, inl, inr, arith}
use Rattle.std.specs.Prelude.{◌⊎◌, min, nat_lt}
use Rattle.std.proofs.lemmas.Bool.{cases_lt, lt-ltb, ltb-true}
use Rattle.std.proofs.lemmas.List.{length-take, length-take-le, take-take, take_all}
use Rattle.recovery.specs.Notes.{most_pending}
use Rattle.peer_queue.specs.DebtPlace.{Places, unheld}
use Rattle.peer_queue.specs.Shed.{AreWithin, IsShedOf, IsShortestPrefix}
use Rattle.peer_queue.specs.Station.{IsShedFrom}
use Rattle.peer_queue.specs.declared.limits.Limits.{Limits}
use Rattle.peer_queue.specs.declared.limits.Shed.{Shed}
use Rattle.peer_queue.proofs.Sheds.{IsPrefix, prefix_all}

-- If no prefix of fewer than k passes, the shortest has k or more: by induction over what comes after the first k.
extended : (Passes : List ℕ → Type 0) → ((l : List ℕ) → Passes l ⊎ (Passes l → ⊥)) → (l : List ℕ) (rest k : ℕ)
    → k + rest ≡ length l → ((fewer : ℕ) → fewer < k → Passes (take fewer l) → ⊥)
    → (set : List ℕ) × IsShortestPrefix Passes l set × (k ≤ length set)
extended Passes decide l zero k all none = (
  l,
  record {
    prefix = sym (take_all (length l) l (omega arith));
    passes = inr refl;
    shortest = λ fewer less. none fewer (omega arith);
  },
  omega (arith, all),
)
extended Passes decide l (suc rest) k more none = elim (decide (take k l)) [
  | inl passes ↦ (
    take k l,
    record {
      prefix = ap (λ (n : ℕ). take n l) (sym long);
      passes = inl passes;
      shortest = λ fewer less. none fewer (omega (arith, less, long));
    },
    omega (arith, long),
  )
  | inr fails ↦
      let found = extended Passes decide l rest (k + 1) (omega (arith, more)) (one_more fails) in
      (found.0, found.1, omega (arith, found.2))
]
  where
    long : length (take k l) ≡ k
    long = length-take-le k l (omega (arith, more))

    one_more : (Passes (take k l) → ⊥) → (fewer : ℕ) → fewer < k + 1 → Passes (take fewer l) → ⊥
    one_more fails fewer below = elim (cases_lt fewer k) [
      | inl before ↦ none fewer before
      | inr last ↦
          let here : k ≡ fewer = omega (arith, below, last) in
          subst (λ (n : ℕ). Passes (take n l) → ⊥) here fails
    ]

-- what the walk has found is the first of what is to be shed, wherever it stops
prefix_begins : (limits : Limits) (all : ℕ) (octets_without : List ℕ → ℕ) (places : Places) (prefix : List ℕ)
    (next : Option ℕ) (owed : ℕ)
    → (AreWithin limits all → ⊥) → IsPrefix limits.backlog_limit octets_without places prefix next owed
    → (set : List ℕ) × IsShedOf limits all octets_without places set × (prefix ≡ take (length prefix) set)
prefix_begins limits all octets_without places prefix next owed over is = (
  found.0,
  inr (over, found.1),
  is.prefix
      ∙ (sym (take-take (length prefix) (length found.0) U found.2)
      ∙ ap (λ (l : List ℕ). take (length prefix) l) (sym found.1.prefix)),
)
  where
    U : List ℕ
    U = unheld places

    Passes : List ℕ → Type 0
    Passes l = octets_without l ≤ limits.backlog_limit

    decide : (l : List ℕ) → Passes l ⊎ (Passes l → ⊥)
    decide l = elim (cases_lt limits.backlog_limit (octets_without l)) [
      | inl above ↦ inr (λ passes. omega (arith, above, passes))
      | inr enough ↦ inl enough
    ]

    found : (set : List ℕ) × IsShortestPrefix Passes U set × (length prefix ≤ length set)
    found = extended Passes decide U (length U - length prefix) (length prefix) (omega (arith, is.few))
        (λ fewer less passes. omega (arith, is.shortest fewer less, passes))

-- What was found is what is to be shed, as far as one more than there is room for: none comes next, enough is shed, or
-- it has this length.
pub prefix_cut : (limits : Limits) (all : ℕ) (octets_without : List ℕ → ℕ) (places : Places) (prefix : List ℕ)
    (next : Option ℕ) (owed room : ℕ)
    → (AreWithin limits all → ⊥) → IsPrefix limits.backlog_limit octets_without places prefix next owed
    → length prefix ≤ room + 1 → ((next ≡ None) ⊎ (owed ≤ limits.backlog_limit)) ⊎ (room < length prefix)
    → (set : List ℕ) × IsShedOf limits all octets_without places set × (prefix ≡ take (room + 1) set)
prefix_cut limits all octets_without places prefix next owed room over is few ends = elim ends [
  | inl ended ↦ (
    prefix,
    prefix_all limits all octets_without places prefix next owed over is ended,
    sym (take_all
        (room + 1) prefix few),
  )
  | inr full ↦
      let found = prefix_begins limits all octets_without places prefix next owed over is in
      let long : length prefix ≡ room + 1 = omega (arith, few, full) in
      (found.0, found.1, found.2 ∙ ap (λ (n : ℕ). take n found.0) long)
]

-- the first `room` of a longer prefix are the first `room` of all
pub cut_again : (room : ℕ) (found set : List ℕ) → found ≡ take (room + 1) set → take room found ≡ take room set
cut_again room found set is = ap (λ (l : List ℕ). take room l) is ∙ take-take room (room + 1) set (omega arith)

-- what is shed of what was found, given the room
pub cut_shed : (IsSet : List ℕ → Type 0) (pending room : ℕ) (found : List ℕ) → {shed : Shed}
    → room + pending ≡ most_pending → (set : List ℕ) × IsSet set × (found ≡ take (room + 1) set)
    → shed.keys.items ≡ take room found → shed.more ≡ nat_lt room (length found)
    → IsShedFrom IsSet pending shed
cut_shed IsSet pending room found {shed} all begins keys more = record {
  set = begins.0;
  is_set = begins.1;
  keys = keys ∙ (cut_again room found begins.0 begins.2 ∙ ap (λ (n : ℕ). take n begins.0) as_many);
  more = (
    λ told.
        let over : room < length found = ltb-true room (length found) (sym more ∙ told) in
        omega (arith, over, long, all),
    λ over. more ∙ lt-ltb room (length found) (omega (arith, over, long, all)),
  );
}
  where
    as_many : room ≡ most_pending - pending
    as_many = omega (arith, all)

    long : length found ≡ min (room + 1) (length begins.0)
    long = ap (λ (l : List ℕ). length l) begins.2 ∙ length-take (room + 1) begins.0
