-- The search for a connection by its number.
use Rattle.std.proofs.Common.{◌≡◌, ◌≢◌, ◌⊎◌, ℕ, suc, ◌<◌, ◌≤◌, Bool, cond, Option, None, Some, List, [], ◌∷◌, length}
use Rattle.std.proofs.Common.{get_or, map, refl, sym, ap, ◌∙◌, subst, inl, inr, arith}
use Rattle.std.specs.Prelude.{IfNone, IfSome, Result, Ok, Err, slice_get}
use Rattle.std.specs.Cmp.{nat_cmp_is}
use Rattle.std.specs.List.{AllByRecursion, AllZip}
use Rattle.std.specs.List.Sorted.{IsBinarySearchResult, IsNonDecreasingBy, IsPartitionPoint, IsSearchInRange}
use Rattle.std.specs.List.Sorted.{IsStrictlyIncreasing}
use Rattle.std.specs.Ordering.{nat_cmp, ordering_index}
use Rattle.std.specs.Result.{result_ok}
use Rattle.std.specs.declared.cmp.Ordering.{Ordering}
use Rattle.std.specs.declared.cmp.Ordering.TheVariants.{Less, Equal, Greater}
use Rattle.std.proofs.lemmas.Bool.{cases_eq, cases_lt, ne_eqb}
use Rattle.std.proofs.lemmas.List.Kept.{AllPairs-from_increasing}
use Rattle.std.proofs.lemmas.List.{length-map}
use Rattle.std.proofs.lemmas.Option.{get_or_from_slice_get, slice_get-get_or, slice_get-map, slice_get_within}
use Rattle.disk_model.specs.declared.Disk.{Ghosts}
use Rattle.world_core.specs.Past.{ConnPast, Life, PeerPast, conn_at}
use Rattle.world_core.specs.Joined.{AreRunning, FoundConn}
use Rattle.world_core.specs.Stands.{ConnectionStands, PeerStands}
use Rattle.world_core.specs.declared.connection.Connection.{Connection}
use Rattle.world_core.specs.declared.stations.Stations.{Stations}
use Rattle.world_core.proofs.NamedPeers.{zip_get}
use Rattle.world_core.proofs.RelatedLists.{zip_equal, zip_length}

-- ---- numbers in order

cmp_is : (x y : ℕ) → ((x < y) × (Less ≡ nat_cmp x y)) ⊎ ((x ≡ y) × (Equal ≡ nat_cmp x y))
    ⊎ ((y < x) × (Greater ≡ nat_cmp x y))
cmp_is x y = elim (cases_lt x y) [
  | inl less ↦ inl (less, nat_cmp_is x y Less less)
  | inr more ↦ elim (cases_eq x y) [
    | inl same ↦ inr (inl (same, nat_cmp_is x y Equal same))
    | inr apart ↦
        let above : y < x = below_of x y more apart in
        inr (inr (above, nat_cmp_is x y Greater above))
  ]
]
  where
    below_of : (x y : ℕ) → y ≤ x → (x ≡ y → ⊥) → y < x
    below_of x y le apart = elim (cases_lt y x) [
      | inl less ↦ less
      | inr more ↦ absurd (apart (omega (arith, le, more)))
    ]

at_most : (r : Ordering) → ordering_index r ≤ 2
at_most Less = omega arith
at_most Equal = omega arith
at_most Greater = omega arith

-- what comes later does not compare as less
cmp_up : (id a b : ℕ) → a ≤ b → ordering_index (nat_cmp a id) ≤ ordering_index (nat_cmp b id)
cmp_up id a b le = elim (cmp_is a id) [
  | inl less ↦ omega (arith, ap ordering_index less.1)
  | inr (inl same) ↦ elim (cmp_is b id) [
    | inl never ↦ absurd (omega (arith, le, same.0, never.0))
    | inr (inl both) ↦ omega (arith, ap ordering_index same.1, ap ordering_index both.1)
    | inr (inr more) ↦ omega (arith, ap ordering_index same.1, ap ordering_index more.1)
  ]
  | inr (inr more) ↦ elim (cmp_is b id) [
    | inl never ↦ absurd (omega (arith, le, more.0, never.0))
    | inr (inl never) ↦ absurd (omega (arith, le, more.0, never.0))
    | inr (inr both) ↦ omega (arith, ap ordering_index both.1, at_most (nat_cmp a id))
  ]
]

cmp_apart : (x id : ℕ) → (nat_cmp x id ≡ Less) ⊎ (nat_cmp x id ≡ Greater) → x ≡ id → ⊥
cmp_apart x id (inl less) same = let clash : Less ≡ Equal = sym less ∙ sym (nat_cmp_is x id Equal same) in cc
cmp_apart x id (inr more) same = let clash : Greater ≡ Equal = sym more ∙ sym (nat_cmp_is x id Equal same) in cc

cmp_same : (x id : ℕ) → nat_cmp x id ≡ Equal → x ≡ id
cmp_same x id is = elim (cmp_is x id) [
  | inl less ↦ absurd (let clash : Less ≡ Equal = less.1 ∙ is in cc)
  | inr (inl same) ↦ same.0
  | inr (inr more) ↦ absurd (let clash : Greater ≡ Equal = more.1 ∙ is in cc)
]

-- ---- connections in order

abbrev number : Connection → ℕ
number c = c.conn.id.0

number_at : (cs : List Connection) (i : ℕ) (d : Connection) → i < length cs
    → get_or (map number cs) i 0 ≡ number (get_or cs i d)
number_at cs i d within =
    get_or_from_slice_get (map number cs) i (number (get_or cs i d)) 0
    (slice_get-map number cs i ∙ ap (λ o. option_number o) (slice_get-get_or cs i d within))
  where
    option_number : Option Connection → Option ℕ
    option_number None = None
    option_number (Some c) = Some (number c)

all_up : (id : ℕ) (cs : List Connection) → IsStrictlyIncreasing (map number cs)
    → IsNonDecreasingBy (λ (c : Connection). ordering_index (nat_cmp (number c) id)) cs
all_up id cs rising i j d le within =
    cmp_up id (number (get_or cs i d)) (number (get_or cs j d)) (elim (cases_lt i j) [
      | inl less ↦
          let below = AllPairs-from_increasing (map number cs) rising i j 0 less
          (omega (arith, within, length-map cs number)) in
          omega (arith, below, number_at cs i d (omega (arith, less, within)), number_at cs j d within)
      | inr more ↦
          let same : i ≡ j = omega (arith, le, more) in
          omega (arith, ap (λ k. number (get_or cs k d)) same)
    ])

none_of_all : (id : ℕ) (cs : List Connection)
    → ((k : ℕ) (d : Connection) → k < length cs → number (get_or cs k d) ≡ id → ⊥)
    → AllByRecursion (λ (c : Connection). number c ≢ id) cs
none_of_all id [] none = tt
none_of_all id (c ∷ cs) none =
    (none 0 c (omega arith), none_of_all id cs (λ k d within. none (suc k) d (omega (arith, within))))

-- what the search returns
pub search_some : (id : ℕ) (cs : List Connection) (r : Result ℕ ℕ) (o : Option ℕ) → o ≡ result_ok r
    → IsSearchInRange r (length cs)
    → IsBinarySearchResult (λ (c : Connection). nat_cmp c.conn.id.0 id) cs r
    → IfSome o (λ index. (index < length cs) × ((c : Connection) → slice_get cs index ≡ Some c → c.conn.id.0 ≡ id))
search_some id cs (Ok index) o is within equal =
    subst (λ (p : Option ℕ).
    IfSome p (λ index. (index < length cs) × ((c : Connection) → slice_get cs index ≡ Some c → c.conn.id.0 ≡ id)))
    (sym is) (
      within,
      λ c here. cmp_same c.conn.id.0 id
          (subst (λ (x : Connection). nat_cmp x.conn.id.0 id ≡ Equal) (get_or_from_slice_get cs index c c here)
          (equal c)),
    )
search_some id cs (Err index) o is within parts =
    subst (λ (p : Option ℕ).
    IfSome p (λ index. (index < length cs) × ((c : Connection) → slice_get cs index ≡ Some c → c.conn.id.0 ≡ id)))
    (sym is) tt

pub search_none : (id : ℕ) (cs : List Connection) (r : Result ℕ ℕ) (o : Option ℕ) → o ≡ result_ok r
    → IsBinarySearchResult (λ (c : Connection). nat_cmp c.conn.id.0 id) cs r → IsStrictlyIncreasing (map number cs)
    → IfNone o (AllByRecursion (λ (c : Connection). c.conn.id.0 ≢ id) cs)
search_none id cs (Ok index) o is equal rising =
    subst (λ (p : Option ℕ). IfNone p (AllByRecursion (λ (c : Connection). c.conn.id.0 ≢ id) cs)) (sym is) tt
search_none id cs (Err index) o is parts rising =
    let point = parts (all_up id cs rising) in
    subst (λ (p : Option ℕ). IfNone p (AllByRecursion (λ (c : Connection). c.conn.id.0 ≢ id) cs)) (sym is)
    (none_of_all id cs (λ k d within. cmp_apart (number (get_or cs k d)) id (side k d within point)))
  where
    side : (k : ℕ) (d : Connection) → k < length cs
        → IsPartitionPoint (λ (c : Connection). nat_cmp c.conn.id.0 id ≡ Less)
        (λ (c : Connection). nat_cmp c.conn.id.0 id ≡ Greater) cs index
        → (nat_cmp (number (get_or cs k d)) id ≡ Less) ⊎ (nat_cmp (number (get_or cs k d)) id ≡ Greater)
    side k d within point = elim (cases_lt k index) [
      | inl less ↦ inl (point.0 k d (omega arith) less)
      | inr more ↦ inr (point.1 k d more within)
    ]

-- each entry is found by its own number
pub own_id : (cs : List Connection) (index : ℕ) (c : Connection) → slice_get cs index ≡ Some c
    → (x : Connection) → slice_get cs index ≡ Some x → x.conn.id.0 ≡ c.conn.id.0
own_id cs index c there x here =
    let same : Some x ≡ Some c = sym here ∙ there in
    let is : x ≡ c = cc in
    ap number is

-- ---- what it finds in a world

numbers_are : (peers : List PeerPast) (conns : List (ℕ × ConnPast)) (cs : List Connection)
    → AllZip (ConnectionStands peers) conns cs
    → map number cs ≡ map (λ (entry : ℕ × ConnPast). entry.0) conns
numbers_are peers conns cs all =
    zip_equal (ConnectionStands peers) (λ (entry : ℕ × ConnPast). entry.0) number (λ entry c is. is.id) conns cs all

none_at : (peers : List PeerPast) (id : ℕ) (conns : List (ℕ × ConnPast)) (cs : List Connection)
    → AllZip (ConnectionStands peers) conns cs
    → AllByRecursion (λ (c : Connection). c.conn.id.0 ≢ id) cs → conn_at conns id ≡ None
none_at peers id [] [] all none = refl
none_at peers id [] (c ∷ cs) all none = absurd all
none_at peers id (e ∷ conns) [] all none = absurd all
none_at peers id (e ∷ conns) (c ∷ cs) all none =
    ap (λ (b : Bool). cond b (Some e.1) (conn_at conns id)) (ne_eqb e.0 id (λ same. none.0 (all.0.id ∙ same)))
    ∙ none_at peers id conns cs all.1 none.1

module _ {D : Type 0} {g : Ghosts D} where
  pub rising_there : (life : Life) (stations : Stations D g) (cs : List Connection) → AreRunning life stations cs
      → IsStrictlyIncreasing (map number cs)
  rising_there life stations cs running =
      subst IsStrictlyIncreasing (sym (numbers_are life.past.peers life.conns cs running.conns)) running.tied.rising

  -- no connection has the number
  pub found_not : (life : Life) (stations : Stations D g) (cs : List Connection) (id : ℕ) → AreRunning life stations cs
      → AllByRecursion (λ (c : Connection). c.conn.id.0 ≢ id) cs → FoundConn life id None
  found_not life stations cs id running none = none_at life.past.peers id life.conns cs running.conns none

  module _ (life : Life) (stations : Stations D g) (cs : List Connection) (id index : ℕ) (c : Connection)
      (running : AreRunning life stations cs)
      (there : slice_get cs index ≡ Some c) (is : (x : Connection) → slice_get cs index ≡ Some x
      → x.conn.id.0 ≡ id) where
    beside : (entry : ℕ × ConnPast) × (slice_get life.conns index ≡ Some entry)
        × ConnectionStands life.past.peers entry c
    beside = zip_get (ConnectionStands life.past.peers) life.conns cs index c running.conns there

    -- one has it, and a peer
    pub found_conn : FoundConn life id (Some (index, c.rank))
    found_conn =
        let own : beside.0.0 ≡ id = sym beside.2.id ∙ is c there in (
          beside.0.1,
          beside.2.peer,
          beside.1 ∙ ap (λ (n : ℕ). Some (n, beside.0.1)) own,
          sym beside.2.rank,
          ap (slice_get life.past.peers) beside.2.rank ∙ beside.2.here,
        )

    pub rank_within : c.rank < length stations.peers.items
    rank_within =
        let inside = slice_get_within life.past.peers beside.0.1.rank beside.2.peer beside.2.here in
        omega (
          arith,
          inside,
          beside.2.rank,
          zip_length PeerStands life.past.peers stations.peers.items running.stands.peers,
        )
