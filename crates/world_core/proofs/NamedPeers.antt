-- The peers that a line names: their ranks, and their order.
use Rattle.std.proofs.Common.{◌≡◌, ◌⊎◌, ℕ, zero, suc, ◌+◌, ◌<◌, ◌≤◌, Bool, true, false, ◌||◌, ◌==◌, Option, None, Some}
use Rattle.std.proofs.Common.{List, [], ◌∷◌, ◌++◌, length, get_or, map, if◌then◌else◌, cond, refl, sym, ap, ◌∙◌, subst}
use Rattle.std.proofs.Common.{inl, inr, arith}
use Rattle.std.specs.List.{AllByRecursion, AllZip, list_any, slice_get}
use Rattle.std.specs.Prelude.{MatchOption, Result, Ok, Err}
use Rattle.std.specs.Result.{result_ok}
use Rattle.std.specs.List.Sorted.{IsBinarySearchResult, IsNonDecreasingBy, IsPartitionPoint, IsSearchInRange}
use Rattle.std.specs.Cmp.Lexicographic.{slice_cmp}
use Rattle.std.specs.Ordering.{is_eq, match_ordering, nat_cmp, ordering_index, ordering_reverse}
use Rattle.std.specs.Str.{bytes_eq}
use Rattle.std.specs.BTreeMap.{insert_entry}
use Rattle.std.specs.declared.cmp.Ordering.{Ordering}
use Rattle.std.specs.declared.cmp.Ordering.TheVariants.{Less, Equal, Greater}
use Rattle.std.proofs.lemmas.Bool.{cases_lt, lt-ltb}
use Rattle.std.proofs.lemmas.Cmp.{nat_cmp_total, nat_list_cmp_total, tied_itself}
use Rattle.std.proofs.lemmas.Map.Lookups.{exact_bytes}
use Rattle.std.proofs.lemmas.Map.Text.{is_eq-slice_cmp}
use Rattle.std.proofs.lemmas.Slice.Eq.{bytes_eq-Decides}
use Rattle.disk_model.specs.declared.Disk.{Ghosts}
use Rattle.world_core.specs.Past.{Past, PeerPast}
use Rattle.world_core.specs.Events.{Owes, owed_as}
use Rattle.world_core.specs.Sound.{IsBefore, NamesRise, names_of}
use Rattle.world_core.specs.Steps.{is_named, owed_there, owes_from}
use Rattle.world_core.specs.Stands.{PeerStands, Stands}
use Rattle.world_core.specs.Stepped.{AreFound, AreWithin, FoundAt, named_from}
use Rattle.world_core.specs.declared.peer.Peer.{Peer}
use Rattle.world_core.specs.declared.stations.Stations.{Stations}
use Rattle.world_core.proofs.RelatedLists.{zip_equal}

-- ---- names

same_bytes : (one : List ℕ) → bytes_eq one one ≡ true
same_bytes one = (bytes_eq-Decides one one).1 refl

not_same : (one other : List ℕ) → (one ≡ other → ⊥) → bytes_eq one other ≡ false
not_same one other differ = by (bytes_eq one other) refl
  where
    by : (b : Bool) → bytes_eq one other ≡ b → bytes_eq one other ≡ false
    by true e = absurd (differ ((bytes_eq-Decides one other).0 e))
    by false e = e

level : (one : List ℕ) → slice_cmp nat_cmp one one ≡ Equal
level one = by (slice_cmp nat_cmp one one) (is_eq-slice_cmp one one ∙ same_bytes one)
  where
    by : (r : Ordering) → is_eq r ≡ true → r ≡ Equal
    by Less e = absurd cc
    by Equal e = refl
    by Greater e = absurd cc

before_differs : (one other : List ℕ) → IsBefore one other → one ≡ other → ⊥
before_differs one other before same =
    let at_last : slice_cmp nat_cmp other other ≡ Less =
    subst (λ (n : List ℕ). slice_cmp nat_cmp n other ≡ Less) same before in
    let clash : Less ≡ Equal = sym at_last ∙ level other in
    cc

-- ---- lists

any_hit : (p : List ℕ → Bool) (xs : List (List ℕ)) (x : List ℕ) → p x ≡ true → list_any p (xs ++ x ∷ []) ≡ true
any_hit p [] x is = ap (λ (b : Bool). b || false) is
any_hit p (y ∷ xs) x is = by (p y) (list_any p (xs ++ x ∷ [])) (any_hit p xs x is)
  where
    by : (b rest : Bool) → rest ≡ true → (b || rest) ≡ true
    by true rest more = refl
    by false rest more = more

any_miss : (p : List ℕ → Bool) (xs : List (List ℕ)) (x : List ℕ) → p x ≡ false
    → list_any p (xs ++ x ∷ []) ≡ list_any p xs
any_miss p [] x is = ap (λ (b : Bool). b || false) is
any_miss p (y ∷ xs) x is = ap (λ (b : Bool). p y || b) (any_miss p xs x is)

-- ---- what is among the peers that are named

abbrev pub entry_of : ℕ × PeerPast → ℕ × List ℕ
entry_of entry = (entry.0, entry.1.conf.name)

pub named_owes : (rank : ℕ) (token id : List ℕ) (named : List (List ℕ)) (peers : List PeerPast)
    → map (λ (entry : ℕ × PeerPast). Owes entry.0 token id) (named_from rank named peers)
    ≡ owes_from rank token id named peers
named_owes rank token id named [] = refl
named_owes rank token id named (peer ∷ peers) = by (is_named named peer) (named_owes (rank + 1) token id named peers)
  where
    by : (b : Bool)
        → map (λ (entry : ℕ × PeerPast). Owes entry.0 token id) (named_from (rank + 1) named peers)
        ≡ owes_from (rank + 1) token id named peers
        → map (λ (entry : ℕ × PeerPast). Owes entry.0 token id)
        (if b then (rank, peer) ∷ named_from (rank + 1) named peers else named_from (rank + 1) named peers)
        ≡ (if b then Owes rank token id ∷ owes_from (rank + 1) token id named peers else owes_from (rank + 1) token
        id named peers)
    by true more = ap (λ l. Owes rank token id ∷ l) more
    by false more = more

pub named_outputs : (rank number : ℕ) (named : List (List ℕ)) (peers : List PeerPast)
    → map (λ (entry : ℕ × PeerPast). (entry.1.conf.name, owed_as number entry.1)) (named_from rank named peers)
    ≡ owed_there number named peers
named_outputs rank number named [] = refl
named_outputs rank number named (peer ∷ peers) = by (is_named named peer) (named_outputs (rank + 1) number named peers)
  where
    by : (b : Bool)
        → map (λ (entry : ℕ × PeerPast). (entry.1.conf.name, owed_as number entry.1))
        (named_from (rank + 1) named peers) ≡ owed_there number named peers
        → map (λ (entry : ℕ × PeerPast). (entry.1.conf.name, owed_as number entry.1))
        (if b then (rank, peer) ∷ named_from (rank + 1) named peers else named_from (rank + 1) named peers)
        ≡ (if b then (peer.conf.name, owed_as number peer) ∷ owed_there number named peers else owed_there number
        named peers)
    by true more = ap (λ l. (peer.conf.name, owed_as number peer) ∷ l) more
    by false more = more

-- one more name, which no peer has
none_more : (rank : ℕ) (names : List (List ℕ)) (name : List ℕ) (peers : List PeerPast)
    → AllByRecursion (λ (peer : PeerPast). bytes_eq name peer.conf.name ≡ false) peers
    → named_from rank (names ++ name ∷ []) peers ≡ named_from rank names peers
none_more rank names name [] none = refl
none_more rank names name (peer ∷ peers) none =
    ap (λ (b : Bool). if b then (rank, peer) ∷ named_from (rank + 1) (names ++ name ∷ []) peers else named_from
    (rank + 1) (names ++ name ∷ []) peers)
    (any_miss (λ (n : List ℕ). bytes_eq n peer.conf.name) names name none.0)
    ∙ ap (λ l. if is_named names peer then (rank, peer) ∷ l else l) (none_more (rank + 1) names name peers none.1)

nat_less : (low high : ℕ) → low < high → nat_cmp low high ≡ Less
nat_less low high below = ap (λ (b : Bool). cond b Less (cond (low == high) Equal Greater)) (lt-ltb low high below)

-- a rank below those of all named peers comes first
lowest : (low rank : ℕ) (named : List (List ℕ)) (name : List ℕ) (peers : List PeerPast) → low < rank
    → insert_entry nat_cmp (map entry_of (named_from rank named peers)) low name
    ≡ (low, name) ∷ map entry_of (named_from rank named peers)
lowest low rank named name [] below = refl
lowest low rank named name (peer ∷ peers) below =
    by (is_named named peer) (lowest low (rank + 1) named name peers (omega (arith, below)))
  where
    by : (b : Bool)
        → insert_entry nat_cmp (map entry_of (named_from (rank + 1) named peers)) low name
        ≡ (low, name) ∷ map entry_of (named_from (rank + 1) named peers)
        → insert_entry nat_cmp (map entry_of
        (if b then (rank, peer) ∷ named_from (rank + 1) named peers else named_from (rank + 1) named peers))
        low name
        ≡ (low, name) ∷ map entry_of
        (if b then (rank, peer) ∷ named_from (rank + 1) named peers else named_from (rank + 1) named peers)
    by true more = ap (λ (r : Ordering).
        match_ordering r ((low, name) ∷ (rank, peer.conf.name) ∷ map entry_of (named_from (rank + 1) named peers))
        ((rank, name) ∷ map entry_of (named_from (rank + 1) named peers))
        ((rank, peer.conf.name) ∷ insert_entry nat_cmp (map entry_of (named_from (rank + 1) named peers)) low name))
        (nat_less low rank below)
    by false more = more

none_behind : (name : List ℕ) (peers : List PeerPast) → AllByRecursion (IsBefore name) (names_of peers)
    → AllByRecursion (λ (peer : PeerPast). bytes_eq name peer.conf.name ≡ false) peers
none_behind name [] rise = tt
none_behind name (peer ∷ peers) rise =
    (not_same name peer.conf.name (before_differs name peer.conf.name rise.0), none_behind name peers rise.1)

before_at : (name : List ℕ) (peers : List PeerPast) (at : ℕ) (peer : PeerPast)
    → AllByRecursion (IsBefore name) (names_of peers)
    → slice_get peers at ≡ Some peer → IsBefore name peer.conf.name
before_at name [] at peer rise here = absurd cc
before_at name (other ∷ peers) zero peer rise here = let same : other ≡ peer = cc in
    subst (λ (p : PeerPast). IsBefore name p.conf.name) same rise.0
before_at name (other ∷ peers) (suc at) peer rise here = before_at name peers at peer rise.1 here

own_key : (rank : ℕ) (v w : List ℕ) (rest : List (ℕ × List ℕ)) → v ≡ w
    → insert_entry nat_cmp ((rank, v) ∷ rest) rank w ≡ (rank, v) ∷ rest
own_key rank v w rest same =
    ap (λ (r : Ordering). match_ordering r ((rank, w) ∷ (rank, v) ∷ rest) ((rank, w) ∷ rest)
    ((rank, v) ∷ insert_entry nat_cmp rest rank w))
    (tied_itself nat_cmp_total rank)
    ∙ ap (λ (n : List ℕ). (rank, n) ∷ rest) (sym same)

higher_key : (low rank : ℕ) (v w : List ℕ) (rest : List (ℕ × List ℕ)) → low < rank
    → insert_entry nat_cmp ((low, v) ∷ rest) rank w ≡ (low, v) ∷ insert_entry nat_cmp rest rank w
higher_key low rank v w rest above =
    ap (λ (r : Ordering). match_ordering r ((rank, w) ∷ (low, v) ∷ rest) ((low, w) ∷ rest)
    ((low, v) ∷ insert_entry nat_cmp rest rank w))
    (nat_cmp_total.antisymm rank low ∙ ap ordering_reverse (nat_less low rank above))

-- one more name, of the peer at this rank
pub one_more : (rank at : ℕ) (names : List (List ℕ)) (name : List ℕ) (peers : List PeerPast) (peer : PeerPast)
    → NamesRise (names_of peers)
    → slice_get peers at ≡ Some peer → peer.conf.name ≡ name
    → insert_entry nat_cmp (map entry_of (named_from rank names peers)) (rank + at) name
    ≡ map entry_of (named_from rank (names ++ name ∷ []) peers)
one_more rank at names name [] peer rise here is = absurd cc
one_more rank zero names name (other ∷ peers) peer rise here is =
    let same_peer : other ≡ peer = cc in
    let same : other.conf.name ≡ name = ap (λ (p : PeerPast). p.conf.name) same_peer ∙ is in
    let hit : is_named (names ++ name ∷ []) other ≡ true =
    any_hit (λ (n : List ℕ). bytes_eq n other.conf.name) names name
    ((bytes_eq-Decides name other.conf.name).1 (sym same)) in
    let rest : named_from (rank + 1) (names ++ name ∷ []) peers ≡ named_from (rank + 1) names peers =
    none_more (rank + 1) names name peers
    (subst (λ (n : List ℕ). AllByRecursion (λ (p : PeerPast). bytes_eq n p.conf.name ≡ false) peers) same
    (none_behind other.conf.name peers rise.0)) in
    ap (λ (n : ℕ). insert_entry nat_cmp (map entry_of (named_from rank names (other ∷ peers))) n name)
    (plus_zero rank)
    ∙ by (is_named names other) same
    ∙ sym (ap (λ (b : Bool).
    map entry_of (if b then (rank, other) ∷ named_from (rank + 1) (names ++ name ∷ []) peers else named_from
    (rank + 1) (names ++ name ∷ []) peers)) hit
    ∙ ap (λ l. (rank, other.conf.name) ∷ map entry_of l) rest)
  where
    plus_zero : (n : ℕ) → n + 0 ≡ n
    plus_zero n = omega arith

    by : (b : Bool) → other.conf.name ≡ name
        → insert_entry nat_cmp (map entry_of
        (if b then (rank, other) ∷ named_from (rank + 1) names peers else named_from (rank + 1) names peers))
        rank name
        ≡ (rank, other.conf.name) ∷ map entry_of (named_from (rank + 1) names peers)
    by true same = own_key rank other.conf.name name (map entry_of (named_from (rank + 1) names peers)) same
    by false same = lowest rank (rank + 1) names name peers (omega arith)
        ∙ ap (λ (n : List ℕ). (rank, n) ∷ map entry_of (named_from (rank + 1) names peers)) (sym same)
one_more rank (suc at) names name (other ∷ peers) peer rise here is =
    let differs = not_same name other.conf.name
    (λ e. before_differs other.conf.name name
    (subst (IsBefore other.conf.name) is (before_at other.conf.name peers at peer rise.0 here)) (sym e)) in
    let tail : insert_entry nat_cmp (map entry_of (named_from (rank + 1) names peers)) (rank + suc at) name
    ≡ map entry_of (named_from (rank + 1) (names ++ name ∷ []) peers) =
    ap (λ (n : ℕ). insert_entry nat_cmp (map entry_of (named_from (rank + 1) names peers)) n name) (plus_one rank at)
    ∙ one_more (rank + 1) at names name peers peer rise.1 here is in
    by (is_named names other) tail
    ∙ sym (ap (λ (b : Bool).
    map entry_of (if b then (rank, other) ∷ named_from (rank + 1) (names ++ name ∷ []) peers else named_from
    (rank + 1) (names ++ name ∷ []) peers))
    (any_miss (λ (n : List ℕ). bytes_eq n other.conf.name) names name differs))
  where
    plus_one : (n k : ℕ) → n + suc k ≡ (n + 1) + k
    plus_one n k = omega arith

    by : (b : Bool)
        → insert_entry nat_cmp (map entry_of (named_from (rank + 1) names peers)) (rank + suc at) name
        ≡ map entry_of (named_from (rank + 1) (names ++ name ∷ []) peers)
        → insert_entry nat_cmp (map entry_of
        (if b then (rank, other) ∷ named_from (rank + 1) names peers else named_from (rank + 1) names peers))
        (rank + suc at) name
        ≡ map entry_of (if b then (rank, other) ∷ named_from (rank + 1) (names ++ name ∷ []) peers else named_from
        (rank + 1) (names ++ name ∷ []) peers)
    by true tail = higher_key rank (rank + suc at) other.conf.name name
        (map entry_of (named_from (rank + 1) names peers)) (omega arith)
        ∙ ap (λ l. (rank, other.conf.name) ∷ l) tail
    by false tail = tail

pub within_more : (count : ℕ) (found : List (ℕ × List ℕ)) (rank : ℕ) (name : List ℕ) → AreWithin count found
    → rank < count
    → AreWithin count (insert_entry nat_cmp found rank name)
within_more count [] rank name all one = (one, tt)
within_more count (entry ∷ found) rank name all one =
    by (nat_cmp rank entry.0) (within_more count found rank name all.1 one)
  where
    by : (r : Ordering) → AreWithin count (insert_entry nat_cmp found rank name)
        → AreWithin count (match_ordering r ((rank, name) ∷ entry ∷ found) ((entry.0, name) ∷ found)
        (entry ∷ insert_entry nat_cmp found rank name))
    by Less more = (one, all)
    by Equal more = (all.0, all.1)
    by Greater more = (all.0, more)

-- ---- the binary search

step_up : (one other name : List ℕ) → IsBefore one other
    → ordering_index (slice_cmp nat_cmp one name) ≤ ordering_index (slice_cmp nat_cmp other name)
step_up one other name before = by (slice_cmp nat_cmp other name) refl
  where
    low : (r : Ordering) → ordering_index r ≤ 2
    low Less = omega arith
    low Equal = omega arith
    low Greater = omega arith

    less : (r s : Ordering) → r ≡ Less → ordering_index r ≤ ordering_index s
    less r s e = omega (arith, ap ordering_index e)

    by : (r : Ordering) → slice_cmp nat_cmp other name ≡ r
        → ordering_index (slice_cmp nat_cmp one name) ≤ ordering_index (slice_cmp nat_cmp other name)
    by Less e = less _ _ (nat_list_cmp_total.trans one other name before e)
    by Equal e = less _ _ (subst (λ (n : List ℕ). slice_cmp nat_cmp one n ≡ Less) (exact_bytes other name e) before)
    by Greater e = omega (arith, low (slice_cmp nat_cmp one name), ap ordering_index e)

module _ {A : Type 0} (f : A → List ℕ) (name : List ℕ) where
  first_low : (x : A) (xs : List A) (j : ℕ) (d : A) → AllByRecursion (IsBefore (f x)) (map f xs) → j < length xs
      → IsBefore (f x) (f (get_or xs j d))
  first_low x [] j d rise within = absurd (omega (arith, within))
  first_low x (y ∷ xs) zero d rise within = rise.0
  first_low x (y ∷ xs) (suc j) d rise within = first_low x xs j d rise.1 (omega (arith, within))

  pub names_up : (xs : List A) → NamesRise (map f xs)
      → IsNonDecreasingBy (λ (x : A). ordering_index (slice_cmp nat_cmp (f x) name)) xs
  names_up [] rise i j d le within = absurd (omega (arith, within))
  names_up (x ∷ xs) rise zero zero d le within = omega arith
  names_up (x ∷ xs) rise zero (suc j) d le within =
      step_up (f x) (f (get_or xs j d)) name (first_low x xs j d rise.0 (omega (arith, within)))
  names_up (x ∷ xs) rise (suc i) zero d le within = absurd (omega (arith, le))
  names_up (x ∷ xs) rise (suc i) (suc j) d le within =
      names_up xs rise.1 i j d (omega (arith, le)) (omega (arith, within))

  pub none_there : (xs : List A)
      → ((k : ℕ) (d : A) → k < length xs → slice_cmp nat_cmp (f (get_or xs k d)) name ≡ Equal → ⊥)
      → AllByRecursion (λ (x : A). bytes_eq name (f x) ≡ false) xs
  none_there [] none = tt
  none_there (x ∷ xs) none = (
    not_same name (f x) (λ same.
        none 0 x (omega arith) (subst (λ (n : List ℕ). slice_cmp nat_cmp n name ≡ Equal) same (level name))),
    none_there xs (λ k d within. none (suc k) d (omega (arith, within))),
  )

get_in : {A : Type 0} (xs : List A) (i : ℕ) → i < length xs
    → (x : A) × (slice_get xs i ≡ Some x) × ((d : A) → get_or xs i d ≡ x)
get_in [] i within = absurd (omega (arith, within))
get_in (x ∷ xs) zero within = (x, refl, λ d. refl)
get_in (x ∷ xs) (suc i) within = get_in xs i (omega (arith, within))

pub zip_get : {A B : Type 0} (R : A → B → Type 0) (xs : List A) (ys : List B) (i : ℕ) (y : B) → AllZip R xs ys
    → slice_get ys i ≡ Some y
    → (x : A) × (slice_get xs i ≡ Some x) × R x y
zip_get R [] [] i y all here = absurd cc
zip_get R [] (z ∷ ys) i y all here = absurd all
zip_get R (x ∷ xs) [] i y all here = absurd all
zip_get R (x ∷ xs) (z ∷ ys) zero y all here = let same : z ≡ y = cc in (x, refl, subst (R x) same all.0)
zip_get R (x ∷ xs) (z ∷ ys) (suc i) y all here = zip_get R xs ys i y all.1 here

not_equal : (r : Ordering) → (r ≡ Less) ⊎ (r ≡ Greater) → r ≡ Equal → ⊥
not_equal r (inl e) same = let clash : Less ≡ Equal = sym e ∙ same in cc
not_equal r (inr e) same = let clash : Greater ≡ Equal = sym e ∙ same in cc

module _ {D : Type 0} {g : Ghosts D} where
  same_names : (pasts : List PeerPast) (peers : List (Peer D g)) → AllZip PeerStands pasts peers
      → names_of pasts ≡ map (λ (peer : Peer D g). peer.conf.name) peers
  same_names pasts peers all =
      sym (zip_equal PeerStands (λ (past : PeerPast). past.conf.name) (λ (peer : Peer D g). peer.conf.name)
      (λ past peer is. ap (λ conf. conf.name) is.conf) pasts peers all)

  none_past : (name : List ℕ) (pasts : List PeerPast) (peers : List (Peer D g)) → AllZip PeerStands pasts peers
      → AllByRecursion (λ (peer : Peer D g). bytes_eq name peer.conf.name ≡ false) peers
      → AllByRecursion (λ (peer : PeerPast). bytes_eq name peer.conf.name ≡ false) pasts
  none_past name [] [] all none = tt
  none_past name [] (peer ∷ peers) all none = absurd all
  none_past name (past ∷ pasts) [] all none = absurd all
  none_past name (past ∷ pasts) (peer ∷ peers) all none =
      (subst (λ conf. bytes_eq name conf.name ≡ false) all.0.conf none.0, none_past name pasts peers all.1 none.1)

  -- what the search returns if a peer has the name
  pub found_some : (past : Past) (name : List ℕ) (stations : Stations D g) (rank : ℕ) → Stands stations past
      → rank < length stations.peers.items
      → ((d : Peer D g) → slice_cmp nat_cmp (get_or stations.peers.items rank d).conf.name name ≡ Equal)
      → FoundAt past name (Some rank)
  found_some past name stations rank stands within equal =
      let there = get_in stations.peers.items rank within in
      let beside = zip_get PeerStands past.peers stations.peers.items rank there.0 stands.peers there.1 in
      let same : there.0.conf.name ≡ name =
      exact_bytes there.0.conf.name name
      (subst (λ (p : Peer D g). slice_cmp nat_cmp p.conf.name name ≡ Equal) (there.2 there.0) (equal there.0)) in
      (beside.0, beside.1, ap (λ conf. conf.name) (sym beside.2.conf) ∙ same)

  -- and if none has
  pub found_none : (past : Past) (name : List ℕ) (stations : Stations D g) (i : ℕ) → Stands stations past
      → (IsNonDecreasingBy (λ (peer : Peer D g). ordering_index (slice_cmp nat_cmp peer.conf.name name))
      stations.peers.items
      → IsPartitionPoint (λ (peer : Peer D g). slice_cmp nat_cmp peer.conf.name name ≡ Less)
      (λ (peer : Peer D g). slice_cmp nat_cmp peer.conf.name name ≡ Greater) stations.peers.items i)
      → FoundAt past name None
  found_none past name stations i stands parts =
      let names = subst NamesRise (same_names past.peers stations.peers.items stands.peers) stands.sound.names in
      let point = parts (names_up (λ (peer : Peer D g). peer.conf.name) name stations.peers.items names) in
      none_past name past.peers stations.peers.items stands.peers
      (none_there (λ (peer : Peer D g). peer.conf.name) name stations.peers.items
      (λ k d within. not_equal _ (side k d within point)))
    where
      side : (k : ℕ) (d : Peer D g) → k < length stations.peers.items
          → IsPartitionPoint (λ (peer : Peer D g). slice_cmp nat_cmp peer.conf.name name ≡ Less)
          (λ (peer : Peer D g). slice_cmp nat_cmp peer.conf.name name ≡ Greater) stations.peers.items i
          → (slice_cmp nat_cmp (get_or stations.peers.items k d).conf.name name ≡ Less)
          ⊎ (slice_cmp nat_cmp (get_or stations.peers.items k d).conf.name name ≡ Greater)
      side k d within point = elim (cases_lt k i) [
        | inl less ↦ inl (point.0 k d (omega arith) less)
        | inr more ↦ inr (point.1 k d more within)
      ]

  -- what the search returns
  pub found_as : (past : Past) (name : List ℕ) (stations : Stations D g) (r : Result ℕ ℕ) (o : Option ℕ)
      → o ≡ result_ok r → Stands stations past
      → IsSearchInRange r (length stations.peers.items)
      → IsBinarySearchResult (λ (peer : Peer D g). slice_cmp nat_cmp peer.conf.name name) stations.peers.items r
      → FoundAt past name o
  found_as past name stations (Ok rank) o is stands within equal =
      subst (FoundAt past name) (sym is) (found_some past name stations rank stands within equal)
  found_as past name stations (Err i) o is stands within parts =
      subst (FoundAt past name) (sym is) (found_none past name stations i stands parts)

pub found_within : (long : ℕ) (r : Result ℕ ℕ) (o : Option ℕ) → o ≡ result_ok r → IsSearchInRange r long
    → MatchOption o (Unit {0}) (λ (rank : ℕ). rank < long)
found_within long (Ok rank) o is within =
    subst (λ (p : Option ℕ). MatchOption p (Unit {0}) (λ (rank : ℕ). rank < long)) (sym is) within
found_within long (Err i) o is within =
    subst (λ (p : Option ℕ). MatchOption p (Unit {0}) (λ (rank : ℕ). rank < long)) (sym is) tt

-- ---- the map of the peers that were found

map_none : (rank : ℕ) (peers : List PeerPast) → named_from rank [] peers ≡ []
map_none rank [] = refl
map_none rank (peer ∷ peers) = map_none (rank + 1) peers

pub found_first : (past : Past) (found : List (ℕ × List ℕ)) → found ≡ [] → AreFound past [] found
found_first past found none = none ∙ ap (map entry_of) (sym (map_none 0 past.peers))

pub found_more : (past : Past) (names : List (List ℕ)) (name : List ℕ) (rank : ℕ) (old new : List (ℕ × List ℕ))
    → NamesRise (names_of past.peers)
    → AreFound past names old → FoundAt past name (Some rank) → new ≡ insert_entry nat_cmp old rank name
    → AreFound past (names ++ name ∷ []) new
found_more past names name rank old new rise so_far here is =
    is ∙ ap (λ l. insert_entry nat_cmp l rank name) so_far
    ∙ ap (λ (n : ℕ). insert_entry nat_cmp (map entry_of (named_from 0 names past.peers)) n name) (zero_plus rank)
    ∙ one_more 0 rank names name past.peers here.0 rise here.1 here.2
  where
    zero_plus : (n : ℕ) → n ≡ 0 + n
    zero_plus n = omega arith

pub found_same : (past : Past) (names : List (List ℕ)) (name : List ℕ) (found : List (ℕ × List ℕ))
    → AreFound past names found
    → FoundAt past name None → AreFound past (names ++ name ∷ []) found
found_same past names name found so_far none = so_far ∙ ap (map entry_of) (sym (none_more 0 names name past.peers none))
