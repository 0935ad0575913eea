-- A line is owed at each peer that it names, one after another.
use Rattle.std.proofs.Common.{◌≡◌, ℕ, zero, suc, ◌+◌, ◌<◌, Bool, true, false, Some, List, [], ◌∷◌, ◌++◌, length, take}
use Rattle.std.proofs.Common.{drop, map, if◌then◌else◌, refl, sym, ap, ◌∙◌, subst, arith, add-one, append-nil}
use Rattle.std.proofs.Common.{append_assoc}
use Rattle.std.proofs.Math.ListN.{set}
use Rattle.std.proofs.lemmas.List.{length-map, take_all, map_push}
use Rattle.std.specs.List.{AllByRecursion, slice_get}
use Rattle.disk_model.specs.declared.Disk.{Ghosts}
use Rattle.peer_queue.specs.declared.limits.Owed.{Owed}
use Rattle.world_core.specs.Past.{Past, PeerPast}
use Rattle.world_core.specs.Events.{Event, Owes, owed_as}
use Rattle.world_core.specs.Steps.{is_named, line_events}
use Rattle.world_core.specs.Stands.{FailedOne, OwedOne, Stands}
use Rattle.world_core.specs.Stepped.{AreFound, Did, Failed, OwedLine, named_from}
use Rattle.world_core.specs.declared.fault.Fault.{Fault}
use Rattle.world_core.specs.declared.stations.Stations.{Stations}
use Rattle.world_core.specs.declared.output.OwedAt.{OwedAt}
use Rattle.world_core.proofs.EventLists.{did_more, did_none, failed_next}
use Rattle.world_core.proofs.NamedPeers.{entry_of, named_owes, named_outputs}

-- ---- lists

split_at : {A B : Type 0} (f : A → B) (xs : List A) (prefix : List B) (y : B) (back : List B)
    → map f xs ≡ prefix ++ y ∷ back
    → (x : A) × (slice_get xs (length prefix) ≡ Some x) × (f x ≡ y)
split_at f [] [] y back is = absurd cc
split_at f [] (z ∷ prefix) y back is = absurd cc
split_at f (x ∷ xs) [] y back is = (x, refl, cc)
split_at f (x ∷ xs) (z ∷ prefix) y back is = split_at f xs prefix y back (tail_of is)
  where
    tail_of : {X : Type 0} {a b : X} {rest other : List X} → a ∷ rest ≡ b ∷ other → rest ≡ other
    tail_of same = cc

pub take_next : {A : Type 0} (xs : List A) (k : ℕ) (x : A) → slice_get xs k ≡ Some x
    → take (suc k) xs ≡ take k xs ++ x ∷ []
take_next [] k x here = absurd cc
take_next (y ∷ xs) zero x here = let same : y ≡ x = cc in ap (λ z. z ∷ []) same
take_next (y ∷ xs) (suc k) x here = ap (λ l. y ∷ l) (take_next xs k x here)

map_split : {A B : Type 0} (f : A → B) (xs : List A) (k : ℕ) (x : A) → slice_get xs k ≡ Some x
    → map f xs ≡ (map f (take k xs) ++ f x ∷ []) ++ map f (drop (suc k) xs)
map_split f [] k x here = absurd cc
map_split f (y ∷ xs) zero x here = let same : y ≡ x = cc in ap (λ z. f z ∷ map f xs) same
map_split f (y ∷ xs) (suc k) x here = ap (λ l. f y ∷ l) (map_split f xs k x here)

all_more : {A : Type 0} (P : A → Type 0) (xs : List A) (x : A) → AllByRecursion P (xs ++ x ∷ [])
    → AllByRecursion P xs × P x
all_more P [] x all = (tt, all.0)
all_more P (y ∷ xs) x all = let rest = all_more P xs x all.1 in ((all.0, rest.0), rest.1)

get_set_other : {A : Type 0} (xs : List A) (i j : ℕ) (y : A) → i < j → slice_get (set xs i y) j ≡ slice_get xs j
get_set_other [] i j y below = refl
get_set_other (x ∷ xs) i zero y below = absurd (omega (arith, below))
get_set_other (x ∷ xs) zero (suc j) y below = refl
get_set_other (x ∷ xs) (suc i) (suc j) y below = get_set_other xs i j y (omega (arith, below))

pub split_here : {A : Type 0} (all prefix iter next : List A) (x : A) → all ≡ prefix ++ iter → iter ≡ x ∷ next
    → all ≡ prefix ++ x ∷ next
split_here all prefix iter next x is one = is ∙ ap (λ l. prefix ++ l) one

pub split_more : {A : Type 0} (all prefix iter next : List A) (x : A) → all ≡ prefix ++ iter → iter ≡ x ∷ next
    → all ≡ (prefix ++ x ∷ []) ++ next
split_more all prefix iter next x is one =
    split_here all prefix iter next x is one ∙ sym (append_assoc prefix (x ∷ []) next)

pub split_end : {A : Type 0} (all prefix iter : List A) → all ≡ prefix ++ iter → iter ≡ [] → all ≡ prefix
split_end all prefix iter is none = is ∙ ap (λ l. prefix ++ l) none ∙ append-nil prefix

pub length_more : {A : Type 0} (prefix : List A) (x : A) → length prefix + 1 ≡ length (prefix ++ x ∷ [])
length_more [] x = refl
length_more (y ∷ prefix) x = omega (arith, length_more prefix x)

-- ---- the peers that a line names, by rising ranks

all_lower : (k low rank : ℕ) (named : List (List ℕ)) (peers : List PeerPast) → low < rank
    → AllByRecursion (λ (entry : ℕ × PeerPast). low < entry.0) (named_from rank named peers)
all_lower k low rank named [] below = tt
all_lower k low rank named (peer ∷ peers) below =
    by (is_named named peer) (all_lower k low (rank + 1) named peers (omega (arith, below)))
  where
    by : (b : Bool) → AllByRecursion (λ (entry : ℕ × PeerPast). low < entry.0) (named_from (rank + 1) named peers)
        → AllByRecursion (λ (entry : ℕ × PeerPast). low < entry.0)
        (if b then (rank, peer) ∷ named_from (rank + 1) named peers else named_from (rank + 1) named peers)
    by true more = (below, more)
    by false more = more

at_all : {A : Type 0} (P : A → Type 0) (xs : List A) (k : ℕ) (x : A) → AllByRecursion P xs → slice_get xs k ≡ Some x
    → P x
at_all P [] k x all here = absurd cc
at_all P (y ∷ xs) zero x all here = let same : y ≡ x = cc in subst P same all.0
at_all P (y ∷ xs) (suc k) x all here = at_all P xs k x all.1 here

-- those before one have lower ranks
lower_before : (rank : ℕ) (named : List (List ℕ)) (peers : List PeerPast) (k : ℕ) (entry : ℕ × PeerPast)
    → slice_get (named_from rank named peers) k ≡ Some entry
    → AllByRecursion (λ (other : ℕ × PeerPast). other.0 < entry.0) (take k (named_from rank named peers))
lower_before rank named [] k entry here = absurd cc
lower_before rank named (peer ∷ peers) k entry here =
    by (is_named named peer) k here (λ (n : ℕ) at. lower_before (rank + 1) named peers n entry at)
    (λ (n : ℕ) at. at_all (λ (other : ℕ × PeerPast). rank < other.0) (named_from (rank + 1) named peers) n entry
    (all_lower n rank (rank + 1) named peers (omega arith)) at)
  where
    by : (b : Bool) (n : ℕ)
        → slice_get (if b then (rank, peer) ∷ named_from (rank + 1) named peers else named_from (rank + 1) named
        peers) n ≡ Some entry
        → ((m : ℕ) → slice_get (named_from (rank + 1) named peers) m ≡ Some entry
        → AllByRecursion (λ (other : ℕ × PeerPast). other.0 < entry.0) (take m (named_from (rank + 1) named peers)))
        → ((m : ℕ) → slice_get (named_from (rank + 1) named peers) m ≡ Some entry → rank < entry.0)
        → AllByRecursion (λ (other : ℕ × PeerPast). other.0 < entry.0)
        (take n (if b then (rank, peer) ∷ named_from (rank + 1) named peers else named_from (rank + 1) named peers))
    by true zero at more above = tt
    by true (suc n) at more above = (above n at, more n at)
    by false n at more above = more n at

-- each is at its rank
stands_at : (all : List PeerPast) (rank : ℕ) (named : List (List ℕ)) (peers : List PeerPast) (k : ℕ) (entry : ℕ
    × PeerPast)
    → ((i : ℕ) (peer : PeerPast) → slice_get peers i ≡ Some peer → slice_get all (rank + i) ≡ Some peer)
    → slice_get (named_from rank named peers) k ≡ Some entry → slice_get all entry.0 ≡ Some entry.1
stands_at all rank named [] k entry there here = absurd cc
stands_at all rank named (peer ∷ peers) k entry there here =
    by (is_named named peer) k here
    (λ (n : ℕ) at. stands_at all (rank + 1) named peers n entry
    (λ (i : ℕ) (p : PeerPast) is. subst (λ (m : ℕ). slice_get all m ≡ Some p) (next rank i) (there (suc i) p is)) at)
    (subst (λ (m : ℕ). slice_get all m ≡ Some peer) (first rank) (there 0 peer refl))
  where
    next : (n i : ℕ) → n + suc i ≡ (n + 1) + i
    next n i = omega arith

    first : (n : ℕ) → n + 0 ≡ n
    first n = omega arith

    by : (b : Bool) (n : ℕ)
        → slice_get (if b then (rank, peer) ∷ named_from (rank + 1) named peers else named_from (rank + 1) named
        peers) n ≡ Some entry
        → ((m : ℕ) → slice_get (named_from (rank + 1) named peers) m ≡ Some entry
        → slice_get all entry.0 ≡ Some entry.1)
        → slice_get all rank ≡ Some peer → slice_get all entry.0 ≡ Some entry.1
    by true zero at more own = let same : (rank, peer) ≡ entry = cc in
        subst (λ (e : ℕ × PeerPast). slice_get all e.0 ≡ Some e.1) same own
    by true (suc n) at more own = more n at
    by false n at more own = more n at

pub stands_there : (named : List (List ℕ)) (peers : List PeerPast) (k : ℕ) (entry : ℕ × PeerPast)
    → slice_get (named_from 0 named peers) k ≡ Some entry → slice_get peers entry.0 ≡ Some entry.1
stands_there named peers k entry here =
    stands_at peers 0 named peers k entry
    (λ (i : ℕ) (p : PeerPast) is. subst (λ (m : ℕ). slice_get peers m ≡ Some p) (zero_plus i) is) here
  where
    zero_plus : (i : ℕ) → i ≡ 0 + i
    zero_plus i = omega arith

-- ---- one peer after another

abbrev pub owes_at : List ℕ → List ℕ → ℕ × PeerPast → Event
owes_at token id entry = Owes entry.0 token id

abbrev pub faults_of : ℕ → ℕ × PeerPast → List ℕ × Owed
faults_of number entry = (entry.1.conf.name, owed_as number entry.1)

abbrev pub said_at : OwedAt → List ℕ × Owed
said_at at = (at.name, at.owed)

next_of : (past : Past) (named : List (List ℕ)) (prefix : List (ℕ × List ℕ)) (at : ℕ × List ℕ) (back : List (ℕ
    × List ℕ))
    → AreFound past named (prefix ++ at ∷ back)
    → (e : ℕ × PeerPast) × (slice_get (named_from 0 named past.peers) (length prefix) ≡ Some e) × (entry_of e ≡ at)
next_of past named prefix at back found = split_at entry_of (named_from 0 named past.peers) prefix at back (sym found)

module _ {D : Type 0} {g : Ghosts D} where
  -- the line is owed at this many of the peers that it names, from the first on, and those after them are as they were
  pub record OwedSome (past : Past) (token id : List ℕ) (named : List (List ℕ)) (count : ℕ) (outputs : List OwedAt)
      (stations : Stations D g) : Type 0 where
    pub did : Did past (map (owes_at token id) (take count (named_from 0 named past.peers))) stations
    pub outputs_are : map said_at outputs ≡ map (faults_of (past.last + 1)) (take count (named_from 0 named past.peers))
    pub same_last : did.later.last ≡ past.last
    pub behind : (rank : ℕ)
        → AllByRecursion (λ (entry : ℕ × PeerPast). entry.0 < rank) (take count (named_from 0 named past.peers))
        → slice_get did.later.peers rank ≡ slice_get past.peers rank

  pub some_none : (past : Past) (token id : List ℕ) (named : List (List ℕ)) (outputs : List OwedAt)
      (stations : Stations D g) → outputs ≡ []
      → Stands stations past → OwedSome past token id named 0 outputs stations
  some_none past token id named outputs stations none stands =
      record {
        did = did_none past stations stands;
        outputs_are = ap (map said_at) none;
        same_last = refl;
        behind =
            λ rank all. refl;
      }

  module _ (past : Past) (token id : List ℕ) (named : List (List ℕ)) (prefix : List (ℕ × List ℕ)) (at : ℕ × List ℕ)
      (back : List (ℕ × List ℕ))
      (found : AreFound past named (prefix ++ at ∷ back)) where
    pub some_more : (outputs new_outputs : List OwedAt) (name : List ℕ) (owed : Owed) (old new : Stations D g)
        → (so_far : OwedSome past token id named (length prefix) outputs old)
        → OwedOne so_far.did.later at.0 token id owed new
        → name ≡ at.1 → new_outputs ≡ outputs ++ record { name = name; owed = owed } ∷ []
        → OwedSome past token id named (length prefix + 1) new_outputs new
    some_more outputs new_outputs name owed old new so_far one is reports =
        let entry = next_of past named prefix at back found in
        let next_rank : entry.0.0 ≡ at.0 = ap (λ (e : ℕ × List ℕ). e.0) entry.2 in
        let longer : take (length prefix + 1) (named_from 0 named past.peers)
        ≡ take (length prefix) (named_from 0 named past.peers) ++ entry.0 ∷ [] =
        ap (λ (n : ℕ). take n (named_from 0 named past.peers)) (add-one (length prefix))
        ∙ take_next (named_from 0 named past.peers) (length prefix) entry.0 entry.1 in
        let untouched : slice_get so_far.did.later.peers entry.0.0 ≡ slice_get past.peers entry.0.0 =
        so_far.behind entry.0.0 (lower_before 0 named past.peers (length prefix) entry.0 entry.1) in
        let there : slice_get so_far.did.later.peers at.0 ≡ Some entry.0.1 =
        subst (λ (n : ℕ). slice_get so_far.did.later.peers n ≡ Some entry.0.1) next_rank
        (untouched ∙ stands_there named past.peers (length prefix) entry.0 entry.1) in
        let same : one.peer ≡ entry.0.1 = some_once (sym one.here ∙ there) in
        let answer : owed ≡ owed_as (past.last + 1) entry.0.1 =
        one.owed_is ∙ ap (λ (n : ℕ). owed_as (n + 1) one.peer) so_far.same_last ∙ ap (owed_as (past.last + 1)) same in
        let own : name ≡ entry.0.1.conf.name = is ∙ sym (ap (λ (e : ℕ × List ℕ). e.1) entry.2) in
        record {
          did = did_more past (map (owes_at token id) (take (length prefix) (named_from 0 named past.peers)))
              (map (owes_at token id) (take (length prefix + 1) (named_from 0 named past.peers))) (Owes at.0 token id)
              old new
              (ap (map (owes_at token id)) longer
              ∙ map_push (owes_at token id) (take (length prefix) (named_from 0 named past.peers)) entry.0
              ∙ ap (λ (n : ℕ). map (owes_at token id) (take (length prefix) (named_from 0 named past.peers))
              ++ Owes n token id ∷ []) next_rank)
              so_far.did one.did;
          outputs_are = ap (map said_at) reports ∙ map_push said_at outputs (record { name = name; owed = owed })
              ∙ ap (λ l. l ++ (name, owed) ∷ []) so_far.outputs_are
              ∙ ap (λ (n : List ℕ). map (faults_of (past.last + 1))
              (take (length prefix) (named_from 0 named past.peers)) ++ (n, owed) ∷ []) own
              ∙ ap (λ (o : Owed). map (faults_of (past.last + 1)) (take (length prefix) (named_from 0 named past.peers))
              ++ (entry.0.1.conf.name, o) ∷ []) answer
              ∙ sym (ap (map (faults_of (past.last + 1))) longer
              ∙ map_push (faults_of (past.last + 1)) (take (length prefix) (named_from 0 named past.peers)) entry.0);
          same_last = ap (λ (p : Past). p.last) one.did.does.changed ∙ so_far.same_last;
          behind = λ rank all.
              let parts = all_more (λ (e : ℕ × PeerPast). e.0 < rank)
              (take (length prefix) (named_from 0 named past.peers)) entry.0
              (subst (AllByRecursion (λ (e : ℕ × PeerPast). e.0 < rank)) longer all) in
              ap (λ (p : Past). slice_get p.peers rank) one.did.does.changed
              ∙ get_set_other so_far.did.later.peers at.0 rank _ (subst (λ (n : ℕ). n < rank) next_rank parts.1)
              ∙ so_far.behind rank parts.0;
        }
      where
        some_once : {a b : PeerPast} → Some a ≡ Some b → a ≡ b
        some_once same = cc

    pub some_failed : (outputs : List OwedAt) (fault : Fault) (old new : Stations D g)
        → (so_far : OwedSome past token id named (length prefix) outputs old)
        → FailedOne so_far.did.later (Owes at.0 token id) fault new
        → Failed past (line_events token id named past) fault new
    some_failed outputs fault old new so_far one =
        let entry = next_of past named prefix at back found in
        let next_rank : entry.0.0 ≡ at.0 = ap (λ (e : ℕ × List ℕ). e.0) entry.2 in
        subst (λ (es : List Event). Failed past es fault new)
        (sym (sym (named_owes 0 token id named past.peers)
        ∙ map_split (owes_at token id) (named_from 0 named past.peers) (length prefix) entry.0 entry.1))
        (failed_next past (map (owes_at token id) (take (length prefix) (named_from 0 named past.peers)))
        (Owes entry.0.0 token id)
        (map (owes_at token id) (drop (suc (length prefix)) (named_from 0 named past.peers))) fault old new so_far.did
        (subst (λ (n : ℕ). FailedOne so_far.did.later (Owes n token id) fault new) (sym next_rank) one))

  -- it is owed at all of them
  pub some_all : (past : Past) (token id : List ℕ) (named : List (List ℕ)) (found : List (ℕ × List ℕ))
      (outputs : List OwedAt) (stations : Stations D g)
      → AreFound past named found → OwedSome past token id named (length found) outputs stations
      → OwedLine past token id named outputs stations
  some_all past token id named found outputs stations is owed =
      let long : length found ≡ length (named_from 0 named past.peers) =
      ap length is ∙ length-map (named_from 0 named past.peers) entry_of in
      let whole : take (length found) (named_from 0 named past.peers) ≡ named_from 0 named past.peers =
      take_all (length found) (named_from 0 named past.peers) (omega (arith, long)) in
      record {
        did = subst (λ (es : List Event). Did past es stations)
            (ap (map (owes_at token id)) whole ∙ named_owes 0 token id named past.peers) owed.did;
        outputs_are = owed.outputs_are ∙ ap (map (faults_of (past.last + 1))) whole
            ∙ named_outputs 0 (past.last + 1) named past.peers;
      }
