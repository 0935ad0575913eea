-- Whatever happens on a connection keeps it tied to its peer, also if one of its outcomes waits.
use Rattle.std.proofs.Common.{◌≡◌, inl, inr, ℕ, zero, suc, ◌+◌, ◌≤◌, Bool, true, false, Option, None, Some, List, []}
use Rattle.std.proofs.Common.{◌∷◌, ◌++◌, length, refl, sym, ap, ◌∙◌, subst, arith}
use Rattle.std.specs.Prelude.{◌==◌, Contains, if◌then◌else◌, slice_get}
use Rattle.std.specs.List.{AllByRecursion, IsDistinct}
use Rattle.std.proofs.lemmas.Bool.{cases_eq, cases_lt, eq-eqb, eqb-true}
use Rattle.disk_model.specs.declared.Disk.{Ghosts}
use Rattle.feed_conf.specs.declared.conf.PeerConf.{PeerConf}
use Rattle.ledger_core.specs.State.{Owing}
use Rattle.conn_core.specs.History.{Event, Offered, after, outcomes, taken}
use Rattle.conn_core.specs.Stands.{Arises, StandsFor as ConnStands}
use Rattle.conn_core.specs.State.{Holding}
use Rattle.conn_core.specs.Used.{times}
use Rattle.conn_core.specs.declared.options.Options.{Options}
use Rattle.conn_core.specs.declared.outcome.Outcome.{Outcome}
use Rattle.peer_queue.specs.DebtPlace.{IsHeldBy, place_at}
use Rattle.sections.specs.ListLaws.{contains_first, contains_more}
use Rattle.world_core.specs.Past.{ConnPast, PeerPast, options_of}
use Rattle.world_core.specs.Exchange.{with_transcript}
use Rattle.world_core.specs.Pairs.{IsTied, PairStands}
use Rattle.world_core.specs.Sound.{numbers_at}
use Rattle.world_core.specs.Stands.{HoldsTranscript, WaitsWith}
use Rattle.world_core.specs.declared.connection.Connection.{Connection}
use Rattle.world_core.specs.declared.peer.Peer.{Peer}
use Rattle.world_core.proofs.HeldOrOutcome.{GoesOn, goes_offered, outcomes_are, outcomes_offered, same_numbers}
use Rattle.world_core.proofs.HeldNumbers.{contains_less}

-- ---- how often each number occurs

has_step : (b : Bool) (x m : ℕ) (xs : List ℕ) → (x == m) ≡ b → 1 ≤ (if b then 1 else 0) + times xs m
    → (1 ≤ times xs m → Contains xs m) → Contains (x ∷ xs) m
has_step true x m xs is some rest = subst (λ y. Contains (x ∷ xs) y) (eqb-true x m is) (contains_first xs x)
has_step false x m xs is some rest = contains_more xs x m (rest (omega (arith, some)))

has_times : (xs : List ℕ) (m : ℕ) → 1 ≤ times xs m → Contains xs m
has_times [] m some = absurd (omega (arith, some))
has_times (x ∷ xs) m some = has_step (x == m) x m xs refl some (has_times xs m)

times_step : (b : Bool) (x m : ℕ) → (x == m) ≡ b → x ≡ m → 1 ≤ (if b then 1 else 0)
times_step true x m is same = omega arith
times_step false x m is same = let yes = eq-eqb x m same in cc

times_has : (xs : List ℕ) (m : ℕ) → Contains xs m → 1 ≤ times xs m
times_has [] m (k, below, is) = absurd (omega (arith, below))
times_has (x ∷ xs) m (zero, below, is) = omega (arith, times_step (x == m) x m refl is)
times_has (x ∷ xs) m (suc k, below, is) = omega (arith, times_has xs m (k, omega (arith, below), is))

apart_step : (b : Bool) (x y : ℕ) (xs : List ℕ) → (x == y) ≡ b → (1 ≤ times (y ∷ xs) y) → times (x ∷ (y ∷ xs)) y ≤ 1
    → b ≡ false
apart_step true x y xs is here once = let both = eqb-true x y is in
    absurd (omega (arith, here, ap {B = ℕ} (λ (b : Bool). if b then 1 else 0) is, once))
apart_step false x y xs is here once = refl

more_once : (x y : ℕ) (xs : List ℕ) → ((m : ℕ) → times (x ∷ (y ∷ xs)) m ≤ 1) → (m : ℕ) → times (x ∷ xs) m ≤ 1
more_once x y xs once m = omega (arith, once m)

all_apart : (x : ℕ) (xs : List ℕ) → ((m : ℕ) → times (x ∷ xs) m ≤ 1) → AllByRecursion (λ (y : ℕ). (x == y) ≡ false) xs
all_apart x [] once = tt
all_apart x (y ∷ xs) once = (
  apart_step (x == y) x y xs refl (times_has (y ∷ xs) y (contains_first xs y)) (once y),
  all_apart x xs (more_once x y xs once),
)

distinct_times : (xs : List ℕ) → ((m : ℕ) → times xs m ≤ 1) → IsDistinct (λ one other. one == other) xs
unfolding IsDistinct
distinct_times [] once = tt
distinct_times (x ∷ xs) once = (all_apart x xs once, distinct_times xs (λ m. omega (arith, once m)))

none_times : (x : ℕ) (xs : List ℕ) → AllByRecursion (λ (y : ℕ). (x == y) ≡ false) xs → times xs x ≡ 0
none_times x [] all = refl
none_times x (y ∷ xs) all =
    let not : (y == x) ≡ false = not_back (y == x) refl in
    rw (not) (omega (arith, none_times x xs all.1))
  where
    not_back : (b : Bool) → (y == x) ≡ b → b ≡ false
    not_back true is = let yes = eq-eqb x y (sym (eqb-true y x is)) in let no = all.0 in cc
    not_back false is = refl

once_step : (b : Bool) (x m : ℕ) (xs : List ℕ) → (x == m) ≡ b → times xs x ≡ 0 → times xs m ≤ 1
    → (if b then 1 else 0) + times xs m ≤ 1
once_step true x m xs is none once =
    let same = ap (times xs) (eqb-true x m is) in
    omega (arith, same, none)
once_step false x m xs is none once = omega (arith, once)

times_distinct : (xs : List ℕ) → IsDistinct (λ one other. one == other) xs → (m : ℕ) → times xs m ≤ 1
unfolding IsDistinct
times_distinct [] distinct m = omega arith
times_distinct (x ∷ xs) distinct m =
    once_step (x == m) x m xs refl (none_times x xs distinct.0) (times_distinct xs distinct.1 m)

-- the same numbers, as often
pub tied_goes : (id : ℕ) (conn later : ConnPast) (peer : PeerPast)
    → ((m : ℕ) → times (numbers_at (options_of peer.conf) later) m
    ≡ times (numbers_at (options_of peer.conf) conn) m)
    → IsTied id conn peer → IsTied id later peer
tied_goes id conn later peer same tied = record {
  held = λ m. (
    λ is. has_times _ m (omega (arith, times_has _ m ((tied.held m).0 is), same m)),
    λ has. (tied.held m).1 (has_times _ m (omega (arith, times_has _ m has, same m))),
  );
  once = distinct_times _ (λ m. omega (arith, times_distinct _ tied.once m, same m));
}

none_of : (xs : List ℕ) (n : ℕ) → (Contains xs n → ⊥) → times xs n ≡ 0
none_of xs n absent = elim (cases_lt 0 (times xs n)) [
  | inl some ↦ absurd (absent (has_times xs n (omega (arith, some))))
  | inr none ↦ omega (arith, none)
]

head_times : (n m : ℕ) (xs : List ℕ) → Contains xs m → 1 ≤ times (n ∷ xs) m
head_times n m xs has = times_has (n ∷ xs) m (contains_more xs n m has)

-- one more number, which the connection now holds, and which no connection held
pub tied_more : (id n : ℕ) (conn later : ConnPast) (peer now : PeerPast)
    → ((m : ℕ) → times (numbers_at (options_of now.conf) later) m
    ≡ times (n ∷ numbers_at (options_of peer.conf) conn) m)
    → (IsHeldBy peer.places id n → ⊥) → IsHeldBy now.places id n
    → ((m : ℕ) → (m ≡ n → ⊥) → place_at now.places m ≡ place_at peer.places m) → IsTied id conn peer
    → IsTied id later now
tied_more id n conn later peer now same free held others tied =
    let nums = numbers_at (options_of peer.conf) conn in
    let absent : Contains nums n → ⊥ = λ has. free ((tied.held n).1 has) in
    record {
      held = λ m. elim (cases_eq m n) [
        | inl here ↦ (
          λ is. has_times _ m (omega (
            arith,
            times_has (n ∷ nums) m (subst (Contains (n ∷ nums)) (sym here) (contains_first nums n)),
            same m,
          )),
          λ has. subst (IsHeldBy now.places id) (sym here) held,
        )
        | inr apart ↦ (
          λ is. has_times _ m (omega (
            arith,
            head_times n m nums ((tied.held m).0 (sym (others m apart) ∙ is)),
            same m,
          )),
          λ has. others m apart ∙ (tied.held m).1
              (contains_less nums n m apart (has_times (n ∷ nums) m (omega (arith, times_has _ m has, same m)))),
        )
      ];
      once = distinct_times _ (λ m. omega (
        arith,
        once_step (n == m) n m nums refl (none_of nums n absent) (times_distinct nums tied.once m),
        same m,
      ));
    }

-- ---- the outcomes of a connection

get_more : {A : Type 0} (xs ys : List A) (n : ℕ) (x : A) → slice_get xs n ≡ Some x → slice_get (xs ++ ys) n ≡ Some x
get_more [] ys n x is = let never : None ≡ Some x = is in cc
get_more (y ∷ xs) ys zero x is = is
get_more (y ∷ xs) ys (suc n) x is = get_more xs ys n x is

-- a connection stands only for what can have come about, and no more outcomes are taken than came out
pub stands_arise : (o : Options) (c : Holding) (unread : List ℕ) (h : List Event) → ConnStands o c unread h
    → Arises o h × (taken h ≤ length (outcomes o h))
unfolding ConnStands
stands_arise o c unread h stands = (stands.0, stands.2.taken_few)

-- nor have more gone to the peer
pub settled_few : (conf : PeerConf) (conn : ConnPast) (c : Connection) (waits : Option Outcome)
    → HoldsTranscript conf conn c → WaitsWith conf conn waits
    → conn.settled ≤ length (outcomes (options_of conf) conn.transcript)
settled_few conf conn c None holds is =
    omega (arith, is, (stands_arise (options_of conf) c.conn conn.unread conn.transcript holds).1)
settled_few conf conn c (Some outcome) holds is =
    omega (arith, is.0, (stands_arise (options_of conf) c.conn conn.unread conn.transcript holds).1)

waits_on : (conf : PeerConf) (conn later : ConnPast) (waits : Option Outcome) → later.settled ≡ conn.settled
    → GoesOn (options_of conf) conn.transcript later.transcript → WaitsWith conf conn waits
    → WaitsWith conf later waits
waits_on conf conn later None still goes is = still ∙ (is ∙ sym goes.taken_is)
waits_on conf conn later (Some outcome) still goes is = (
  ap (λ n. n + 1) still ∙ (is.0 ∙ sym goes.taken_is),
  ap (slice_get (outcomes (options_of conf) later.transcript)) still
      ∙ (ap (λ os. slice_get os conn.settled) (outcomes_are (options_of conf) conn.transcript later.transcript goes)
      ∙ get_more (outcomes (options_of conf) conn.transcript) _ conn.settled outcome is.1),
)

-- a debt was accepted
pub waits_offered : (conf : PeerConf) (conn : ConnPast) (debt : Owing) (waits : Option Outcome)
    → WaitsWith conf conn waits
    → WaitsWith conf (with_transcript conn (after (options_of conf) conn.transcript (Offered debt))) waits
waits_offered conf conn debt waits is =
    let o = options_of conf in
    let h = conn.transcript in
    waits_on conf (with_transcript conn (Offered debt ∷ h)) (with_transcript conn (after o h (Offered debt))) waits
    refl (goes_offered o h debt) (first waits is)
  where
    first : (w : Option Outcome) → WaitsWith conf conn w
        → WaitsWith conf (with_transcript conn (Offered debt ∷ conn.transcript)) w
    first None is = is
    first (Some outcome) is =
        (is.0, ap (λ os. slice_get os conn.settled) (outcomes_offered (options_of conf) conn.transcript debt) ∙ is.1)

-- ---- the connection and its peer

module _ {D : Type 0} {g : Ghosts D} where
  pub pair_on : (id : ℕ) (conn later : ConnPast) (past : PeerPast) (old new : Connection) (peer : Peer D g)
      → PairStands id conn past old peer
      → later.rank ≡ conn.rank → later.settled ≡ conn.settled
      → GoesOn (options_of past.conf) conn.transcript later.transcript
      → HoldsTranscript past.conf later new → new.waiting ≡ old.waiting → new.rank ≡ old.rank
      → new.conn.id ≡ old.conn.id
      → PairStands id later past new peer
  pair_on id conn later past old new peer pair at still goes holds waits rank same_id = record {
    id_is = ap (λ i. i.0) same_id ∙ pair.id_is;
    rank = rank ∙ (pair.rank ∙ sym at);
    holds = holds;
    waits = subst (WaitsWith past.conf later) (sym waits)
        (waits_on past.conf conn later old.waiting still goes pair.waits);
    stands = pair.stands;
    tied = tied_goes id conn later past
        (same_numbers (options_of past.conf) conn later still goes
        (settled_few past.conf conn old old.waiting pair.holds pair.waits)) pair.tied;
  }
