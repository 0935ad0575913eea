-- Which numbers a connection holds at its peer, and which it has itself, as its outcomes are taken.
use Rattle.std.proofs.Common.{◌≡◌, ◌↔◌, ℕ, zero, suc, ◌+◌, Bool, true, false, cond, Option, None, Some, List, [], ◌∷◌}
use Rattle.std.proofs.Common.{◌++◌, map, drop, refl, sym, ap, ◌∙◌, subst, inl, inr, arith}
use Rattle.std.specs.Prelude.{◌==◌, Contains, nat_lt, slice_get, if◌then◌else◌}
use Rattle.std.specs.List.{AllByRecursion, IsDistinct}
use Rattle.std.proofs.lemmas.Bool.{cases_eq, eq-eqb, eqb-true, ne_eqb}
use Rattle.std.proofs.lemmas.Map.Entries.{lookup-filter-keys}
use Rattle.ledger_core.specs.State.{Owing}
use Rattle.conn_core.specs.Commands.{Held}
use Rattle.conn_core.specs.History.{Event as Happening, Story, Taken, accepted, ended_tickets, held, held_from}
use Rattle.conn_core.specs.History.{outcomes, story, taken}
use Rattle.conn_core.specs.declared.options.Options.{Options}
use Rattle.conn_core.specs.declared.outcome.Outcome.{Outcome}
use Rattle.peer_queue.specs.DebtPlace.{DebtPlace, IsHeldBy, Places, gone, moved, place_at}
use Rattle.peer_queue.specs.Settled.{key_in}
use Rattle.sections.specs.ListLaws.{contains_first, contains_more}
use Rattle.world_core.specs.Past.{ConnPast}
use Rattle.world_core.specs.Exchange.{all_out, one_out, out_to, unsettled, waiting}
use Rattle.world_core.specs.Sound.{numbers_at}

-- ---- the elements of a list

pub contains_left : {X : Type 0} (xs ys : List X) (x : X) → Contains xs x → Contains (xs ++ ys) x
contains_left [] ys x (k, below, is) = absurd (omega (arith, below))
contains_left (y ∷ xs) ys x (zero, below, is) = (zero, omega arith, is)
contains_left (y ∷ xs) ys x (suc k, below, is) =
    contains_more (xs ++ ys) y x (contains_left xs ys x (k, omega (arith, below), is))

pub contains_less : {X : Type 0} (xs : List X) (x y : X) → (y ≡ x → ⊥) → Contains (x ∷ xs) y → Contains xs y
contains_less xs x y apart (zero, below, is) = absurd (apart (sym is))
contains_less xs x y apart (suc k, below, is) = (k, omega (arith, below), is)

apart_from : (n m : ℕ) (rest : List ℕ) → AllByRecursion (λ (y : ℕ). (n == y) ≡ false) rest → Contains rest m → n ≡ m → ⊥
apart_from n m [] all (k, below, is) same = absurd (omega (arith, below))
apart_from n m (x ∷ rest) all (zero, below, is) same = let yes = eq-eqb n x (same ∙ sym is) in let no = all.0 in cc
apart_from n m (x ∷ rest) all (suc k, below, is) same = apart_from n m rest all.1 (k, omega (arith, below), is) same

-- the first of distinct numbers is not among the others, which are distinct
pub first_apart : (n : ℕ) (rest : List ℕ) → IsDistinct (λ one other. one == other) (n ∷ rest) → Contains rest n → ⊥
unfolding IsDistinct
first_apart n rest distinct has = apart_from n n rest distinct.0 has refl

pub others_apart : (n : ℕ) (rest : List ℕ) → IsDistinct (λ one other. one == other) (n ∷ rest)
    → IsDistinct (λ one other. one == other) rest
unfolding IsDistinct
others_apart n rest distinct = distinct.1

-- ---- places

test_apart : (n m : ℕ) → (m ≡ n → ⊥) → (k : ℕ) → (k == m) ≡ true → (if k == n then false else true) ≡ true
test_apart n m apart k is =
    ap (λ (b : Bool). if b then false else true) (ne_eqb k n (λ same. apart (sym (eqb-true k m is) ∙ same)))

test_same : (n k : ℕ) → (k == n) ≡ true → (if k == n then false else true) ≡ false
test_same n k is = ap (λ (b : Bool). if b then false else true) is

-- if a number is gone, any other keeps its place
pub gone_other : (p : Places) (n m : ℕ) → (m ≡ n → ⊥) → place_at (gone p n) m ≡ place_at p m
gone_other p n m apart =
    lookup-filter-keys (λ (k : ℕ). k == m) (λ (k : ℕ). if k == n then false else true) true (test_apart n m apart) p

pub gone_none : (p : Places) (n : ℕ) → place_at (gone p n) n ≡ None
gone_none p n = lookup-filter-keys (λ (k : ℕ). k == n) (λ (k : ℕ). if k == n then false else true) false (test_same n) p

moved_other_step : (p : Places) (e : ℕ × DebtPlace) (n m : ℕ) (q : DebtPlace) (b : Bool) → (e.0 == n) ≡ b → (m ≡ n → ⊥)
    → place_at (moved p n q) m ≡ place_at p m
    → place_at ((if b then (n, q) else e) ∷ moved p n q) m ≡ place_at (e ∷ p) m
moved_other_step p e n m q true is apart rest =
    let here : (n == m) ≡ false = ne_eqb n m (λ same. apart (sym same)) in
    let there : (e.0 == m) ≡ false = ne_eqb e.0 m (λ same. apart (sym same ∙ eqb-true e.0 n is)) in
    ap (λ (b : Bool). cond b (Some q) (place_at (moved p n q) m)) here
    ∙ (rest ∙ sym (ap (λ (b : Bool). cond b (Some e.1) (place_at p m)) there))
moved_other_step p e n m q false is apart rest = ap (λ (o : Option DebtPlace). cond (e.0 == m) (Some e.1) o) rest

-- if a number moves, any other keeps its place
pub moved_other : (p : Places) (n m : ℕ) (q : DebtPlace) → (m ≡ n → ⊥) → place_at (moved p n q) m ≡ place_at p m
moved_other [] n m q apart = refl
moved_other (e ∷ p) n m q apart = moved_other_step p e n m q (e.0 == n) refl apart (moved_other p n m q apart)

moved_here_step : (p : Places) (e : ℕ × DebtPlace) (n : ℕ) (q x : DebtPlace) (b : Bool) → (e.0 == n) ≡ b
    → (place_at p n ≡ Some x → place_at (moved p n q) n ≡ Some q)
    → cond b (Some e.1) (place_at p n) ≡ Some x → place_at ((if b then (n, q) else e) ∷ moved p n q) n ≡ Some q
moved_here_step p e n q x true is rest here =
    ap (λ (b : Bool). cond b (Some q) (place_at (moved p n q) n)) (eq-eqb n n refl)
moved_here_step p e n q x false is rest here =
    ap (λ (b : Bool). cond b (Some e.1) (place_at (moved p n q) n)) is ∙ rest here

pub moved_here : (p : Places) (n : ℕ) (q x : DebtPlace) → place_at p n ≡ Some x → place_at (moved p n q) n ≡ Some q
moved_here [] n q x here = let never : None ≡ Some x = here in cc
moved_here (e ∷ p) n q x here = moved_here_step p e n q x (e.0 == n) refl (moved_here p n q x) here

-- ---- one number fewer

-- a connection that held these numbers holds all but the first once that one has another place, or none
pub held_less : (p q : Places) (id n : ℕ) (rest : List ℕ) → ((m : ℕ) → IsHeldBy p id m ↔ Contains (n ∷ rest) m)
    → (Contains rest n → ⊥)
    → ((m : ℕ) → (m ≡ n → ⊥) → place_at q m ≡ place_at p m) → (IsHeldBy q id n → ⊥) → (m : ℕ)
    → IsHeldBy q id m ↔ Contains rest m
held_less p q id n rest held once others gone m = elim (cases_eq m n) [
  | inl same ↦ (
    λ is. absurd (gone (subst (IsHeldBy q id) same is)),
    λ has. absurd (once (subst (Contains rest) same has)),
  )
  | inr apart ↦ (
    λ is. contains_less rest n m apart ((held m).0 (sym (others m apart) ∙ is)),
    λ has. others m apart ∙ (held m).1 (contains_more rest n m has),
  )
]

drop_next : {X : Type 0} (xs : List X) (n : ℕ) (x : X) → slice_get xs n ≡ Some x → drop n xs ≡ x ∷ drop (suc n) xs
drop_next [] zero x is = let never : None ≡ Some x = is in cc
drop_next [] (suc n) x is = let never : None ≡ Some x = is in cc
drop_next (y ∷ xs) zero x is = let same : y ≡ x = cc in ap (λ z. z ∷ xs) same
drop_next (y ∷ xs) (suc n) x is = drop_next xs n x is

-- ---- an outcome is taken, and goes to the peer

pub out_rank : (os : List Outcome) (conn : ConnPast) → (all_out os conn).rank ≡ conn.rank
out_rank [] conn = refl
out_rank (o ∷ os) conn = out_rank os (one_out conn)

module _ (options : Options) where
  story_taken : (h : List Happening) → story options (Taken ∷ h) ≡ story options h
  unfolding story
  story_taken h = refl

  story_out : (count : ℕ) (h : List Happening) → story options (out_to count h) ≡ story options h
  story_out count h = by (nat_lt (taken h) count)
    where
      by : (b : Bool) → story options (if b then Taken ∷ h else h) ≡ story options h
      by true = story_taken h
      by false = refl

  accepted_out : (count : ℕ) (h : List Happening) → accepted (out_to count h) ≡ accepted h
  accepted_out count h = by (nat_lt (taken h) count)
    where
      by : (b : Bool) → accepted (if b then Taken ∷ h else h) ≡ accepted h
      by true = refl
      by false = refl

  pub outcomes_out : (count : ℕ) (h : List Happening) → outcomes options (out_to count h) ≡ outcomes options h
  outcomes_out count h = ap (λ (s : Story). map (λ x. x.outcome) s.ends) (story_out count h)

  held_out : (count : ℕ) (h : List Happening) → held options (out_to count h) ≡ held options h
  held_out count h =
      ap (λ (s : Story). held_from 0 (accepted (out_to count h)) (ended_tickets s.ends)) (story_out count h)
      ∙ ap (λ (debts : List Owing). held_from 0 debts (ended_tickets (story options h).ends)) (accepted_out count h)

  -- it was the first of those that were left
  pub next_gone : (conn : ConnPast) (outcome : Outcome)
      → slice_get (outcomes options conn.transcript) conn.settled ≡ Some outcome
      → unsettled options conn ≡ outcome ∷ unsettled options (one_out conn)
  next_gone conn outcome next =
      let more : suc conn.settled ≡ conn.settled + 1 = omega arith in
      drop_next (outcomes options conn.transcript) conn.settled outcome next
      ∙ ap (λ (l : List Outcome). outcome ∷ l)
      (ap (λ (n : ℕ). drop n (outcomes options conn.transcript)) more
      ∙ ap (λ (os : List Outcome). drop (conn.settled + 1) os)
      (sym (outcomes_out (conn.settled + 1) conn.transcript)))

  -- its number was the first of the connection's
  pub numbers_gone : (conn : ConnPast) (outcome : Outcome)
      → unsettled options conn ≡ outcome ∷ unsettled options (one_out conn)
      → numbers_at options conn ≡ key_in outcome ∷ numbers_at options (one_out conn)
  numbers_gone conn outcome next =
      ap (λ (os : List Outcome). map key_in os ++ map (λ (x : Held). x.debt.0) (held options conn.transcript)) next
      ∙ ap (λ (xs : List Held).
      key_in outcome ∷ (map key_in (unsettled options (one_out conn)) ++ map (λ (x : Held). x.debt.0) xs))
      (sym (held_out (conn.settled + 1) conn.transcript))

  -- if it is taken, but waits, the connection keeps its numbers
  pub numbers_wait : (conn : ConnPast) → numbers_at options (waiting conn) ≡ numbers_at options conn
  numbers_wait conn =
      ap (λ (os : List Outcome).
      map key_in (drop conn.settled os) ++ map (λ (x : Held). x.debt.0) (held options (waiting conn).transcript))
      (outcomes_out (conn.settled + 1) conn.transcript)
      ∙ ap (λ (xs : List Held). map key_in (unsettled options conn) ++ map (λ (x : Held). x.debt.0) xs)
      (held_out (conn.settled + 1) conn.transcript)
