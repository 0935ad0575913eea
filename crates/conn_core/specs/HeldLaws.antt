-- The debts held, by ticket: each that was accepted and has not come out.
use Rattle.std.proofs.Common.{◌≡◌, ℕ, ◌+◌, ◌<◌, ◌≤◌, Bool, true, false, List, [], ◌∷◌, ◌++◌, length, refl, sym, ap}
use Rattle.std.proofs.Common.{◌∙◌, arith, find, Option, Some, cond, map, inl, inr}
use Rattle.std.specs.Prelude.{◌==◌, ◌||◌, if◌then◌else◌}
use Rattle.std.specs.Set.{remove_key}
use Rattle.std.proofs.Math.Bool.{or-false}
use Rattle.std.proofs.lemmas.Bool.{ne_eqb, eq-eqb, eqb-true, false≢true, cases_lt}
use Rattle.std.proofs.lemmas.Bool.Decides.{eqb_tells}
use Rattle.conn_core.specs.Used.{has}
use Rattle.conn_core.specs.Commands.{Held, is_at}
use Rattle.conn_core.specs.History.{held_from, ended_tickets, backs}
use Rattle.ledger_core.specs.State.{Owing}
use Rattle.conn_core.specs.UsedLaws.{AllBelow}

or-step : (a b c d : Bool) → b ≡ (c || d) → (a || b) ≡ ((a || c) || d)
or-step true b c d e = refl
or-step false b c d e = e

or-true : (b : Bool) → (b || true) ≡ true
or-true true = refl
or-true false = refl

pub has-append : (gone more : List ℕ) (n : ℕ) → has (gone ++ more) n ≡ (has gone n || has more n)
has-append [] more n = refl
has-append (x ∷ gone) more n = or-step (x == n) _ (has gone n) _ (has-append gone more n)

pub has-append_other : (gone : List ℕ) (k n : ℕ) → (k ≡ n → ⊥) → has (gone ++ k ∷ []) n ≡ has gone n
has-append_other gone k n other = rw (has-append gone (k ∷ []) n, ne_eqb k n other) (or-false _)

pub has-append_same : (gone : List ℕ) (n : ℕ) → has (gone ++ n ∷ []) n ≡ true
has-append_same gone n = rw (has-append gone (n ∷ []) n, eq-eqb n n refl) (or-true _)

append-step : (b : Bool) (y : Held) (left more rest : List Held) → more ≡ left ++ rest
    → (if b then more else y ∷ more) ≡ (if b then left else y ∷ left) ++ rest
append-step true y left more rest e = e
append-step false y left more rest e = ap (λ ys. y ∷ ys) e

-- one more debt is held, the last
pub held_from-append : (gone : List ℕ) (n : ℕ) (debts : List Owing) (debt : Owing) (m : ℕ) → m ≡ n + length debts
    → AllBelow gone m
    → held_from n (debts ++ debt ∷ []) gone ≡ held_from n debts gone ++ record { ticket = m; debt = debt } ∷ []
held_from-append gone n [] debt m e below =
    let same : n ≡ m = omega arith in
    rw (below n (omega arith)) (ap (λ p. record { ticket = p; debt = debt } ∷ []) same)
held_from-append gone n (d ∷ debts) debt m e below =
    append-step (has gone n) _ _ _ _ (held_from-append gone (n + 1) debts debt m (omega arith) below)

skip-step : (b c : Bool) (y : Held) (left other : List Held) → c ≡ b → other ≡ left
    → (if c then other else y ∷ other) ≡ (if b then left else y ∷ left)
skip-step b c y left other e same = cc

-- an earlier ticket changes nothing
held_from-earlier : (k : ℕ) (gone : List ℕ) (n : ℕ) (debts : List Owing) → k < n
    → held_from n debts (gone ++ k ∷ []) ≡ held_from n debts gone
held_from-earlier k gone n [] h = refl
held_from-earlier k gone n (d ∷ debts) h =
    skip-step (has gone n) (has (gone ++ k ∷ []) n) _ _ _ (has-append_other gone k n (λ e. omega arith)) (held_from-earlier k gone (n + 1) debts (omega arith))

none-step : (b : Bool) (k : ℕ) (y : Held) (left : List Held) → (y.ticket ≡ k → ⊥) → remove_key (is_at k) left ≡ left
    → remove_key (is_at k) (if b then left else y ∷ left) ≡ (if b then left else y ∷ left)
none-step true k y left other e = e
none-step false k y left other e = rw (ne_eqb y.ticket k other) (ap (λ ys. y ∷ ys) e)

-- and there is no debt at an earlier ticket
remove_key-earlier : (k : ℕ) (gone : List ℕ) (n : ℕ) (debts : List Owing) → k < n
    → remove_key (is_at k) (held_from n debts gone) ≡ held_from n debts gone
remove_key-earlier k gone n [] h = refl
remove_key-earlier k gone n (d ∷ debts) h =
    none-step (has gone n) k _ _ (λ e. omega arith) (remove_key-earlier k gone (n + 1) debts (omega arith))

remove-step : (b c : Bool) (k : ℕ) (y : Held) (left other : List Held)
    → (y.ticket ≡ k → (c ≡ true) × (other ≡ left) × (remove_key (is_at k) left ≡ left))
    → ((y.ticket ≡ k → ⊥) → (c ≡ b) × (other ≡ remove_key (is_at k) left))
    → (if c then other else y ∷ other) ≡ remove_key (is_at k) (if b then left else y ∷ left)
remove-step b c k y left other here there =
    let R : Type 0 = (if c then other else y ∷ other) ≡ remove_key (is_at k) (if b then left else y ∷ left) in
    elim (eqb_tells y.ticket k) as (λ _. R) [
      | inl same ↦ (let p = here same.1 in rw p.0 (elim b as (λ v. other ≡ remove_key (is_at k) (if v then left else y ∷ left)) [ true ↦ p.1 ∙ sym p.2 | false ↦ rw same.0 p.1 ]))
      | inr other_ticket ↦ (let p = there other_ticket.1 in rw p.0 (elim b as (λ v. (if v then other else y ∷ other) ≡ remove_key (is_at k) (if v then left else y ∷ left)) [ true ↦ p.1 | false ↦ rw other_ticket.0 (ap (λ ys. y ∷ ys) p.1) ]))
    ]

-- one debt fewer is held
pub held_from-gone : (k : ℕ) (gone : List ℕ) (n : ℕ) (debts : List Owing)
    → held_from n debts (gone ++ k ∷ []) ≡ remove_key (is_at k) (held_from n debts gone)
held_from-gone k gone n [] = refl
held_from-gone k gone n (d ∷ debts) =
    remove-step (has gone n) (has (gone ++ k ∷ []) n) k _ _ _
    (λ same. (rw same (has-append_same gone k), held_from-earlier k gone (n + 1) debts (omega arith), remove_key-earlier k gone (n + 1) debts (omega arith)))
    (λ other. (has-append_other gone k n (λ e. other (sym e)), held_from-gone k gone (n + 1) debts))

-- the tickets of debts
abbrev pub tickets : List Held → List ℕ
tickets held = map (λ x. x.ticket) held

below-step : (b : Bool) (y : Held) (left : List Held) (m : ℕ) → y.ticket < m → AllBelow (tickets left) m
    → AllBelow (tickets (if b then left else y ∷ left)) m
below-step true y left m h below = below
below-step false y left m h below = λ k q. rw (ne_eqb y.ticket k (λ e. omega arith)) (below k q)

pub held_from-below : (gone : List ℕ) (n : ℕ) (debts : List Owing) (m : ℕ) → m ≡ n + length debts
    → AllBelow (tickets (held_from n debts gone)) m
held_from-below gone n [] m e = λ k q. refl
held_from-below gone n (d ∷ debts) m e = below-step (has gone n) _ _ m (omega arith) (held_from-below gone (n + 1) debts m (omega arith))

pub ended_tickets-backs : (held : List Held) → ended_tickets (backs held) ≡ tickets held
ended_tickets-backs [] = refl
ended_tickets-backs (x ∷ held) = ap (λ ps. x.ticket ∷ ps) (ended_tickets-backs held)

found-step : (b : Bool) (k : ℕ) (y x : Held) (rest : Option Held) (more : Bool) → (y.ticket == k) ≡ b
    → cond b (Some y) rest ≡ Some x → (rest ≡ Some x → (x.ticket ≡ k) × (more ≡ true))
    → (x.ticket ≡ k) × ((b || more) ≡ true)
found-step true k y x rest more e f later = let same : y ≡ x = cc in (ap (λ (z : Held). z.ticket) (sym same) ∙ eqb-true y.ticket k e, refl)
found-step false k y x rest more e f later = later f

-- a debt found at a ticket is at that ticket, and that ticket is among those held
pub find-is_at : (k : ℕ) (held : List Held) (x : Held) → find (is_at k) held ≡ Some x
    → (x.ticket ≡ k) × (has (tickets held) k ≡ true)
find-is_at k [] x e = cc
find-is_at k (y ∷ held) x e = found-step (y.ticket == k) k y x _ _ refl e (find-is_at k held x)

-- so it is below the number of debts accepted
pub find-below : (k : ℕ) (held : List Held) (x : Held) (m : ℕ) → AllBelow (tickets held) m
    → find (is_at k) held ≡ Some x → x.ticket < m
find-below k held x m below e =
    let p = find-is_at k held x e in
    elim (cases_lt x.ticket m) [ inl lt ↦ lt | inr ge ↦ absurd (false≢true (sym (below k (omega arith)) ∙ p.1)) ]

pub AllBelow-append : (xs ys : List ℕ) (m : ℕ) → AllBelow xs m → AllBelow ys m → AllBelow (xs ++ ys) m
AllBelow-append xs ys m p q k h = rw (has-append xs ys k, p k h) (q k h)

-- a debt accepted that has not come out is held
in-step : (b c : Bool) (y : Held) (left : List Held) (ticket : ℕ) → (y.ticket ≡ ticket → b ≡ false)
    → ((y.ticket ≡ ticket → ⊥) → has (tickets left) ticket ≡ true)
    → has (tickets (if b then left else y ∷ left)) ticket ≡ true
in-step b c y left ticket here there =
    elim (eqb_tells y.ticket ticket) [
      | inl same ↦ rw (here same.1, same.0) refl
      | inr other ↦ (let h : has (tickets left) ticket ≡ true = there other.1 in
          elim b as (λ v. has (tickets (if v then left else y ∷ left)) ticket ≡ true) [ true ↦ h | false ↦ rw other.0 h ])
    ]

pub in-held : (gone : List ℕ) (n : ℕ) (debts : List Owing) (ticket : ℕ) → n ≤ ticket → ticket < n + length debts
    → has gone ticket ≡ false
    → has (tickets (held_from n debts gone)) ticket ≡ true
in-held gone n [] ticket low high e = absurd (omega arith)
in-held gone n (d ∷ debts) ticket low high e =
    in-step (has gone n) false _ _ ticket (λ same. rw same e) (λ other. in-held gone (n + 1) debts ticket (omega arith) (omega arith) e)
