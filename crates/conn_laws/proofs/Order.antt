-- What was found comes out first; what comes back at the close follows it, in the order offered.
use Rattle.std.proofs.Common.{◌≡◌, ℕ, suc, zero, ◌+◌, ◌<◌, ◌≤◌, Bool, true, false, List, [], ◌∷◌, ◌++◌, refl, sym, ap}
use Rattle.std.proofs.Common.{◌∙◌, arith, find, Option, Some, None, append_assoc, append-nil}
use Rattle.std.specs.Prelude.{if◌then◌else◌, slice_index}
use Rattle.std.specs.List.{AllByRecursion}
use Rattle.std.specs.List.Sorted.{IsStrictlyIncreasing}
use Rattle.ledger_core.specs.State.{Owing}
use Rattle.conn_core.specs.Codes.{meaning}
use Rattle.conn_core.specs.Used.{has}
use Rattle.conn_core.specs.Commands.{Ask, Held, Handing, Sendable, Gone, Unsendable, is_at}
use Rattle.conn_core.specs.History.{Event, Offered, Put, Came, Faulted, Handed, Sent, Tick, Broke, Leave, Taken}
use Rattle.conn_core.specs.History.{accepted, answered_ask, backs, closes, End, ended_tickets, ends, ends_at_close}
use Rattle.conn_core.specs.History.{ends_by_answer, ends_by_loss, ends_by_meaning, first_reason, held, held_from}
use Rattle.conn_core.specs.History.{held_wanting, reason, story}
use Rattle.conn_core.specs.Stands.{Arises}
use Rattle.conn_core.specs.declared.options.Options.{Options}
use Rattle.conn_core.specs.declared.reason.Reason.{Reason}
use Rattle.conn_core.specs.declared.codes.Meaning.{Meaning}
use Rattle.conn_core.specs.declared.codes.Meaning.TheVariants.{Wanted, SendBlock, Later, Final}
use Rattle.conn_core.specs.ClosingLaws.{first_reason-none}
use Rattle.conn_core.specs.HeldLaws.{tickets, ended_tickets-backs}
use Rattle.conn_laws.specs.Laws.{ReturnsLast, is_back}
use Rattle.conn_core.specs.UsedLaws.{All-append}
use Rattle.conn_laws.proofs.Once.{ends_by, ends-more}
use Rattle.conn_laws.proofs.Arising.{IsQuiet, of-arising, quiet-closes, quiet-ends}

-- each ticket is above those before it, and none is below n
abbrev RisesFrom : ℕ → List ℕ → Type 0
RisesFrom n [] = Unit {0}
RisesFrom n (x ∷ xs) = (n ≤ x) × RisesFrom (x + 1) xs

rises-lower : (m n : ℕ) (xs : List ℕ) → m ≤ n → RisesFrom n xs → RisesFrom m xs
rises-lower m n [] low r = tt
rises-lower m n (x ∷ xs) low r = let above = r.0 in (omega (arith, above), r.1)

increasing : (n : ℕ) (xs : List ℕ) → RisesFrom n xs → IsStrictlyIncreasing xs
increasing n [] r k few = absurd (omega arith)
increasing n (x ∷ []) r k few = absurd (omega arith)
increasing n (x ∷ y ∷ xs) r zero few = let above = r.1.0 in omega (arith, above)
increasing n (x ∷ y ∷ xs) r (suc k) few =
    let later : slice_index (y ∷ xs) k < slice_index (y ∷ xs) (k + 1) =
    increasing (x + 1) (y ∷ xs) r.1 k (omega arith) in
    let here : k + 1 ≡ suc k = omega arith in
    let there : suc k + 1 ≡ suc (suc k) = omega arith in
    let next : slice_index (y ∷ xs) k < slice_index (y ∷ xs) (suc k) = rw here at later in
    rw there next

rises-step : (b : Bool) (n : ℕ) (debt : Owing) (left : List Held) → RisesFrom (n + 1) (tickets left)
    → RisesFrom n (tickets (if b then left else record { ticket = n; debt = debt } ∷ left))
rises-step true n debt left r = rises-lower n (n + 1) (tickets left) (omega arith) r
rises-step false n debt left r = (omega arith, r)

held-rises : (gone : List ℕ) (n : ℕ) (debts : List Owing) → RisesFrom n (tickets (held_from n debts gone))
held-rises gone n [] = tt
held-rises gone n (debt ∷ debts) = rises-step (has gone n) n debt _ (held-rises gone (n + 1) debts)

close-rises : (o : Option Reason) (gone : List ℕ) (debts : List Owing)
    → IsStrictlyIncreasing (ended_tickets (ends_at_close o (held_from 0 debts gone)))
close-rises None gone debts = increasing 0 [] tt
close-rises (Some why) gone debts =
    rw (ended_tickets-backs (held_from 0 debts gone))
    (increasing 0 (tickets (held_from 0 debts gone)) (held-rises gone 0 debts))

abbrev IsFound : End → Type 0
IsFound x = is_back x.outcome ≡ false

abbrev IsReturn : End → Type 0
IsReturn x = is_back x.outcome ≡ true

backs-return : (hs : List Held) → AllByRecursion IsReturn (backs hs)
backs-return [] = tt
backs-return (x ∷ hs) = (refl, backs-return hs)

close-returns : (o : Option Reason) (hs : List Held) → AllByRecursion IsReturn (ends_at_close o hs)
close-returns None hs = tt
close-returns (Some why) hs = backs-return hs

meaning-found : (m : Option Meaning) (o : Option Held) → AllByRecursion IsFound (ends_by_meaning m o)
meaning-found m None = tt
meaning-found None (Some x) = tt
meaning-found (Some Wanted) (Some x) = tt
meaning-found (Some SendBlock) (Some x) = tt
meaning-found (Some Later) (Some x) = (refl, tt)
meaning-found (Some (Final code)) (Some x) = (refl, tt)

answer-found : (hs : List Held) (code : ℕ) (o : Option (ℕ × Ask)) → AllByRecursion IsFound (ends_by_answer hs code o)
answer-found hs code None = tt
answer-found hs code (Some command) = meaning-found (meaning command.1.verb code) (find (is_at command.1.ticket) hs)

loss-found : (handing : Handing) (o : Option Held) → AllByRecursion IsFound (ends_by_loss handing o)
loss-found handing None = tt
loss-found (Sendable block) (Some x) = tt
loss-found Gone (Some x) = (refl, tt)
loss-found Unsendable (Some x) = (refl, tt)

-- what an event brings out, apart from the close
abbrev found_by : Options → List Event → Event → List End
found_by options h (Came reply) = ends_by_answer (held options h) reply.code (answered_ask options h reply)
found_by options h (Handed number handing) = ends_by_loss handing (held_wanting h (story options h) number)
found_by options h (Offered debt) = []
found_by options h (Put command) = []
found_by options h (Faulted fault) = []
found_by options h (Sent count) = []
found_by options h (Tick now) = []
found_by options h Broke = []
found_by options h Leave = []
found_by options h Taken = []

in-parts : (options : Options) (h : List Event) (e : Event)
    → ends_by options h e ≡ found_by options h e ++ ends_at_close (closes options h e) (held options h)
in-parts options h (Came reply) = refl
in-parts options h (Handed number handing) =
    sym (append-nil (ends_by_loss handing (held_wanting h (story options h) number)))
in-parts options h (Offered debt) = refl
in-parts options h (Put command) = refl
in-parts options h (Faulted fault) = refl
in-parts options h (Sent count) = refl
in-parts options h (Tick now) = refl
in-parts options h Broke = refl
in-parts options h Leave = refl
in-parts options h Taken = refl

by-found : (options : Options) (h : List Event) (e : Event) → AllByRecursion IsFound (found_by options h e)
by-found options h (Came reply) = answer-found (held options h) reply.code (answered_ask options h reply)
by-found options h (Handed number handing) = loss-found handing (held_wanting h (story options h) number)
by-found options h (Offered debt) = tt
by-found options h (Put command) = tt
by-found options h (Faulted fault) = tt
by-found options h (Sent count) = tt
by-found options h (Tick now) = tt
by-found options h Broke = tt
by-found options h Leave = tt
by-found options h Taken = tt

still-none : (old now : Option Reason) → old ≡ None → first_reason old now ≡ None → now ≡ None
still-none None now e f = f
still-none (Some why) now e f = cc

none-back : (o : Option Reason) (hs : List Held) → o ≡ None → ends_at_close o hs ≡ []
none-back None hs e = refl
none-back (Some why) hs e = cc

order-open : (options : Options) (h : List Event) (e : Event) → reason options h ≡ None → ReturnsLast options h
    → ReturnsLast options (e ∷ h)
order-open options h e running r =
    let back : List End = ends_at_close (closes options h e) (held options h) in
    let found : List End = found_by options h e in
    let before : ends options h ≡ r.found =
    r.split ∙ ap (λ xs. r.found ++ xs) (r.while_open running) ∙ append-nil r.found in
    record {
      found = r.found ++ found_by options h e;
      returned = ends_at_close (closes options h e) (held options h);
      split = ends-more options h e ∙ ap (λ xs. xs ++ ends_by options h e) before
          ∙ ap (λ xs. r.found ++ xs) (in-parts options h e)
          ∙ sym (append_assoc r.found (found_by options h e) (ends_at_close (closes options h e) (held options h)));
      none_back = All-append IsFound r.found (found_by options h e) r.none_back (by-found options h e);
      all_back = close-returns (closes options h e) (held options h);
      in_order = close-rises (closes options h e) (ended_tickets (ends options h)) (accepted h);
      while_open =
          λ still. none-back (closes options h e) (held options h)
          (still-none (reason options h) (closes options h e) running still);
    }

order-quiet : (options : Options) (h : List Event) (e : Event) → IsQuiet e → ReturnsLast options h
    → ReturnsLast options (e ∷ h)
order-quiet options h e q r = record {
  found = r.found;
  returned = r.returned;
  split = ends-more options h e ∙ ap (λ xs. ends options h ++ xs) (quiet-ends options h e q)
      ∙ append-nil (ends options h) ∙ r.split;
  none_back = r.none_back;
  all_back = r.all_back;
  in_order = r.in_order;
  while_open =
      λ still. r.while_open
      (sym (first_reason-none (reason options h))
      ∙ ap (λ (o : Option Reason). first_reason (reason options h) o) (sym (quiet-closes options h e q)) ∙ still);
}

order-starts : (options : Options) → ReturnsLast options []
unfolding story
order-starts options = record {
  found = [];
  returned = [];
  split = refl;
  none_back = tt;
  all_back = tt;
  in_order = increasing 0 [] tt;
  while_open = λ _. refl;
}

-- this holds of every transcript that calls can make
pub returns_last : (options : Options) (h : List Event) → Arises options h → ReturnsLast options h
returns_last options h a =
    of-arising options (ReturnsLast options) (order-starts options) (order-quiet options)
    (λ g e running may r. order-open options g e running r) h a
