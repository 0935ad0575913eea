-- Each want is of the key of the debt that it is about.
use Rattle.std.proofs.Common.{◌≡◌, ℕ, suc, zero, Bool, true, false, List, [], ◌∷◌, ◌++◌, length, refl, sym, ap, ◌∙◌}
use Rattle.std.proofs.Common.{find, Option, Some, None}
use Rattle.std.specs.Prelude.{if◌then◌else◌, option_map, slice_get}
use Rattle.std.specs.List.{AllByRecursion}
use Rattle.std.proofs.lemmas.Bool.{eqb-true}
use Rattle.ledger_core.specs.State.{Owing}
use Rattle.conn_core.specs.Codes.{meaning}
use Rattle.conn_core.specs.Commands.{Ask, Held, Want, is_at, is_of, want_of}
use Rattle.conn_core.specs.History.{Event, Offered, Put, Came, Faulted, Handed, Sent, Tick, Broke, Leave, Taken, Story}
use Rattle.conn_core.specs.History.{accepted, answered_ask, first_want, held, newcomer, story, wants_at_once}
use Rattle.conn_core.specs.History.{wants_by_answer, wants_by_meaning}
use Rattle.conn_core.specs.declared.codes.Meaning.{Meaning}
use Rattle.conn_core.specs.declared.codes.Meaning.TheVariants.{Wanted, SendBlock, Later, Final}
use Rattle.conn_core.specs.declared.options.Options.{Options}
use Rattle.conn_core.specs.UsedLaws.{All-append, All-map, first_left-is}
use Rattle.conn_core.specs.HeldLaws.{find-is_at}
use Rattle.conn_laws.proofs.Once.{IsOwn, find-own, held-own}

-- the key of a debt
abbrev key_in : Owing → ℕ
key_in debt = debt.0

-- a want is of the key of the debt that was accepted at its ticket
abbrev IsNumbered : List Owing → Want → Type 0
IsNumbered debts want = option_map key_in (slice_get debts want.ticket) ≡ Some want.key

numbered-more : (xs ys : List Owing) (k n : ℕ) → option_map key_in (slice_get xs k) ≡ Some n → option_map key_in (slice_get (xs ++ ys) k) ≡ Some n
numbered-more [] ys k n e = cc
numbered-more (x ∷ xs) ys zero n e = e
numbered-more (x ∷ xs) ys (suc k) n e = numbered-more xs ys k n e

pub get-last : (xs : List Owing) (x : Owing) → slice_get (xs ++ x ∷ []) (length xs) ≡ Some x
get-last [] x = refl
get-last (y ∷ xs) x = get-last xs x

numbered-held : (debts : List Owing) (x : Held) → IsOwn debts x → IsNumbered debts (want_of x)
numbered-held debts x own = ap (option_map key_in) own

by_meaning-numbered : (debts : List Owing) (k : ℕ) (hs : List Held) (m : Option Meaning) (o : Option Held) → find (is_at k) hs ≡ o → AllByRecursion (IsOwn debts) hs
    → AllByRecursion (IsNumbered debts) (wants_by_meaning m o)
by_meaning-numbered debts k hs None o e own = tt
by_meaning-numbered debts k hs (Some Wanted) None e own = tt
by_meaning-numbered debts k hs (Some Wanted) (Some x) e own = (numbered-held debts x (find-own debts k hs x own e), tt)
by_meaning-numbered debts k hs (Some SendBlock) o e own = tt
by_meaning-numbered debts k hs (Some Later) o e own = tt
by_meaning-numbered debts k hs (Some (Final code)) o e own = tt

by_answer-numbered : (debts : List Owing) (hs : List Held) (code : ℕ) (o : Option (ℕ × Ask)) → AllByRecursion (IsOwn debts) hs
    → AllByRecursion (IsNumbered debts) (wants_by_answer hs code o)
by_answer-numbered debts hs code None own = tt
by_answer-numbered debts hs code (Some command) own = by_meaning-numbered debts command.1.ticket hs (meaning command.1.verb code) _ refl own

offered-step : (debts : List Owing) (b : Bool) (old : Story) (want : Want) → AllByRecursion (IsNumbered debts) old.wants → IsNumbered debts want
    → AllByRecursion (IsNumbered debts) (if b then record old { wants = old.wants ++ want ∷ [] } else old).wants
offered-step debts true old want all this = All-append (IsNumbered debts) old.wants (want ∷ []) all (this, tt)
offered-step debts false old want all this = all

all_numbered : (options : Options) (h : List Event) → AllByRecursion (IsNumbered (accepted h)) (story options h).wants
unfolding story
all_numbered options [] = tt
all_numbered options (Offered debt ∷ h) =
    offered-step (accepted h ++ debt ∷ []) (wants_at_once options h) (story options h) (want_of (newcomer h debt))
    (All-map (IsNumbered (accepted h)) (IsNumbered (accepted h ++ debt ∷ [])) (λ want e. numbered-more (accepted h) (debt ∷ []) want.ticket want.key e) (story options h).wants (all_numbered options h))
    (ap (option_map key_in) (get-last (accepted h) debt))
all_numbered options (Came reply ∷ h) =
    All-append (IsNumbered (accepted h)) (story options h).wants (wants_by_answer (held options h) reply.code (answered_ask options h reply)) (all_numbered options h)
    (by_answer-numbered (accepted h) (held options h) reply.code (answered_ask options h reply) (held-own options h))
all_numbered options (Put command ∷ h) = all_numbered options h
all_numbered options (Faulted fault ∷ h) = all_numbered options h
all_numbered options (Handed number handing ∷ h) = all_numbered options h
all_numbered options (Sent count ∷ h) = all_numbered options h
all_numbered options (Tick now ∷ h) = all_numbered options h
all_numbered options (Broke ∷ h) = all_numbered options h
all_numbered options (Leave ∷ h) = all_numbered options h
all_numbered options (Taken ∷ h) = all_numbered options h

pub All-get : {X : Type 0} (P : X → Type 0) (xs : List X) (k : ℕ) (x : X) → AllByRecursion P xs → slice_get xs k ≡ Some x → P x
All-get P [] k x all e = cc
All-get P (y ∷ xs) zero x all e = let same : y ≡ x = cc in rw same at all.0
All-get P (y ∷ xs) (suc k) x all e = All-get P xs k x all.1 e

-- the debt that the first want of a key is about has that key
pub number-held : (options : Options) (h : List Event) (number : ℕ) (want : ℕ × Want) (x : Held) → first_want (story options h) number ≡ Some want
    → find (is_at want.1.ticket) (held options h) ≡ Some x → x.debt.0 ≡ number
number-held options h number want x first at =
    let f = first_left-is (is_of number) (story options h).handed 0 (story options h).wants want.0 want.1 first in
    let is : want.1.key ≡ number = eqb-true want.1.key number f.passes in
    let numbered = All-get (IsNumbered (accepted h)) (story options h).wants f.index want.1 (all_numbered options h) f.item in
    let there : x.ticket ≡ want.1.ticket = (find-is_at want.1.ticket (held options h) x at).0 in
    let own : IsOwn (accepted h) x = find-own (accepted h) want.1.ticket (held options h) x (held-own options h) at in
    let mine : option_map key_in (slice_get (accepted h) want.1.ticket) ≡ Some x.debt.0 =
    ap (λ k. option_map key_in (slice_get (accepted h) k)) (sym there) ∙ ap (option_map key_in) own
    in
    let same : Some x.debt.0 ≡ Some want.1.key = sym mine ∙ numbered in
    let numbers : x.debt.0 ≡ want.1.key = cc in
    numbers ∙ is
