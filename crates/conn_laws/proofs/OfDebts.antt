-- Whose article goes out with a command, and for which debt one is handed in.
use Rattle.std.proofs.Common.{◌≡◌, ℕ, suc, zero, Bool, true, false, List}
use Rattle.std.proofs.Common.{[], ◌∷◌, ◌++◌, refl, sym, ap, subst, ◌∙◌, find}
use Rattle.std.proofs.Common.{Option, Some, None}
use Rattle.std.specs.Prelude.{if◌then◌else◌, is_some, option_map, slice_get}
use Rattle.std.specs.List.{AllByRecursion}
use Rattle.std.proofs.lemmas.Bool.{false≢true}
use Rattle.reply_reader.specs.Stream.{Given}
use Rattle.ledger_core.specs.State.{Owing}
use Rattle.conn_core.specs.Codes.{meaning}
use Rattle.conn_core.specs.Commands.{Ask, Command, Asks, Handing, Sendable, Gone, Unsendable, Held, Want, ask_with}
use Rattle.conn_core.specs.Commands.{block_of, check_of, held_for, is_at}
use Rattle.conn_core.specs.History.{Event, Offered, Put, Came, Faulted, Handed, Sent, Tick, Broke, Leave, Taken}
use Rattle.conn_core.specs.History.{accepted, after, answered, answered_ask, asks, first_want, held, held_wanting}
use Rattle.conn_core.specs.History.{is_streaming, newcomer, phase, puts_answer, puts_article, puts_block}
use Rattle.conn_core.specs.History.{puts_greeting, reason, story, wants_at_once, with_puts}
use Rattle.conn_core.specs.Stands.{Arises, Starts, Goes_on}
use Rattle.conn_core.specs.declared.codes.Meaning.{Meaning}
use Rattle.conn_core.specs.declared.codes.Meaning.TheVariants.{Wanted, SendBlock, Later, Final}
use Rattle.conn_core.specs.declared.options.Options.{Options}
use Rattle.conn_core.specs.HeldLaws.{find-is_at}
use Rattle.conn_core.specs.UsedLaws.{All-append, All-map}
use Rattle.conn_laws.specs.Articles.{AllHaveArticlesOfDebts, HasArticleOfDebt, IsArticleOfDebt, debt_of_want}
use Rattle.conn_laws.specs.Articles.{debt_served, has_article}
use Rattle.conn_laws.proofs.Behind.{greeting-none, holds-after, holds-greeted}
use Rattle.conn_laws.proofs.Causes.{block-code}
use Rattle.conn_laws.proofs.Numbered.{All-get}
use Rattle.conn_laws.proofs.Once.{IsOwn, find-own, held-own}
use Rattle.conn_laws.proofs.Right.{answer_is_first}

own-more : (xs ys : List Owing) (k : ℕ) (debt : Owing) → slice_get xs k ≡ Some debt → slice_get (xs ++ ys) k ≡ Some debt
own-more [] ys k debt e = cc
own-more (x ∷ xs) ys zero debt e = e
own-more (x ∷ xs) ys (suc k) debt e = own-more xs ys k debt e

own-later : (h : List Event) (e : Event) (k : ℕ) (debt : Owing) → slice_get (accepted h) k ≡ Some debt
    → slice_get (accepted (e ∷ h)) k ≡ Some debt
own-later h (Offered newer) k debt q = own-more (accepted h) (newer ∷ []) k debt q
own-later h (Put command) k debt q = q
own-later h (Came reply) k debt q = q
own-later h (Faulted fault) k debt q = q
own-later h (Handed number handing) k debt q = q
own-later h (Sent count) k debt q = q
own-later h (Tick now) k debt q = q
own-later h Broke k debt q = q
own-later h Leave k debt q = q
own-later h Taken k debt q = q

article-more : (options : Options) (h : List Event) (e : Event) (ask : Ask) → IsArticleOfDebt options h ask
    → IsArticleOfDebt options (e ∷ h) ask
article-more options h e ask a = record {
  later = e ∷ a.later;
  earlier = a.earlier;
  number = a.number;
  debt = a.debt;
  split = ap (λ g. e ∷ g) a.split;
  served = a.served;
  own = own-later h e ask.ticket a.debt a.own;
  named = a.named;
}

-- what was put out before an event keeps its article
lifted : (options : Options) (h : List Event) (e : Event) → AllHaveArticlesOfDebts options h
    → AllByRecursion (HasArticleOfDebt options (e ∷ h)) (asks h)
lifted options h e all =
    All-map (HasArticleOfDebt options h) (HasArticleOfDebt options (e ∷ h))
    (λ ask a has. article-more options h e ask (a has)) (asks h) all

put-other : (options : Options) (g : List Event) (command : Command) → asks (Put command ∷ g) ≡ asks g
    → AllHaveArticlesOfDebts options g → AllHaveArticlesOfDebts options (Put command ∷ g)
put-other options g command same all =
    subst (λ xs. AllByRecursion (HasArticleOfDebt options (Put command ∷ g)) xs) (sym same)
    (lifted options g (Put command) all)

put-ask : (options : Options) (g : List Event) (ask : Ask) → AllHaveArticlesOfDebts options g
    → HasArticleOfDebt options g ask → AllHaveArticlesOfDebts options (Put (Asks ask) ∷ g)
put-ask options g ask all this =
    All-append (HasArticleOfDebt options (Put (Asks ask) ∷ g)) (asks g) (ask ∷ [])
    (lifted options g (Put (Asks ask)) all)
    ((λ has. article-more options g (Put (Asks ask)) ask (this has)), tt)

after-offered : (options : Options) (h : List Event) (debt : Owing) (b : Bool) → wants_at_once options h ≡ b
    → AllHaveArticlesOfDebts options h → AllHaveArticlesOfDebts options (after options h (Offered debt))
after-offered options h debt true e all =
    holds-after options (AllHaveArticlesOfDebts options) (put-other options) h (Offered debt) [] (rw e refl)
    (lifted options h (Offered debt) all)
after-offered options h debt false e all =
    holds-after options (AllHaveArticlesOfDebts options) (put-other options) h (Offered debt)
    (Asks (check_of (newcomer h debt)) ∷ []) (rw e refl)
    (put-ask options (Offered debt ∷ h) (check_of (newcomer h debt)) (lifted options h (Offered debt) all)
    (λ has. absurd (false≢true has)))

-- the block of an IHAVE has the article of the IHAVE
block-article : (options : Options) (h : List Event) (reply : Given) (command : ℕ × Ask)
    → answered_ask options h reply ≡ Some command → AllHaveArticlesOfDebts options h
    → (m : Option Meaning) → meaning command.1.verb reply.code ≡ m
    → AllHaveArticlesOfDebts options (with_puts (puts_block m command.1) (Came reply ∷ h))
block-article options h reply command e all None em = lifted options h (Came reply) all
block-article options h reply command e all (Some Wanted) em = lifted options h (Came reply) all
block-article options h reply command e all (Some SendBlock) em =
    let offer = block-code command.1.verb reply.code em in
    let has : has_article command.1.verb ≡ true = ap has_article offer.0 in
    let a = All-get (HasArticleOfDebt options h) (asks h) command.0 command.1 all
    (answer_is_first options h reply command e).is_command has in
    put-ask options (Came reply ∷ h) (block_of command.1) (lifted options h (Came reply) all)
    (λ _. record {
      later = Came reply ∷ a.later;
      earlier = a.earlier;
      number = a.number;
      debt = a.debt;
      split = ap (λ g. Came reply ∷ g) a.split;
      served = a.served;
      own = a.own;
      named = a.named;
    })
block-article options h reply command e all (Some Later) em = lifted options h (Came reply) all
block-article options h reply command e all (Some (Final code)) em = lifted options h (Came reply) all

after-came : (options : Options) (h : List Event) (reply : Given) (o : Option (ℕ × Ask))
    → answered_ask options h reply ≡ o → AllHaveArticlesOfDebts options h
    → AllHaveArticlesOfDebts options (after options h (Came reply))
after-came options h reply None e all =
    holds-after options (AllHaveArticlesOfDebts options) (put-other options) h (Came reply)
    (puts_greeting options.streaming (phase options h) reply.code ++ [])
    (ap (λ (o : Option (ℕ × Ask)). puts_greeting options.streaming
    (phase options h) reply.code ++ puts_answer reply.code o) e)
    (holds-greeted options (AllHaveArticlesOfDebts options) (put-other options) options.streaming
    (phase options h) reply.code (Came reply ∷ h) (lifted options h (Came reply) all))
after-came options h reply (Some command) e all =
    let quiet = greeting-none options.streaming (phase options h) reply (answered options h) (asks h) command e in
    holds-after options (AllHaveArticlesOfDebts options) (put-other options) h (Came reply)
    (puts_answer reply.code (Some command))
    (ap (λ cs. cs ++ puts_answer reply.code (answered_ask options h reply)) quiet
    ∙ ap (λ (o : Option (ℕ × Ask)). puts_answer reply.code o) e)
    (block-article options h reply command e all (meaning command.1.verb reply.code) refl)

-- the debt of a want that is held was accepted at the ticket of the want
pub own-found : (options : Options) (h : List Event) (ticket : ℕ) (x : Held)
    → find (is_at ticket) (held options h) ≡ Some x → slice_get (accepted h) ticket ≡ Some x.debt
own-found options h ticket x e =
    let there : x.ticket ≡ ticket = (find-is_at ticket (held options h) x e).0 in
    let own : IsOwn (accepted h) x = find-own (accepted h) ticket (held options h) x (held-own options h) e in
    ap (λ k. slice_get (accepted h) k) (sym there) ∙ own

with-article : (options : Options) (h : List Event) (number : ℕ) (streaming : Bool) (x : Held) (block : List ℕ)
    → debt_served options h number ≡ Some x.debt → IsOwn (accepted h) x
    → IsArticleOfDebt options (Handed number (Sendable block) ∷ h) (ask_with streaming x block)
with-article options h number true x block served own =
    record {
      later = [];
      earlier = h;
      number = number;
      debt = x.debt;
      split = refl;
      served = served;
      own = own;
      named = refl;
    }
with-article options h number false x block served own =
    record {
      later = [];
      earlier = h;
      number = number;
      debt = x.debt;
      split = refl;
      served = served;
      own = own;
      named = refl;
    }

article-put : (options : Options) (h : List Event) (number : ℕ) (handing : Handing) (want : Option (ℕ × Want))
    (o : Option Held) → first_want (story options h) number ≡ want
    → held_for (held options h) (option_map (λ (w : ℕ × Want). w.1) want) ≡ o → AllHaveArticlesOfDebts options h
    → AllHaveArticlesOfDebts options
    (with_puts (puts_article (is_streaming (phase options h)) handing o) (Handed number handing ∷ h))
article-put options h number (Sendable block) want None first e all =
    lifted options h (Handed number (Sendable block)) all
article-put options h number (Sendable block) None (Some x) first e all = cc
article-put options h number (Sendable block) (Some want) (Some x) first e all =
    let served : debt_served options h number ≡ Some x.debt =
    ap (λ w. debt_of_want h w) first ∙ own-found options h want.1.ticket x e in
    let own : IsOwn (accepted h) x = find-own (accepted h) want.1.ticket (held options h) x (held-own options h) e in
    put-ask options (Handed number (Sendable block) ∷ h) (ask_with (is_streaming (phase options h)) x block)
    (lifted options h (Handed number (Sendable block)) all)
    (λ _. with-article options h number (is_streaming (phase options h)) x block served own)
article-put options h number Gone want o first e all = lifted options h (Handed number Gone) all
article-put options h number Unsendable want o first e all = lifted options h (Handed number Unsendable) all

after-handed : (options : Options) (h : List Event) (number : ℕ) (handing : Handing)
    → AllHaveArticlesOfDebts options h → AllHaveArticlesOfDebts options (after options h (Handed number handing))
after-handed options h number handing all =
    holds-after options (AllHaveArticlesOfDebts options) (put-other options) h (Handed number handing)
    (puts_article (is_streaming (phase options h)) handing (held_wanting h (story options h) number)) refl
    (article-put options h number handing (first_want (story options h) number)
    (held_wanting h (story options h) number) refl refl all)

either : (options : Options) (b : Bool) (h g : List Event) → AllHaveArticlesOfDebts options h
    → AllHaveArticlesOfDebts options g → AllHaveArticlesOfDebts options (if b then h else g)
either options true h g k q = k
either options false h g k q = q

-- an event that comes from outside
event-article : (options : Options) (g : List Event) (e : Event) → AllHaveArticlesOfDebts options g
    → AllHaveArticlesOfDebts options (after options g e)
    → AllHaveArticlesOfDebts options (if is_some (reason options g) then g else after options g e)
event-article options g e old new = either options (is_some (reason options g)) g (after options g e) old new

-- and one that puts out nothing of a debt
silent-article : (options : Options) (g : List Event) (e : Event) → asks (e ∷ g) ≡ asks g
    → AllHaveArticlesOfDebts options g → AllHaveArticlesOfDebts options (e ∷ g)
silent-article options g e same all =
    subst (λ xs. AllByRecursion (HasArticleOfDebt options (e ∷ g)) xs) (sym same) (lifted options g e all)

pub all_articles : (options : Options) (h : List Event) → Arises options h → AllHaveArticlesOfDebts options h
all_articles options h Starts = tt
all_articles options h (Goes_on g (Offered debt) a ready) =
    after-offered options g debt (wants_at_once options g) refl (all_articles options g a)
all_articles options h (Goes_on g (Came reply) a can) =
    event-article options g (Came reply) (all_articles options g a)
    (after-came options g reply (answered_ask options g reply) refl (all_articles options g a))
all_articles options h (Goes_on g (Faulted fault) a can) =
    event-article options g (Faulted fault) (all_articles options g a)
    (holds-after options (AllHaveArticlesOfDebts options) (put-other options) g (Faulted fault) [] refl
    (silent-article options g (Faulted fault) refl (all_articles options g a)))
all_articles options h (Goes_on g (Handed number handing) a some) =
    after-handed options g number handing (all_articles options g a)
all_articles options h (Goes_on g (Sent count) a few) =
    either options (is_some (reason options g)) g (Sent count ∷ g) (all_articles options g a)
    (silent-article options g (Sent count) refl (all_articles options g a))
all_articles options h (Goes_on g (Tick now) a can) =
    event-article options g (Tick now) (all_articles options g a)
    (holds-after options (AllHaveArticlesOfDebts options) (put-other options) g (Tick now) [] refl
    (silent-article options g (Tick now) refl (all_articles options g a)))
all_articles options h (Goes_on g Broke a can) =
    event-article options g Broke (all_articles options g a)
    (holds-after options (AllHaveArticlesOfDebts options) (put-other options) g Broke [] refl
    (silent-article options g Broke refl (all_articles options g a)))
all_articles options h (Goes_on g Leave a can) =
    event-article options g Leave (all_articles options g a)
    (holds-after options (AllHaveArticlesOfDebts options) (put-other options) g Leave [] refl
    (silent-article options g Leave refl (all_articles options g a)))
all_articles options h (Goes_on g (Put command) a never) = absurd never
all_articles options h (Goes_on g Taken a few) = silent-article options g Taken refl (all_articles options g a)
