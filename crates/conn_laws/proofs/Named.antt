-- Each command about a debt names the message-id of the debt that was accepted at its ticket.
use Rattle.std.proofs.Common.{◌≡◌, ℕ, suc, zero, Bool, true, false, List, [], ◌∷◌, ◌++◌, refl, sym, ap, subst, ◌∙◌}
use Rattle.std.proofs.Common.{Option, Some, None}
use Rattle.std.specs.Prelude.{if◌then◌else◌, is_some, option_map, slice_get}
use Rattle.std.specs.List.{AllByRecursion}
use Rattle.reply_reader.specs.Stream.{Given}
use Rattle.ledger_core.specs.State.{Owing}
use Rattle.conn_core.specs.Codes.{meaning}
use Rattle.conn_core.specs.Commands.{Ask, Command, Asks, Handing, Sendable, Gone, Unsendable, Held, Want, ask_with}
use Rattle.conn_core.specs.Commands.{block_of, check_of, held_for}
use Rattle.conn_core.specs.History.{Event, Offered, Put, Came, Faulted, Handed, Sent, Tick, Broke, Leave, accepted}
use Rattle.conn_core.specs.History.{after, answered, answered_ask, asks, first_want, held, held_wanting, is_streaming}
use Rattle.conn_core.specs.History.{newcomer, phase, puts_answer, puts_article, puts_block, puts_greeting, reason}
use Rattle.conn_core.specs.History.{story, wants_at_once, with_puts, Taken}
use Rattle.conn_core.specs.Stands.{Arises, Starts, Goes_on}
use Rattle.conn_core.specs.declared.codes.Meaning.{Meaning}
use Rattle.conn_core.specs.declared.codes.Meaning.TheVariants.{Wanted, SendBlock, Later, Final}
use Rattle.conn_core.specs.declared.options.Options.{Options}
use Rattle.conn_laws.proofs.Behind.{greeting-none, holds-after, holds-greeted}
use Rattle.conn_core.specs.UsedLaws.{All-append, All-map}
use Rattle.conn_laws.proofs.Once.{IsOwn, find-own, held-own}
use Rattle.conn_laws.proofs.Numbered.{All-get, get-last}
use Rattle.conn_laws.proofs.Right.{answer_is_first}

abbrev id_in : Owing → List ℕ
id_in debt = debt.1.1

abbrev IsNamed : List Owing → Ask → Type 0
IsNamed debts ask = option_map id_in (slice_get debts ask.ticket) ≡ Some ask.id

abbrev AllNamed : List Event → Type 0
AllNamed h = AllByRecursion (IsNamed (accepted h)) (asks h)

named-more : (xs ys : List Owing) (k : ℕ) (id : List ℕ) → option_map id_in (slice_get xs k) ≡ Some id → option_map id_in (slice_get (xs ++ ys) k) ≡ Some id
named-more [] ys k id e = cc
named-more (x ∷ xs) ys zero id e = e
named-more (x ∷ xs) ys (suc k) id e = named-more xs ys k id e

put-other : (g : List Event) (command : Command) → asks (Put command ∷ g) ≡ asks g → AllNamed g → AllNamed (Put command ∷ g)
put-other g command same all = subst (λ xs. AllByRecursion (IsNamed (accepted g)) xs) (sym same) all

put-ask : (g : List Event) (ask : Ask) → AllNamed g → IsNamed (accepted g) ask → AllNamed (Put (Asks ask) ∷ g)
put-ask g ask all this = All-append (IsNamed (accepted g)) (asks g) (ask ∷ []) all (this, tt)

after-offered : (options : Options) (h : List Event) (debt : Owing) (b : Bool) → wants_at_once options h ≡ b → AllNamed h → AllNamed (after options h (Offered debt))
after-offered options h debt b e all =
    let more : AllNamed (Offered debt ∷ h) =
    All-map (IsNamed (accepted h)) (IsNamed (accepted h ++ debt ∷ [])) (λ ask q. named-more (accepted h) (debt ∷ []) ask.ticket ask.id q) (asks h) all
    in
    holds-after options AllNamed put-other h (Offered debt) (if b then [] else Asks (check_of (newcomer h debt)) ∷ []) (rw e refl)
    (elim b as (λ v. AllNamed (with_puts (if v then [] else Asks (check_of (newcomer h debt)) ∷ []) (Offered debt ∷ h))) [
      | true ↦ more
      | false ↦ put-ask (Offered debt ∷ h) (check_of (newcomer h debt)) more (ap (option_map id_in) (get-last (accepted h) debt))
    ])

block-named : (options : Options) (h : List Event) (reply : Given) (command : ℕ × Ask) → answered_ask options h reply ≡ Some command → AllNamed h
    → (m : Option Meaning) → AllNamed (with_puts (puts_block m command.1) (Came reply ∷ h))
block-named options h reply command e all None = all
block-named options h reply command e all (Some Wanted) = all
block-named options h reply command e all (Some SendBlock) =
    put-ask (Came reply ∷ h) (block_of command.1) all
    (All-get (IsNamed (accepted h)) (asks h) command.0 command.1 all (answer_is_first options h reply command e).is_command)
block-named options h reply command e all (Some Later) = all
block-named options h reply command e all (Some (Final code)) = all

after-came : (options : Options) (h : List Event) (reply : Given) (o : Option (ℕ × Ask)) → answered_ask options h reply ≡ o → AllNamed h → AllNamed (after options h (Came reply))
after-came options h reply None e all =
    holds-after options AllNamed put-other h (Came reply) (puts_greeting options.streaming (phase options h) reply.code ++ [])
    (ap (λ (o : Option (ℕ × Ask)). puts_greeting options.streaming (phase options h) reply.code ++ puts_answer reply.code o) e)
    (holds-greeted options AllNamed put-other options.streaming (phase options h) reply.code (Came reply ∷ h) all)
after-came options h reply (Some command) e all =
    let quiet = greeting-none options.streaming (phase options h) reply (answered options h) (asks h) command e in
    holds-after options AllNamed put-other h (Came reply) (puts_answer reply.code (Some command))
    (ap (λ cs. cs ++ puts_answer reply.code (answered_ask options h reply)) quiet ∙ ap (λ (o : Option (ℕ × Ask)). puts_answer reply.code o) e)
    (block-named options h reply command e all (meaning command.1.verb reply.code))

with-named : (debts : List Owing) (streaming : Bool) (x : Held) (block : List ℕ) → IsOwn debts x → IsNamed debts (ask_with streaming x block)
with-named debts true x block own = ap (option_map id_in) own
with-named debts false x block own = ap (option_map id_in) own

article-named : (options : Options) (h : List Event) (number : ℕ) (handing : Handing) (want : Option Want) (o : Option Held) → held_for (held options h) want ≡ o → AllNamed h
    → AllNamed (with_puts (puts_article (is_streaming (phase options h)) handing o) (Handed number handing ∷ h))
article-named options h number (Sendable block) want None e all = all
article-named options h number (Sendable block) None (Some x) e all = cc
article-named options h number (Sendable block) (Some want) (Some x) e all =
    put-ask (Handed number (Sendable block) ∷ h) (ask_with (is_streaming (phase options h)) x block) all
    (with-named (accepted h) (is_streaming (phase options h)) x block (find-own (accepted h) want.ticket (held options h) x (held-own options h) e))
article-named options h number Gone want o e all = all
article-named options h number Unsendable want o e all = all

after-handed : (options : Options) (h : List Event) (number : ℕ) (handing : Handing) → AllNamed h → AllNamed (after options h (Handed number handing))
after-handed options h number handing all =
    holds-after options AllNamed put-other h (Handed number handing) (puts_article (is_streaming (phase options h)) handing (held_wanting h (story options h) number)) refl
    (article-named options h number handing (option_map (λ (w : ℕ × Want). w.1) (first_want (story options h) number)) (held_wanting h (story options h) number) refl all)

either : (b : Bool) (h g : List Event) → AllNamed h → AllNamed g → AllNamed (if b then h else g)
either true h g k q = k
either false h g k q = q

pub all_named : (options : Options) (h : List Event) → Arises options h → AllByRecursion (λ (ask : Ask). option_map (λ (debt : Owing). debt.1.1) (slice_get (accepted h) ask.ticket) ≡ Some ask.id) (asks h)
all_named options h Starts = tt
all_named options h (Goes_on g (Offered debt) a ready) = after-offered options g debt _ refl (all_named options g a)
all_named options h (Goes_on g (Came reply) a can) =
    either (is_some (reason options g)) g (after options g (Came reply)) (all_named options g a) (after-came options g reply _ refl (all_named options g a))
all_named options h (Goes_on g (Faulted fault) a can) =
    either (is_some (reason options g)) g (after options g (Faulted fault)) (all_named options g a) (holds-after options AllNamed put-other g (Faulted fault) [] refl (all_named options g a))
all_named options h (Goes_on g (Handed number handing) a some) = after-handed options g number handing (all_named options g a)
all_named options h (Goes_on g (Sent count) a few) = either (is_some (reason options g)) g (Sent count ∷ g) (all_named options g a) (all_named options g a)
all_named options h (Goes_on g (Tick now) a can) =
    either (is_some (reason options g)) g (after options g (Tick now)) (all_named options g a) (holds-after options AllNamed put-other g (Tick now) [] refl (all_named options g a))
all_named options h (Goes_on g Broke a can) =
    either (is_some (reason options g)) g (after options g Broke) (all_named options g a) (holds-after options AllNamed put-other g Broke [] refl (all_named options g a))
all_named options h (Goes_on g Leave a can) =
    either (is_some (reason options g)) g (after options g Leave) (all_named options g a) (holds-after options AllNamed put-other g Leave [] refl (all_named options g a))
all_named options h (Goes_on g (Put command) a never) = absurd never
all_named options h (Goes_on g Taken a few) = all_named options g a
