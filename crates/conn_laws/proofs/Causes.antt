-- Each command about a debt goes out directly after its cause.
use Rattle.std.proofs.Common.{◌≡◌, ℕ, Bool, true, false, List, [], ◌∷◌, ◌++◌, length, length-append, refl, sym, ap}
use Rattle.std.proofs.Common.{subst, ◌∙◌, arith, find, Option, Some, None, inl, inr, ◌⊎◌}
use Rattle.std.specs.Prelude.{◌==◌, ◌&&◌, if◌then◌else◌, is_some, not, option_map}
use Rattle.std.specs.List.{AllByRecursion}
use Rattle.std.proofs.lemmas.Bool.{eqb-true}
use Rattle.reply_reader.specs.Stream.{Given}
use Rattle.ledger_core.specs.State.{Owing}
use Rattle.conn_core.specs.Codes.{meaning}
use Rattle.conn_core.specs.Commands.{Ask, Command, ModeStream, Asks, Quit, Handing, Sendable, Gone, Unsendable, Held}
use Rattle.conn_core.specs.Commands.{Want, ask_with, check_of, held_for, is_at, is_of, want_of}
use Rattle.conn_core.specs.History.{Event, Offered, Put, Came, Faulted, Handed, Sent, Tick, Broke, Leave, Taken}
use Rattle.conn_core.specs.History.{accepted, after, answered, answered_ask, asks, checks, first_want, held}
use Rattle.conn_core.specs.History.{held_wanting, is_mode, is_streaming, newcomer, phase, puts_answer, puts_article}
use Rattle.conn_core.specs.History.{puts_block, puts_greeting, reason, story, wants_at_once, wants_by_answer}
use Rattle.conn_core.specs.History.{wants_by_meaning, with_puts}
use Rattle.conn_core.specs.Stands.{Arises, Starts, Goes_on}
use Rattle.conn_core.specs.declared.codes.Verb.{Verb}
use Rattle.conn_core.specs.declared.codes.Verb.TheVariants.{Check, Takethis, Ihave, Block}
use Rattle.conn_core.specs.declared.codes.Meaning.{Meaning}
use Rattle.conn_core.specs.declared.codes.Meaning.TheVariants.{Wanted, SendBlock, Later, Final}
use Rattle.conn_core.specs.declared.options.Options.{Options}
use Rattle.conn_core.specs.HeldLaws.{find-is_at}
use Rattle.conn_core.specs.UsedLaws.{All-append, All-map, first_left-is}
use Rattle.conn_laws.specs.Laws.{AllHaveTheirCause, IsAnswered, IsCheckOf, IsHandedFor, IsUnchecked, IsWanted}
use Rattle.conn_laws.proofs.Arising.{IsQuiet, MayCome, of-arising}
use Rattle.conn_laws.proofs.Behind.{greeting-none, holds-after, holds-greeted}
use Rattle.conn_laws.proofs.Numbered.{All-get}
use Rattle.conn_laws.proofs.Right.{answer-now, answer_is_first, answered-more}

-- each want has its reason

unchecked-more : (options : Options) (h : List Event) (e : Event) (ticket : ℕ) → IsUnchecked options h ticket
    → IsUnchecked options (e ∷ h) ticket
unchecked-more options h e ticket a = record {
  later = e ∷ a.later;
  earlier = a.earlier;
  debt = a.debt;
  split = ap (λ g. e ∷ g) a.split;
  about = a.about;
  mode = a.mode;
  off = a.off;
}

wanted-more : (options : Options) (h : List Event) (e : Event) (ticket : ℕ) → IsWanted options h ticket
    → IsWanted options (e ∷ h) ticket
wanted-more options h e ticket (inl a) = inl (unchecked-more options h e ticket a)
wanted-more options h e ticket (inr a) = inr (answered-more options h e ticket 238 Wanted a)

abbrev IsOf : Options → List Event → Want → Type 0
IsOf options h want = IsWanted options h want.ticket

abbrev AllWanted : Options → List Event → Type 0
AllWanted options h = AllByRecursion (IsOf options h) (story options h).wants

lifted : (options : Options) (h : List Event) (e : Event) → AllWanted options h
    → AllByRecursion (IsOf options (e ∷ h)) (story options h).wants
lifted options h e all =
    All-map (IsOf options h) (IsOf options (e ∷ h)) (λ want w. wanted-more options h e want.ticket w)
    (story options h).wants all

unchecked-off : (a b : Bool) → not (a && b) ≡ true → (a ≡ false) ⊎ (b ≡ false)
unchecked-off false b e = inl refl
unchecked-off true false e = inr refl
unchecked-off true true e = cc

offered-step : (options : Options) (h : List Event) (debt : Owing) (b : Bool) → wants_at_once options h ≡ b
    → is_mode (phase options h) ≡ true → AllWanted options h
    → AllByRecursion (IsOf options (Offered debt ∷ h))
    (if b then record (story options h)
    { wants = (story options h).wants ++ want_of (newcomer h debt) ∷ [] } else story options h).wants
offered-step options h debt true e mode all =
    let here : IsUnchecked options (Offered debt ∷ h) (length (accepted h)) =
    record {
      later = [];
      earlier = h;
      debt = debt;
      split = refl;
      about = refl;
      mode = mode;
      off = unchecked-off
          (is_streaming (phase options h)) (checks options h) e;
    }
    in
    All-append (IsOf options (Offered debt ∷ h)) (story options h).wants (want_of (newcomer h debt) ∷ [])
    (lifted options h (Offered debt) all) (inl here, tt)
offered-step options h debt false e mode all = lifted options h (Offered debt) all

-- which code makes an article wanted, and which a block
code-step : (b : Bool) (n k : ℕ) (m says : Meaning) (rest : Option Meaning) → (n == k) ≡ b → (rest ≡ Some says → ⊥)
    → (if b then Some m else rest) ≡ Some says → n ≡ k
code-step true n k m says rest q there e = eqb-true n k q
code-step false n k m says rest q there e = absurd (there e)

code-is : (n k : ℕ) (m says : Meaning) (rest : Option Meaning) → (rest ≡ Some says → ⊥)
    → (if n == k then Some m else rest) ≡ Some says → n ≡ k
code-is n k m says rest there e = code-step (n == k) n k m says rest refl there e

other-step : (b : Bool) (m says : Meaning) (rest : Option Meaning) → (m ≡ says → ⊥) → (rest ≡ Some says → ⊥)
    → (if b then Some m else rest) ≡ Some says → ⊥
other-step true m says rest other there e = let same : m ≡ says = cc in other same
other-step false m says rest other there e = there e

wanted-code : (verb : Verb) (n : ℕ) → meaning verb n ≡ Some Wanted → n ≡ 238
wanted-code Check n e =
    code-is n 238 Wanted Wanted _
    (λ f. other-step (n == 431) Later Wanted _ (λ s. cc)
    (λ g. other-step (n == 438) _ Wanted _ (λ s. cc) (λ k. cc) g) f) e
wanted-code Takethis n e =
    absurd (other-step (n == 239) _ Wanted _ (λ s. cc) (λ g. other-step (n == 439) _ Wanted _ (λ s. cc) (λ k. cc) g) e)
wanted-code Ihave n e =
    absurd (other-step (n == 335) _ Wanted _ (λ s. cc)
    (λ g. other-step (n == 435) _ Wanted _ (λ s. cc)
    (λ f. other-step (n == 436) _ Wanted _ (λ s. cc) (λ k. cc) f) g) e)
wanted-code Block n e =
    absurd (other-step (n == 235) _ Wanted _ (λ s. cc)
    (λ g. other-step (n == 437) _ Wanted _ (λ s. cc)
    (λ f. other-step (n == 436) _ Wanted _ (λ s. cc) (λ k. cc) f) g) e)

pub block-code : (verb : Verb) (n : ℕ) → meaning verb n ≡ Some SendBlock → (verb ≡ Ihave) × (n ≡ 335)
block-code Check n e =
    absurd (other-step (n == 238) _ SendBlock _ (λ s. cc)
    (λ g. other-step (n == 431) _ SendBlock _ (λ s. cc)
    (λ f. other-step (n == 438) _ SendBlock _ (λ s. cc) (λ k. cc) f) g) e)
block-code Takethis n e =
    absurd (other-step (n == 239) _ SendBlock _ (λ s. cc)
    (λ g. other-step (n == 439) _ SendBlock _ (λ s. cc) (λ k. cc) g) e)
block-code Ihave n e = (
  refl,
  code-is n 335 SendBlock SendBlock _
      (λ g. other-step (n == 435) _ SendBlock _ (λ s. cc)
      (λ f. other-step (n == 436) _ SendBlock _ (λ s. cc) (λ k. cc) f) g) e,
)
block-code Block n e =
    absurd (other-step (n == 235) _ SendBlock _ (λ s. cc)
    (λ g. other-step (n == 437) _ SendBlock _ (λ s. cc)
    (λ f. other-step (n == 436) _ SendBlock _ (λ s. cc) (λ k. cc) f) g) e)

by_meaning-wanted : (options : Options) (h : List Event) (reply : Given) (command : ℕ × Ask) (m : Option Meaning)
    (o : Option Held) → reason options h ≡ None
    → answered_ask options h reply ≡ Some command → meaning command.1.verb reply.code ≡ m
    → find (is_at command.1.ticket) (held options h) ≡ o
    → AllByRecursion (IsOf options (Came reply ∷ h)) (wants_by_meaning m o)
by_meaning-wanted options h reply command None o running e em eo = tt
by_meaning-wanted options h reply command (Some Wanted) None running e em eo = tt
by_meaning-wanted options h reply command (Some Wanted) (Some x) running e em eo =
    let said = answer-now options h reply command x Wanted running e em eo in (
      inr (subst (λ n. IsAnswered options (Came reply ∷ h) x.ticket n Wanted)
          (wanted-code command.1.verb reply.code em) said),
      tt,
    )
by_meaning-wanted options h reply command (Some SendBlock) o running e em eo = tt
by_meaning-wanted options h reply command (Some Later) o running e em eo = tt
by_meaning-wanted options h reply command (Some (Final code)) o running e em eo = tt

by_answer-wanted : (options : Options) (h : List Event) (reply : Given) (o : Option (ℕ × Ask))
    → reason options h ≡ None → answered_ask options h reply ≡ o
    → AllByRecursion (IsOf options (Came reply ∷ h)) (wants_by_answer (held options h) reply.code o)
by_answer-wanted options h reply None running e = tt
by_answer-wanted options h reply (Some command) running e =
    by_meaning-wanted options h reply command _ _ running e refl refl

wanted-quiet : (options : Options) (h : List Event) (e : Event) → IsQuiet e → AllWanted options h
    → AllWanted options (e ∷ h)
unfolding story
wanted-quiet options h (Put command) q all = lifted options h (Put command) all
wanted-quiet options h (Sent count) q all = lifted options h (Sent count) all
wanted-quiet options h Taken q all = lifted options h Taken all
wanted-quiet options h (Offered debt) q all = absurd q
wanted-quiet options h (Came reply) q all = absurd q
wanted-quiet options h (Faulted fault) q all = absurd q
wanted-quiet options h (Handed number handing) q all = absurd q
wanted-quiet options h (Tick now) q all = absurd q
wanted-quiet options h Broke q all = absurd q
wanted-quiet options h Leave q all = absurd q

wanted-open : (options : Options) (h : List Event) (e : Event) → reason options h ≡ None → MayCome options h e
    → AllWanted options h → AllWanted options (e ∷ h)
unfolding story
wanted-open options h (Offered debt) running mode all =
    offered-step options h debt (wants_at_once options h) refl mode all
wanted-open options h (Came reply) running may all =
    All-append (IsOf options (Came reply ∷ h)) (story options h).wants
    (wants_by_answer (held options h) reply.code (answered_ask options h reply)) (lifted options h (Came reply) all)
    (by_answer-wanted options h reply (answered_ask options h reply) running refl)
wanted-open options h (Handed number handing) running may all = lifted options h (Handed number handing) all
wanted-open options h (Faulted fault) running may all = lifted options h (Faulted fault) all
wanted-open options h (Tick now) running may all = lifted options h (Tick now) all
wanted-open options h Broke running may all = lifted options h Broke all
wanted-open options h Leave running may all = lifted options h Leave all
wanted-open options h (Put command) running may all = lifted options h (Put command) all
wanted-open options h (Sent count) running may all = lifted options h (Sent count) all
wanted-open options h Taken running may all = lifted options h Taken all

wanted-starts : (options : Options) → AllWanted options []
unfolding story
wanted-starts options = tt

all_wanted : (options : Options) (h : List Event) → Arises options h → AllWanted options h
all_wanted options h a =
    of-arising options (AllWanted options) (wanted-starts options) (wanted-quiet options) (wanted-open options) h a

-- each command has its cause

put-other : (options : Options) (g : List Event) (command : Command) → asks (Put command ∷ g) ≡ asks g
    → AllHaveTheirCause options g → AllHaveTheirCause options (Put command ∷ g)
put-other options g ModeStream same all = all
put-other options g (Asks ask) same all = let longer = length-append (asks g) (ask ∷ []) in let len =
    ap length same in absurd (omega (arith, longer, len))
put-other options g Quit same all = all

checked-on : (a b : Bool) → not (a && b) ≡ false → (a ≡ true) × (b ≡ true)
checked-on true true e = (refl, refl)
checked-on true false e = cc
checked-on false b e = cc

after-offered : (options : Options) (h : List Event) (debt : Owing) (b : Bool) → wants_at_once options h ≡ b
    → AllHaveTheirCause options h → AllHaveTheirCause options (after options h (Offered debt))
after-offered options h debt true e all =
    holds-after options (AllHaveTheirCause options) (put-other options) h (Offered debt) [] (rw e refl) all
after-offered options h debt false e all =
    let on = checked-on (is_streaming (phase options h)) (checks options h) e in
    let cause : IsCheckOf options h debt (check_of (newcomer h debt)) =
    record { streaming = on.0; on = on.1; check = refl } in
    holds-after options (AllHaveTheirCause options) (put-other options) h (Offered debt)
    (Asks (check_of (newcomer h debt)) ∷ []) (rw e refl) (cause, all)

block-caused : (options : Options) (h : List Event) (reply : Given) (command : ℕ × Ask)
    → answered_ask options h reply ≡ Some command → AllHaveTheirCause options h
    → (m : Option Meaning) → meaning command.1.verb reply.code ≡ m
    → AllHaveTheirCause options (with_puts (puts_block m command.1) (Came reply ∷ h))
block-caused options h reply command e all None em = all
block-caused options h reply command e all (Some Wanted) em = all
block-caused options h reply command e all (Some SendBlock) em =
    let code = block-code command.1.verb reply.code em in
    (record { command = command; first = answer_is_first options h reply command e; offer = code.0; code = code.1; block = refl }, all)
block-caused options h reply command e all (Some Later) em = all
block-caused options h reply command e all (Some (Final code)) em = all

after-came : (options : Options) (h : List Event) (reply : Given) (o : Option (ℕ × Ask))
    → answered_ask options h reply ≡ o → AllHaveTheirCause options h
    → AllHaveTheirCause options (after options h (Came reply))
after-came options h reply None e all =
    holds-after options (AllHaveTheirCause options) (put-other options) h (Came reply)
    (puts_greeting options.streaming (phase options h) reply.code ++ [])
    (ap (λ (o : Option (ℕ × Ask)). puts_greeting options.streaming
    (phase options h) reply.code ++ puts_answer reply.code o) e)
    (holds-greeted options (AllHaveTheirCause options) (put-other options) options.streaming
    (phase options h) reply.code (Came reply ∷ h) all)
after-came options h reply (Some command) e all =
    let quiet = greeting-none options.streaming (phase options h) reply (answered options h) (asks h) command e in
    holds-after options (AllHaveTheirCause options) (put-other options) h (Came reply)
    (puts_answer reply.code (Some command))
    (ap (λ cs. cs ++ puts_answer reply.code (answered_ask options h reply)) quiet
    ∙ ap (λ (o : Option (ℕ × Ask)). puts_answer reply.code o) e)
    (block-caused options h reply command e all (meaning command.1.verb reply.code) refl)

with-verb : (streaming : Bool) (x : Held) (block : List ℕ)
    → ((ask_with streaming x block).verb ≡ (if streaming then Takethis else Ihave)) ×
    ((ask_with streaming x block).ticket ≡ x.ticket) × ((ask_with streaming x block).block ≡ block)
with-verb true x block = (refl, refl, refl)
with-verb false x block = (refl, refl, refl)

-- a want that is found has its reason
found-wanted : (options : Options) (h : List Event) (number : ℕ) (want : ℕ × Want) → AllWanted options h
    → first_want (story options h) number ≡ Some want → IsWanted options h want.1.ticket
found-wanted options h number want all first =
    let f = first_left-is (is_of number) (story options h).handed 0 (story options h).wants want.0 want.1 first in
    All-get (IsOf options h) (story options h).wants f.index want.1 all f.item

article-caused : (options : Options) (h : List Event) (number : ℕ) (handing : Handing) (want : Option (ℕ × Want))
    (o : Option Held) → AllWanted options h
    → first_want (story options h) number ≡ want
    → held_for (held options h) (option_map (λ (w : ℕ × Want). w.1) want) ≡ o → AllHaveTheirCause options h
    → AllHaveTheirCause options
    (with_puts (puts_article (is_streaming (phase options h)) handing o) (Handed number handing ∷ h))
article-caused options h number (Sendable block) want None wants first e all = all
article-caused options h number (Sendable block) None (Some x) wants first e all = cc
article-caused options h number (Sendable block) (Some want) (Some x) wants first e all =
    let s = is_streaming (phase options h) in
    let sends = with-verb (is_streaming (phase options h)) x block in
    let there : want.1.ticket ≡ (ask_with (is_streaming (phase options h)) x block).ticket =
    sym (find-is_at want.1.ticket (held options h) x e).0 ∙ sym sends.1 in
    let cause : IsHandedFor options h number (Sendable block) (ask_with (is_streaming (phase options h)) x block) =
    record {
      want = want;
      first = first;
      about = there;
      reason = subst (λ p. IsWanted options h p) there (found-wanted options h number want wants first);
      block = ap (λ b. Sendable b) (sym sends.2);
      verb = sends.0;
    } in
    (cause, all)
article-caused options h number Gone want o wants first e all = all
article-caused options h number Unsendable want o wants first e all = all

after-handed : (options : Options) (h : List Event) (number : ℕ) (handing : Handing) → AllWanted options h
    → AllHaveTheirCause options h → AllHaveTheirCause options (after options h (Handed number handing))
after-handed options h number handing wants all =
    holds-after options (AllHaveTheirCause options) (put-other options) h (Handed number handing)
    (puts_article (is_streaming (phase options h)) handing (held_wanting h (story options h) number)) refl
    (article-caused options h number handing (first_want (story options h) number)
    (held_wanting h (story options h) number) wants refl refl all)

either : (options : Options) (b : Bool) (h g : List Event) → AllHaveTheirCause options h
    → AllHaveTheirCause options g → AllHaveTheirCause options (if b then h else g)
either options true h g k q = k
either options false h g k q = q

event-caused : (options : Options) (g : List Event) (e : Event) → AllHaveTheirCause options g
    → AllHaveTheirCause options (after options g e)
    → AllHaveTheirCause options (if is_some (reason options g) then g else after options g e)
event-caused options g e old new = either options (is_some (reason options g)) g (after options g e) old new

pub all_caused : (options : Options) (h : List Event) → Arises options h → AllHaveTheirCause options h
all_caused options h Starts = tt
all_caused options h (Goes_on g (Offered debt) a ready) =
    after-offered options g debt (wants_at_once options g) refl (all_caused options g a)
all_caused options h (Goes_on g (Came reply) a can) =
    event-caused options g (Came reply) (all_caused options g a)
    (after-came options g reply (answered_ask options g reply) refl (all_caused options g a))
all_caused options h (Goes_on g (Faulted fault) a can) =
    event-caused options g (Faulted fault) (all_caused options g a)
    (holds-after options (AllHaveTheirCause options) (put-other options) g (Faulted fault) [] refl
    (all_caused options g a))
all_caused options h (Goes_on g (Handed number handing) a some) =
    after-handed options g number handing (all_wanted options g a) (all_caused options g a)
all_caused options h (Goes_on g (Sent count) a few) =
    either options (is_some (reason options g)) g (Sent count ∷ g) (all_caused options g a) (all_caused options g a)
all_caused options h (Goes_on g (Tick now) a can) =
    event-caused options g (Tick now) (all_caused options g a)
    (holds-after options (AllHaveTheirCause options) (put-other options) g (Tick now) [] refl
    (all_caused options g a))
all_caused options h (Goes_on g Broke a can) =
    event-caused options g Broke (all_caused options g a)
    (holds-after options (AllHaveTheirCause options) (put-other options) g Broke [] refl (all_caused options g a))
all_caused options h (Goes_on g Leave a can) =
    event-caused options g Leave (all_caused options g a)
    (holds-after options (AllHaveTheirCause options) (put-other options) g Leave [] refl (all_caused options g a))
all_caused options h (Goes_on g (Put command) a never) = absurd never
all_caused options h (Goes_on g Taken a few) = all_caused options g a
