-- MODE STREAM and QUIT are put out at most once.
use Rattle.std.proofs.Common.{◌≡◌, ℕ, ◌+◌, ◌≤◌, Bool, true, false, List, [], ◌∷◌, ◌++◌, refl, sym, subst, arith, Option}
use Rattle.std.proofs.Common.{Some, None}
use Rattle.std.specs.Prelude.{◌==◌, ◌&&◌, if◌then◌else◌, is_some}
use Rattle.conn_core.specs.Codes.{is_welcome, meaning}
use Rattle.conn_core.specs.Commands.{Ask, Command, ModeStream, Asks, Quit, Handing, Sendable, Gone, Unsendable, Held}
use Rattle.conn_core.specs.Commands.{check_of}
use Rattle.conn_core.specs.History.{Event, Offered, Put, Came, Faulted, Handed, Sent, Tick, Broke, Leave, after}
use Rattle.conn_core.specs.History.{answered_ask, held_wanting, is_leaving, is_mode, is_quit_due, is_streaming}
use Rattle.conn_core.specs.History.{newcomer, phase, phase_after, put_out, puts, puts_answer, puts_article, puts_block}
use Rattle.conn_core.specs.History.{puts_greeting, reason, story, wants_at_once, with_puts, Taken}
use Rattle.conn_laws.specs.Laws.{is_mode_stream, is_quit, times_put}
use Rattle.conn_core.specs.Stands.{Arises, Starts, Goes_on}
use Rattle.conn_core.specs.declared.codes.Meaning.{Meaning}
use Rattle.conn_core.specs.declared.codes.Meaning.TheVariants.{Wanted, SendBlock, Later, Final}
use Rattle.conn_core.specs.declared.options.Options.{Options}
use Rattle.conn_core.specs.declared.phase.Phase.{Phase}
use Rattle.conn_core.specs.declared.phase.Phase.TheVariants.{Greeting, Asking, Streaming, OneByOne, Leaving}

times_put-append : (test : Command → Bool) (xs ys : List Command) → times_put test (xs ++ ys) ≡ times_put test xs + times_put test ys
times_put-append test [] ys = omega arith
times_put-append test (x ∷ xs) ys = omega (arith, times_put-append test xs ys)

-- 1 while MODE STREAM may still come
abbrev to_ask : Phase → ℕ
to_ask Greeting = 1
to_ask Asking = 0
to_ask Streaming = 0
to_ask OneByOne = 0
to_ask Leaving = 0

-- 1 once QUIT is out
abbrev has_left : Phase → ℕ
has_left Greeting = 0
has_left Asking = 0
has_left Streaming = 0
has_left OneByOne = 0
has_left Leaving = 1

record Once (f : Phase) (out : List Command) : Type 0 where
  mode : to_ask f + times_put is_mode_stream out ≤ 1
  quit : times_put is_quit out ≤ has_left f

abbrev IsOnce : Options → List Event → Type 0
IsOnce options h = Once (phase options h) (put_out h)

put-ask : (options : Options) (g : List Event) (ask : Ask) → IsOnce options g → IsOnce options (Put (Asks ask) ∷ g)
put-ask options g ask o =
    let m = times_put-append is_mode_stream (put_out g) (Asks ask ∷ []) in
    let q = times_put-append is_quit (put_out g) (Asks ask ∷ []) in
    let mode = o.mode in
    let quit = o.quit in
    record { mode = omega (arith, m, mode); quit = omega (arith, q, quit) }

-- these commands are about debts
abbrev AreAsks : List Command → Type 0
AreAsks [] = Unit {0}
AreAsks (ModeStream ∷ commands) = ⊥
AreAsks (Asks ask ∷ commands) = AreAsks commands
AreAsks (Quit ∷ commands) = ⊥

put-asks : (options : Options) (commands : List Command) (g : List Event) → AreAsks commands → IsOnce options g → IsOnce options (with_puts commands g)
put-asks options [] g all o = o
put-asks options (ModeStream ∷ commands) g all o = absurd all
put-asks options (Asks ask ∷ commands) g all o = put-asks options commands (Put (Asks ask) ∷ g) all (put-ask options g ask o)
put-asks options (Quit ∷ commands) g all o = absurd all

not-left : (f : Phase) → is_mode f ≡ true → has_left f ≡ 0
not-left Greeting e = refl
not-left Asking e = refl
not-left Streaming e = refl
not-left OneByOne e = refl
not-left Leaving e = cc

put-quit : (options : Options) (g : List Event) (b : Bool) → (b ≡ true → is_mode (phase options g) ≡ true) → IsOnce options g → IsOnce options (if b then Put Quit ∷ g else g)
put-quit options g false due o = o
put-quit options g true due o =
    let m = times_put-append is_mode_stream (put_out g) (Quit ∷ []) in
    let q = times_put-append is_quit (put_out g) (Quit ∷ []) in
    let none = not-left (phase options g) (due refl) in
    let mode = o.mode in
    let quit = o.quit in
    record { mode = omega (arith, m, mode); quit = omega (arith, q, quit, none) }

due-mode : (a m c : Bool) → (a && (m && c)) ≡ true → m ≡ true
due-mode true true c e = refl
due-mode true false c e = cc
due-mode false m c e = cc

closed-up : (options : Options) (h : List Event) (e : Event) → IsOnce options (with_puts (puts options h e) (e ∷ h)) → IsOnce options (after options h e)
unfolding after
closed-up options h e o =
    let g : List Event = with_puts (puts options h e) (e ∷ h) in
    put-quit options (with_puts (puts options h e) (e ∷ h)) (is_quit_due options (with_puts (puts options h e) (e ∷ h)))
    (λ due. due-mode (is_leaving g) (is_mode (phase options g)) _ due) o

offered-asks : (b : Bool) (x : Held) → AreAsks (if b then [] else Asks (check_of x) ∷ [])
offered-asks true x = tt
offered-asks false x = tt

article-asks : (streaming : Bool) (handing : Handing) (o : Option Held) → AreAsks (puts_article streaming handing o)
article-asks streaming (Sendable block) None = tt
article-asks streaming (Sendable block) (Some x) = tt
article-asks streaming Gone o = tt
article-asks streaming Unsendable o = tt

block-asks : (m : Option Meaning) (ask : Ask) → AreAsks (puts_block m ask)
block-asks None ask = tt
block-asks (Some Wanted) ask = tt
block-asks (Some SendBlock) ask = tt
block-asks (Some Later) ask = tt
block-asks (Some (Final code)) ask = tt

answer-asks : (code : ℕ) (o : Option (ℕ × Ask)) → AreAsks (puts_answer code o)
answer-asks code None = tt
answer-asks code (Some command) = block-asks (meaning command.1.verb code) command.1

-- a greeting
greeted : (options : Options) (g : List Event) (good streaming : Bool) (more : List Command) → phase options g ≡ (if good then (if streaming then Asking else OneByOne) else Greeting)
    → Once Greeting (put_out g) → AreAsks more → IsOnce options (with_puts ((if good && streaming then ModeStream ∷ [] else []) ++ more) g)
greeted options g true true more e o all =
    let m = times_put-append is_mode_stream (put_out g) (ModeStream ∷ []) in
    let q = times_put-append is_quit (put_out g) (ModeStream ∷ []) in
    let mode = o.mode in
    let quit = o.quit in
    let here : Once Asking (put_out g ++ ModeStream ∷ []) = record { mode = omega (arith, m, mode); quit = omega (arith, q, quit) } in
    put-asks options more (Put ModeStream ∷ g) all (subst (λ f. Once f (put_out g ++ ModeStream ∷ [])) (sym e) here)
greeted options g true false more e o all =
    let mode = o.mode in
    let quit = o.quit in
    let here : Once OneByOne (put_out g) = record { mode = omega (arith, mode); quit = quit } in
    put-asks options more g all (subst (λ f. Once f (put_out g)) (sym e) here)
greeted options g false true more e o all = put-asks options more g all (subst (λ f. Once f (put_out g)) (sym e) o)
greeted options g false false more e o all = put-asks options more g all (subst (λ f. Once f (put_out g)) (sym e) o)

answered-mode : (b : Bool) (out : List Command) → Once Asking out → Once (if b then Streaming else OneByOne) out
answered-mode true out o = record { mode = o.mode; quit = o.quit }
answered-mode false out o = record { mode = o.mode; quit = o.quit }

replied : (options : Options) (g : List Event) (f : Phase) (code : ℕ) (more : List Command) → phase options g ≡ phase_after options.streaming f code
    → Once f (put_out g) → AreAsks more → IsOnce options (with_puts (puts_greeting options.streaming f code ++ more) g)
replied options g Greeting code more e o all = greeted options g (is_welcome code) options.streaming more e o all
replied options g Asking code more e o all =
    put-asks options more g all (subst (λ f. Once f (put_out g)) (sym e) (answered-mode (code == 203) (put_out g) o))
replied options g Streaming code more e o all = put-asks options more g all (subst (λ f. Once f (put_out g)) (sym e) o)
replied options g OneByOne code more e o all = put-asks options more g all (subst (λ f. Once f (put_out g)) (sym e) o)
replied options g Leaving code more e o all = put-asks options more g all (subst (λ f. Once f (put_out g)) (sym e) o)

either : (options : Options) (b : Bool) (h g : List Event) → IsOnce options h → IsOnce options g → IsOnce options (if b then h else g)
either options true h g k q = k
either options false h g k q = q

is_once : (options : Options) (h : List Event) → Arises options h → IsOnce options h
is_once options h Starts = record { mode = omega arith; quit = omega arith }
is_once options h (Goes_on g (Offered debt) a ready) =
    closed-up options g (Offered debt) (put-asks options (puts options g (Offered debt)) (Offered debt ∷ g) (offered-asks (wants_at_once options g) (newcomer g debt)) (is_once options g a))
is_once options h (Goes_on g (Came reply) a can) =
    either options (is_some (reason options g)) g (after options g (Came reply)) (is_once options g a)
    (closed-up options g (Came reply)
    (replied options (Came reply ∷ g) (phase options g) reply.code (puts_answer reply.code (answered_ask options g reply)) refl (is_once options g a) (answer-asks reply.code (answered_ask options g reply))))
is_once options h (Goes_on g (Faulted fault) a can) =
    either options (is_some (reason options g)) g (after options g (Faulted fault)) (is_once options g a) (closed-up options g (Faulted fault) (is_once options g a))
is_once options h (Goes_on g (Handed number handing) a some) =
    closed-up options g (Handed number handing)
    (put-asks options (puts options g (Handed number handing)) (Handed number handing ∷ g) (article-asks (is_streaming (phase options g)) handing (held_wanting g (story options g) number)) (is_once options g a))
is_once options h (Goes_on g (Sent count) a few) = either options (is_some (reason options g)) g (Sent count ∷ g) (is_once options g a) (is_once options g a)
is_once options h (Goes_on g (Tick now) a can) =
    either options (is_some (reason options g)) g (after options g (Tick now)) (is_once options g a) (closed-up options g (Tick now) (is_once options g a))
is_once options h (Goes_on g Broke a can) =
    either options (is_some (reason options g)) g (after options g Broke) (is_once options g a) (closed-up options g Broke (is_once options g a))
is_once options h (Goes_on g Leave a can) =
    either options (is_some (reason options g)) g (after options g Leave) (is_once options g a) (closed-up options g Leave (is_once options g a))
is_once options h (Goes_on g (Put command) a never) = absurd never
is_once options h (Goes_on g Taken a few) = is_once options g a

at-most-left : (f : Phase) → has_left f ≤ 1
at-most-left Greeting = omega arith
at-most-left Asking = omega arith
at-most-left Streaming = omega arith
at-most-left OneByOne = omega arith
at-most-left Leaving = omega arith

pub mode_once : (options : Options) (h : List Event) → Arises options h → times_put is_mode_stream (put_out h) ≤ 1
mode_once options h a = let m = (is_once options h a).mode in omega (arith, m)

pub quit_once : (options : Options) (h : List Event) → Arises options h → times_put is_quit (put_out h) ≤ 1
quit_once options h a =
    let q = (is_once options h a).quit in
    let least = at-most-left (phase options h) in
    omega (arith, q, least)
