-- Nothing is put out twice: what may still come of a debt, with what is out, is one of each.
use Rattle.std.proofs.Common.{◌≡◌, ℕ, ◌+◌, ◌≤◌, Bool, true, false, List, [], ◌∷◌, ◌++◌, length, refl, sym, ap, subst}
use Rattle.std.proofs.Common.{◌∙◌, arith, find, Option, Some, None, cond, append-nil, length-append}
use Rattle.std.specs.Prelude.{◌==◌, ◌&&◌, if◌then◌else◌, is_some, nat_lt, option_map}
use Rattle.std.proofs.lemmas.Bool.Decides.{nat_tests}
use Rattle.reply_reader.specs.Stream.{Given}
use Rattle.reply_reader.specs.declared.fault.ReplyFault.{ReplyFault}
use Rattle.ledger_core.specs.State.{Owing}
use Rattle.ledger_core.specs.declared.note.FinalCode.TheVariants.{IhaveReceived, TakethisReceived, IhaveNotWanted}
use Rattle.ledger_core.specs.declared.note.FinalCode.TheVariants.{IhaveRejected, CheckNotWanted, TakethisRejected}
use Rattle.conn_core.specs.Codes.{meaning}
use Rattle.conn_core.specs.Used.{left_from}
use Rattle.conn_core.specs.Commands.{Ask, Command, Asks, Handing, Sendable, Gone, Unsendable, Held, Want, ask_with}
use Rattle.conn_core.specs.Commands.{block_of, check_of, held_for, is_at, want_of}
use Rattle.conn_core.specs.History.{Event, Offered, Put, Came, Faulted, Handed, Sent, Tick, Broke, Leave, Taken}
use Rattle.conn_core.specs.History.{accepted, answered, answered_ask, asks, after, first_want, held, is_streaming}
use Rattle.conn_core.specs.History.{newcomer, phase, puts_answer, puts_article, puts_block, puts_greeting, reason}
use Rattle.conn_core.specs.History.{story, wanted, wants_at_once, wants_by_answer, window, with_puts}
use Rattle.conn_laws.specs.Laws.{is_verb, offers_article, sends_block, times_asked}
use Rattle.conn_core.specs.Stands.{Arises, Starts, Goes_on}
use Rattle.conn_core.specs.declared.codes.Verb.{Verb}
use Rattle.conn_core.specs.declared.codes.Verb.TheVariants.{Check, Takethis, Ihave, Block}
use Rattle.conn_core.specs.declared.codes.Meaning.{Meaning}
use Rattle.conn_core.specs.declared.codes.Meaning.TheVariants.{Wanted, SendBlock, Later, Final}
use Rattle.conn_core.specs.declared.options.Options.{Options}
use Rattle.conn_laws.proofs.Behind.{article-none, greeting-none, holds-after, holds-greeted}
use Rattle.conn_core.specs.HeldLaws.{find-is_at}
use Rattle.conn_laws.proofs.Tallies.{asked, asked-tally, asks-put, tally, tally-least, wanted-handed, wanted-more}
use Rattle.conn_laws.proofs.Tallies.{wanted-none, window-came, window-none, window-put}

-- 1 for this ticket
abbrev pub one_at : ℕ → ℕ → ℕ
one_at p ticket = if ticket == p then 1 else 0

abbrev pub wants_at : ℕ → Want → ℕ
wants_at p want = one_at p want.ticket

-- 1 while no debt has been accepted at the ticket
abbrev pub to_come : ℕ → ℕ → ℕ
to_come p count = if nat_lt p count then 0 else 1

-- what may still come of a debt, with what is out: one CHECK, one TAKETHIS or IHAVE, and one block
record Budget (p count : ℕ) (out open_ones : List Ask) (wants : List Want) : Type 0 where
  checks : to_come p count + tally (asked (is_verb Check) p) out ≤ 1
  offered : to_come p count + tally (asked (is_verb Check) p) open_ones + tally (wants_at p) wants + tally (asked offers_article p) out ≤ 1
  blocks : to_come p count + tally (asked (is_verb Check) p) open_ones + tally (wants_at p) wants + tally (asked (is_verb Ihave) p) open_ones
      + tally (asked sends_block p) out ≤ 1

-- there is room for one more command
record Room (p count : ℕ) (out open_ones : List Ask) (wants : List Want) (ask : Ask) : Type 0 where
  checks : to_come p count + (tally (asked (is_verb Check) p) out + asked (is_verb Check) p ask) ≤ 1
  offered : to_come p count + (tally (asked (is_verb Check) p) open_ones + asked (is_verb Check) p ask) + tally (wants_at p) wants
      + (tally (asked offers_article p) out + asked offers_article p ask) ≤ 1
  blocks : to_come p count + (tally (asked (is_verb Check) p) open_ones + asked (is_verb Check) p ask) + tally (wants_at p) wants
      + (tally (asked (is_verb Ihave) p) open_ones + asked (is_verb Ihave) p ask) + (tally (asked sends_block p) out + asked sends_block p ask) ≤ 1

abbrev Keeps : Options → ℕ → List Event → Type 0
Keeps options p h = Budget p (length (accepted h)) (asks h) (window options h) (wanted options h)

-- a command about a debt goes out
put-ask : (options : Options) (p : ℕ) (g : List Event) (ask : Ask) → Room p (length (accepted g)) (asks g) (window options g) (wanted options g) ask
    → Keeps options p (Put (Asks ask) ∷ g)
unfolding story
put-ask options p g ask room =
    let k = asks-put (asked (is_verb Check) p) g ask in
    let s = asks-put (asked offers_article p) g ask in
    let b = asks-put (asked sends_block p) g ask in
    let c = window-put options (asked (is_verb Check) p) g ask in
    let i = window-put options (asked (is_verb Ihave) p) g ask in
    record {
      checks = rw k room.checks;
      offered = rw (c, s) room.offered;
      blocks = rw (c, i, b) room.blocks;
    }

-- what is not about a debt changes nothing
put-other : (options : Options) (p : ℕ) (g : List Event) (command : Command) → asks (Put command ∷ g) ≡ asks g → Keeps options p g → Keeps options p (Put command ∷ g)
unfolding story
put-other options p g command same b =
    subst (λ xs. Budget p (length (accepted g)) xs (left_from 0 xs (answered options g)) (wanted options g)) (sym same) b

-- one more debt is accepted
come-less : (p n : ℕ) → to_come p (n + 1) + one_at p n ≡ to_come p n
come-less p n = grind (arith, nat_tests)

comes : (p n m : ℕ) → m ≡ n + 1 → to_come p m + one_at p n ≡ to_come p n
comes p n m e = subst (λ k. to_come p k + one_at p n ≡ to_come p n) (sym e) (come-less p n)

new-want : (p n m : ℕ) (out open_ones : List Ask) (wants more : List Want) → m ≡ n + 1 → tally (wants_at p) more ≡ tally (wants_at p) wants + one_at p n
    → Budget p n out open_ones wants → Budget p m out open_ones more
new-want p n m out open_ones wants more e grown b =
    let less = comes p n m e in
    let k = b.checks in
    let o = b.offered in
    let x = b.blocks in
    record { checks = omega (arith, less, k); offered = omega (arith, less, grown, o); blocks = omega (arith, less, grown, x) }

new-check : (p m : ℕ) (out open_ones : List Ask) (wants : List Want) (x : Held) → m ≡ x.ticket + 1 → Budget p x.ticket out open_ones wants → Room p m out open_ones wants (check_of x)
new-check p m out open_ones wants x e b =
    let less = comes p x.ticket m e in
    let k = b.checks in
    let o = b.offered in
    let z = b.blocks in
    record { checks = omega (arith, less, k); offered = omega (arith, less, o); blocks = omega (arith, less, z) }

-- what is wanted after a debt is accepted
pub offered-wanted : (options : Options) (h : List Event) (debt : Owing) (b : Bool) → wants_at_once options h ≡ b
    → wanted options (Offered debt ∷ h) ≡ left_from 0 (if b then (story options h).wants ++ want_of (newcomer h debt) ∷ [] else (story options h).wants) (story options h).handed
unfolding story
offered-wanted options h debt true e = rw e refl
offered-wanted options h debt false e = rw e refl

after-offered : (options : Options) (p : ℕ) (h : List Event) (debt : Owing) (b : Bool) → wants_at_once options h ≡ b → Keeps options p h → Keeps options p (after options h (Offered debt))
after-offered options p h debt true e k =
    let len : length (accepted h ++ debt ∷ []) ≡ length (accepted h) + 1 = omega (arith, length-append (accepted h) (debt ∷ [])) in
    let more = wanted-more options (wants_at p) h (want_of (newcomer h debt)) in
    let grown : tally (wants_at p) (wanted options (Offered debt ∷ h)) ≡ tally (wants_at p) (wanted options h) + one_at p (length (accepted h)) =
    ap (tally (wants_at p)) (offered-wanted options h debt true e) ∙ more
    in
    holds-after options (Keeps options p) (put-other options p) h (Offered debt) [] (rw e refl) (new-want p (length (accepted h)) _ (asks h) (window options h) (wanted options h) _ len grown k)
after-offered options p h debt false e k =
    let len : length (accepted h ++ debt ∷ []) ≡ length (accepted h) + 1 = omega (arith, length-append (accepted h) (debt ∷ [])) in
    let room = new-check p (length (accepted h ++ debt ∷ [])) (asks h) (window options h) (wanted options h) (newcomer h debt) len k in
    holds-after options (Keeps options p) (put-other options p) h (Offered debt) (Asks (check_of (newcomer h debt)) ∷ []) (rw e refl)
    (put-ask options p (Offered debt ∷ h) (check_of (newcomer h debt))
    (subst (λ v. Room p (length (accepted h ++ debt ∷ [])) (asks h) (window options h) v (check_of (newcomer h debt))) (sym (offered-wanted options h debt false e)) room))

-- which command a code can say this to
meant-step : {R : Type 0} (b : Bool) (m says : Meaning) (rest : Option Meaning) → (m ≡ says → R) → (rest ≡ Some says → R) → (if b then Some m else rest) ≡ Some says → R
meant-step true m says rest here there e = let same : m ≡ says = cc in here same
meant-step false m says rest here there e = there e

wanted-check : (verb : Verb) (code : ℕ) → meaning verb code ≡ Some Wanted → verb ≡ Check
wanted-check Check code e = refl
wanted-check Takethis code e =
    meant-step (code == 239) (Final TakethisReceived) Wanted _ (λ s. cc) (λ f. meant-step (code == 439) (Final TakethisRejected) Wanted None (λ s. cc) (λ g. cc) f) e
wanted-check Ihave code e =
    meant-step (code == 335) SendBlock Wanted _ (λ s. cc)
    (λ f. meant-step (code == 435) (Final IhaveNotWanted) Wanted _ (λ s. cc) (λ g. meant-step (code == 436) Later Wanted None (λ s. cc) (λ k. cc) g) f) e
wanted-check Block code e =
    meant-step (code == 235) (Final IhaveReceived) Wanted _ (λ s. cc)
    (λ f. meant-step (code == 437) (Final IhaveRejected) Wanted _ (λ s. cc) (λ g. meant-step (code == 436) Later Wanted None (λ s. cc) (λ k. cc) g) f) e

block-ihave : (verb : Verb) (code : ℕ) → meaning verb code ≡ Some SendBlock → verb ≡ Ihave
block-ihave Ihave code e = refl
block-ihave Takethis code e =
    meant-step (code == 239) (Final TakethisReceived) SendBlock _ (λ s. cc) (λ f. meant-step (code == 439) (Final TakethisRejected) SendBlock None (λ s. cc) (λ g. cc) f) e
block-ihave Check code e =
    meant-step (code == 238) Wanted SendBlock _ (λ s. cc)
    (λ f. meant-step (code == 431) Later SendBlock _ (λ s. cc) (λ g. meant-step (code == 438) (Final CheckNotWanted) SendBlock None (λ s. cc) (λ k. cc) g) f) e
block-ihave Block code e =
    meant-step (code == 235) (Final IhaveReceived) SendBlock _ (λ s. cc)
    (λ f. meant-step (code == 437) (Final IhaveRejected) SendBlock _ (λ s. cc) (λ g. meant-step (code == 436) Later SendBlock None (λ s. cc) (λ k. cc) g) f) e

asked-is : (verb : Verb) (p : ℕ) (a : Ask) → is_verb verb verb ≡ true → a.verb ≡ verb → asked (is_verb verb) p a ≡ one_at p a.ticket
asked-is verb p a same e =
    ap (λ v. if is_verb verb v && (a.ticket == p) then 1 else 0) e ∙ ap (λ b. if b && (a.ticket == p) then 1 else 0) same

-- a command has an answer
module _ (p n : ℕ) (out old new : List Ask) (wants : List Want) (a : Ask)
    (checks_less : tally (asked (is_verb Check) p) new + asked (is_verb Check) p a ≡ tally (asked (is_verb Check) p) old)
    (ihaves_less : tally (asked (is_verb Ihave) p) new + asked (is_verb Ihave) p a ≡ tally (asked (is_verb Ihave) p) old) (b : Budget p n out old wants) where
  answered-less : Budget p n out new wants
  answered-less =
      let k = b.checks in
      let o = b.offered in
      let z = b.blocks in
      record { checks = k; offered = omega (arith, checks_less, o); blocks = omega (arith, checks_less, ihaves_less, z) }

  answered-wanted : (want : Want) (more : List Want) → a.verb ≡ Check → want.ticket ≡ a.ticket → tally (wants_at p) more ≡ tally (wants_at p) wants + wants_at p want
      → Budget p n out new more
  answered-wanted want more is_check there grown =
      let k = b.checks in
      let o = b.offered in
      let z = b.blocks in
      let one : asked (is_verb Check) p a ≡ one_at p want.ticket = asked-is Check p a refl is_check ∙ ap (one_at p) (sym there) in
      record { checks = k; offered = omega (arith, checks_less, grown, one, o); blocks = omega (arith, checks_less, ihaves_less, grown, one, z) }

  answered-block : a.verb ≡ Ihave → Room p n out new wants (block_of a)
  answered-block is_ihave =
      let k = b.checks in
      let o = b.offered in
      let z = b.blocks in
      let one : asked (is_verb Ihave) p a ≡ one_at p a.ticket = asked-is Ihave p a refl is_ihave in
      record { checks = omega (arith, k); offered = omega (arith, checks_less, o); blocks = omega (arith, checks_less, ihaves_less, one, z) }

-- what is wanted after a reply
pub came-wanted : (options : Options) (h : List Event) (reply : Given) (o : Option (ℕ × Ask)) → answered_ask options h reply ≡ o
    → wanted options (Came reply ∷ h) ≡ left_from 0 ((story options h).wants ++ wants_by_answer (held options h) reply.code o) (story options h).handed
unfolding story
came-wanted options h reply o e =
    ap (λ (o : Option (ℕ × Ask)). left_from 0 ((story options h).wants ++ wants_by_answer (held options h) reply.code o) (story options h).handed) e

pub came-nothing : (options : Options) (h : List Event) (reply : Given) (o : Option (ℕ × Ask)) → answered_ask options h reply ≡ o → wants_by_answer (held options h) reply.code o ≡ []
    → wanted options (Came reply ∷ h) ≡ wanted options h
came-nothing options h reply o e none =
    came-wanted options h reply o e
    ∙ ap (λ ws. left_from 0 ((story options h).wants ++ ws) (story options h).handed) none
    ∙ ap (λ ws. left_from 0 ws (story options h).handed) (append-nil (story options h).wants)

module _ (options : Options) (p : ℕ) (h : List Event) (reply : Given) (command : ℕ × Ask) (e : answered_ask options h reply ≡ Some command) (k : Keeps options p h) where
  came-less : Budget p (length (accepted h)) (asks h) (window options (Came reply ∷ h)) (wanted options h)
  came-less =
      answered-less p (length (accepted h)) (asks h) (window options h) (window options (Came reply ∷ h)) (wanted options h) command.1
      (window-came options (asked (is_verb Check) p) h reply command e) (window-came options (asked (is_verb Ihave) p) h reply command e) k

  came-quiet : wants_by_answer (held options h) reply.code (Some command) ≡ [] → Keeps options p (Came reply ∷ h)
  came-quiet none =
      subst (λ v. Budget p (length (accepted h)) (asks h) (window options (Came reply ∷ h)) v) (sym (came-nothing options h reply (Some command) e none)) came-less

  came-puts : (m : Option Meaning) (o : Option Held) → meaning command.1.verb reply.code ≡ m → find (is_at command.1.ticket) (held options h) ≡ o
      → Keeps options p (with_puts (puts_block m command.1) (Came reply ∷ h))
  came-puts None o em eo = came-quiet (rw em refl)
  came-puts (Some Later) o em eo = came-quiet (rw em refl)
  came-puts (Some (Final code)) o em eo = came-quiet (rw em refl)
  came-puts (Some Wanted) None em eo = came-quiet (rw (em, eo) refl)
  came-puts (Some Wanted) (Some x) em eo =
      let same : wants_by_answer (held options h) reply.code (Some command) ≡ want_of x ∷ [] = rw (em, eo) refl in
      let all : wanted options (Came reply ∷ h) ≡ left_from 0 ((story options h).wants ++ want_of x ∷ []) (story options h).handed =
      came-wanted options h reply (Some command) e ∙ ap (λ ws. left_from 0 ((story options h).wants ++ ws) (story options h).handed) same
      in
      answered-wanted p (length (accepted h)) (asks h) (window options h) (window options (Came reply ∷ h)) (wanted options h) command.1
      (window-came options (asked (is_verb Check) p) h reply command e) (window-came options (asked (is_verb Ihave) p) h reply command e) k (want_of x)
      (wanted options (Came reply ∷ h)) (wanted-check command.1.verb reply.code em) (find-is_at command.1.ticket (held options h) x eo).0
      (ap (tally (wants_at p)) all ∙ wanted-more options (wants_at p) h (want_of x))
  came-puts (Some SendBlock) o em eo =
      let room =
      answered-block p (length (accepted h)) (asks h) (window options h) (window options (Came reply ∷ h)) (wanted options h) command.1
      (window-came options (asked (is_verb Check) p) h reply command e) (window-came options (asked (is_verb Ihave) p) h reply command e) k (block-ihave command.1.verb reply.code em)
      in
      let none : wants_by_answer (held options h) reply.code (Some command) ≡ [] = rw em refl in
      put-ask options p (Came reply ∷ h) (block_of command.1)
      (subst (λ v. Room p (length (accepted h)) (asks h) (window options (Came reply ∷ h)) v (block_of command.1)) (sym (came-nothing options h reply (Some command) e none)) room)

after-came : (options : Options) (p : ℕ) (h : List Event) (reply : Given) (o : Option (ℕ × Ask)) → answered_ask options h reply ≡ o → Keeps options p h
    → Keeps options p (after options h (Came reply))
after-came options p h reply None e k =
    let still : Keeps options p (Came reply ∷ h) =
    subst (λ v. Budget p (length (accepted h)) (asks h) (window options (Came reply ∷ h)) v) (sym (came-nothing options h reply None e refl))
    (subst (λ w. Budget p (length (accepted h)) (asks h) w (wanted options h)) (sym (window-none options h reply e)) k)
    in
    holds-after options (Keeps options p) (put-other options p) h (Came reply) (puts_greeting options.streaming (phase options h) reply.code ++ [])
    (ap (λ (o : Option (ℕ × Ask)). puts_greeting options.streaming (phase options h) reply.code ++ puts_answer reply.code o) e)
    (holds-greeted options (Keeps options p) (put-other options p) options.streaming (phase options h) reply.code (Came reply ∷ h) still)
after-came options p h reply (Some command) e k =
    let quiet = greeting-none options.streaming (phase options h) reply (answered options h) (asks h) command e in
    holds-after options (Keeps options p) (put-other options p) h (Came reply) (puts_answer reply.code (Some command))
    (ap (λ cs. cs ++ puts_answer reply.code (answered_ask options h reply)) quiet ∙ ap (λ (o : Option (ℕ × Ask)). puts_answer reply.code o) e)
    (came-puts options p h reply command e k (meaning command.1.verb reply.code) _ refl refl)

-- an article is handed in
handed-ask : (p n : ℕ) (out open_ones : List Ask) (old new : List Want) (want : Want) (x : Held) (block : List ℕ) (streaming : Bool)
    → tally (wants_at p) new + wants_at p want ≡ tally (wants_at p) old → x.ticket ≡ want.ticket → Budget p n out open_ones old
    → Room p n out open_ones new (ask_with streaming x block)
handed-ask p n out open_ones old new want x block true less there b =
    let one : one_at p x.ticket ≡ wants_at p want = ap (one_at p) there in
    let k = b.checks in
    let o = b.offered in
    let z = b.blocks in
    record { checks = omega (arith, k); offered = omega (arith, less, one, o); blocks = omega (arith, less, one, z) }
handed-ask p n out open_ones old new want x block false less there b =
    let one : one_at p x.ticket ≡ wants_at p want = ap (one_at p) there in
    let k = b.checks in
    let o = b.offered in
    let z = b.blocks in
    record { checks = omega (arith, k); offered = omega (arith, less, one, o); blocks = omega (arith, less, one, z) }

handed-less : (p n : ℕ) (out open_ones : List Ask) (old new : List Want) (count : ℕ) → tally (wants_at p) new + count ≡ tally (wants_at p) old
    → Budget p n out open_ones old → Budget p n out open_ones new
handed-less p n out open_ones old new count less b =
    let k = b.checks in
    let o = b.offered in
    let z = b.blocks in
    record { checks = k; offered = omega (arith, less, o); blocks = omega (arith, less, z) }

handed-puts : (options : Options) (p : ℕ) (h : List Event) (number : ℕ) (handing : Handing) (want : ℕ × Want) (o : Option Held) → first_want (story options h) number ≡ Some want
    → find (is_at want.1.ticket) (held options h) ≡ o → Keeps options p h
    → Keeps options p (with_puts (puts_article (is_streaming (phase options h)) handing o) (Handed number handing ∷ h))
handed-puts options p h number (Sendable block) want (Some x) e eo k =
    put-ask options p (Handed number (Sendable block) ∷ h) (ask_with (is_streaming (phase options h)) x block)
    (handed-ask p (length (accepted h)) (asks h) (window options h) (wanted options h) _ want.1 x block (is_streaming (phase options h))
    (wanted-handed options (wants_at p) h number (Sendable block) want e) (find-is_at want.1.ticket (held options h) x eo).0 k)
handed-puts options p h number (Sendable block) want None e eo k =
    handed-less p (length (accepted h)) (asks h) (window options h) (wanted options h) _ _ (wanted-handed options (wants_at p) h number (Sendable block) want e) k
handed-puts options p h number Gone want o e eo k =
    handed-less p (length (accepted h)) (asks h) (window options h) (wanted options h) _ _ (wanted-handed options (wants_at p) h number Gone want e) k
handed-puts options p h number Unsendable want o e eo k =
    handed-less p (length (accepted h)) (asks h) (window options h) (wanted options h) _ _ (wanted-handed options (wants_at p) h number Unsendable want e) k

after-handed : (options : Options) (p : ℕ) (h : List Event) (number : ℕ) (handing : Handing) (o : Option (ℕ × Want)) → first_want (story options h) number ≡ o
    → Keeps options p h → Keeps options p (after options h (Handed number handing))
after-handed options p h number handing None e k =
    holds-after options (Keeps options p) (put-other options p) h (Handed number handing) []
    (ap (λ (o : Option (ℕ × Want)). puts_article (is_streaming (phase options h)) handing (held_for (held options h) (option_map (λ (w : ℕ × Want). w.1) o))) e ∙ article-none (is_streaming (phase options h)) handing)
    (subst (λ v. Budget p (length (accepted h)) (asks h) (window options h) v) (sym (wanted-none options h number handing e)) k)
after-handed options p h number handing (Some want) e k =
    holds-after options (Keeps options p) (put-other options p) h (Handed number handing) (puts_article (is_streaming (phase options h)) handing (find (is_at want.1.ticket) (held options h)))
    (ap (λ (o : Option (ℕ × Want)). puts_article (is_streaming (phase options h)) handing (held_for (held options h) (option_map (λ (w : ℕ × Want). w.1) o))) e)
    (handed-puts options p h number handing want _ e refl k)

-- the other events put out nothing about a debt
after-faulted : (options : Options) (p : ℕ) (h : List Event) (fault : ReplyFault) → Keeps options p h → Keeps options p (after options h (Faulted fault))
unfolding story
after-faulted options p h fault k = holds-after options (Keeps options p) (put-other options p) h (Faulted fault) [] refl k

after-tick : (options : Options) (p : ℕ) (h : List Event) (now : ℕ) → Keeps options p h → Keeps options p (after options h (Tick now))
unfolding story
after-tick options p h now k = holds-after options (Keeps options p) (put-other options p) h (Tick now) [] refl k

after-broke : (options : Options) (p : ℕ) (h : List Event) → Keeps options p h → Keeps options p (after options h Broke)
unfolding story
after-broke options p h k = holds-after options (Keeps options p) (put-other options p) h Broke [] refl k

after-leave : (options : Options) (p : ℕ) (h : List Event) → Keeps options p h → Keeps options p (after options h Leave)
unfolding story
after-leave options p h k = holds-after options (Keeps options p) (put-other options p) h Leave [] refl k

sent-keeps : (options : Options) (p : ℕ) (h : List Event) (count : ℕ) (b : Bool) → Keeps options p h → Keeps options p (if b then h else Sent count ∷ h)
unfolding story
sent-keeps options p h count true k = k
sent-keeps options p h count false k = k

taken-keeps : (options : Options) (p : ℕ) (h : List Event) → Keeps options p h → Keeps options p (Taken ∷ h)
unfolding story
taken-keeps options p h k = k

either : (options : Options) (p : ℕ) (b : Bool) (h g : List Event) → Keeps options p h → Keeps options p g → Keeps options p (if b then h else g)
either options p true h g k q = k
either options p false h g k q = q

one-or-none : (b : Bool) → cond b 0 1 + 0 ≤ 1
one-or-none true = omega arith
one-or-none false = omega arith

start-keeps : (options : Options) (p : ℕ) → Keeps options p []
unfolding story
start-keeps options p =
    let one = one-or-none (nat_lt p 0) in
    record { checks = one; offered = omega (arith, one); blocks = omega (arith, one) }

keeps : (options : Options) (p : ℕ) (h : List Event) → Arises options h → Keeps options p h
keeps options p h Starts = start-keeps options p
keeps options p h (Goes_on g (Offered debt) a ready) = after-offered options p g debt _ refl (keeps options p g a)
keeps options p h (Goes_on g (Came reply) a can) =
    either options p (is_some (reason options g)) g (after options g (Came reply)) (keeps options p g a) (after-came options p g reply _ refl (keeps options p g a))
keeps options p h (Goes_on g (Faulted fault) a can) =
    either options p (is_some (reason options g)) g (after options g (Faulted fault)) (keeps options p g a) (after-faulted options p g fault (keeps options p g a))
keeps options p h (Goes_on g (Handed number handing) a some) = after-handed options p g number handing _ refl (keeps options p g a)
keeps options p h (Goes_on g (Sent count) a few) = sent-keeps options p g count (is_some (reason options g)) (keeps options p g a)
keeps options p h (Goes_on g (Tick now) a can) =
    either options p (is_some (reason options g)) g (after options g (Tick now)) (keeps options p g a) (after-tick options p g now (keeps options p g a))
keeps options p h (Goes_on g Broke a can) =
    either options p (is_some (reason options g)) g (after options g Broke) (keeps options p g a) (after-broke options p g (keeps options p g a))
keeps options p h (Goes_on g Leave a can) =
    either options p (is_some (reason options g)) g (after options g Leave) (keeps options p g a) (after-leave options p g (keeps options p g a))
keeps options p h (Goes_on g (Put command) a never) = absurd never
keeps options p h (Goes_on g Taken a few) = taken-keeps options p g (keeps options p g a)

-- of two verbs, one is the other
less-step : (a b c : Bool) → (a ≡ true → b ≡ true) → (if a && c then 1 else 0) ≤ (if b && c then 1 else 0)
less-step false b c e = omega arith
less-step true b c e = rw (e refl) (omega arith)

is-offer : (verb other : Verb) → offers_article verb ≡ true → is_verb verb other ≡ true → offers_article other ≡ true
is-offer Check other o e = cc
is-offer Block other o e = cc
is-offer Takethis Check o e = cc
is-offer Takethis Takethis o e = refl
is-offer Takethis Ihave o e = refl
is-offer Takethis Block o e = cc
is-offer Ihave Check o e = cc
is-offer Ihave Takethis o e = refl
is-offer Ihave Ihave o e = refl
is-offer Ihave Block o e = cc

is-block : (other : Verb) → is_verb Block other ≡ true → sends_block other ≡ true
is-block Check e = cc
is-block Takethis e = refl
is-block Ihave e = cc
is-block Block e = refl

offers-once : (options : Options) (p : ℕ) (verb : Verb) (h : List Event) → offers_article verb ≡ true → Arises options h → tally (asked (is_verb verb) p) (asks h) ≤ 1
offers-once options p verb h o a =
    let k = (keeps options p h a).offered in
    let less = tally-least (asked (is_verb verb) p) (asked offers_article p) (λ ask. less-step (is_verb verb ask.verb) (offers_article ask.verb) (ask.ticket == p) (is-offer verb ask.verb o)) (asks h) in
    omega (arith, k, less)

blocks-once : (options : Options) (p : ℕ) (h : List Event) → Arises options h → tally (asked sends_block p) (asks h) ≤ 1
blocks-once options p h a = let k = (keeps options p h a).blocks in omega (arith, k)

verb-once : (options : Options) (p : ℕ) (verb : Verb) (h : List Event) → Arises options h → tally (asked (is_verb verb) p) (asks h) ≤ 1
verb-once options p Check h a = let k = (keeps options p h a).checks in omega (arith, k)
verb-once options p Takethis h a = offers-once options p Takethis h refl a
verb-once options p Ihave h a = offers-once options p Ihave h refl a
verb-once options p Block h a =
    let k = blocks-once options p h a in
    let less = tally-least (asked (is_verb Block) p) (asked sends_block p) (λ ask. less-step (is_verb Block ask.verb) (sends_block ask.verb) (ask.ticket == p) (is-block ask.verb)) (asks h) in
    omega (arith, k, less)

pub asked_once : (options : Options) (h : List Event) (ticket : ℕ) (verb : Verb) → Arises options h → times_asked (is_verb verb) ticket (asks h) ≤ 1
asked_once options h ticket verb a = rw (asked-tally (is_verb verb) ticket (asks h)) (verb-once options ticket verb h a)

pub sent_once : (options : Options) (h : List Event) (ticket : ℕ) → Arises options h → times_asked sends_block ticket (asks h) ≤ 1
sent_once options h ticket a = rw (asked-tally sends_block ticket (asks h)) (blocks-once options ticket h a)

pub offered_once : (options : Options) (h : List Event) (ticket : ℕ) → Arises options h → times_asked offers_article ticket (asks h) ≤ 1
offered_once options h ticket a = rw (asked-tally offers_article ticket (asks h)) (let k = (keeps options ticket h a).offered in omega (arith, k))
