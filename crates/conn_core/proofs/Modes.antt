-- In streaming mode no command keeps a block for its answer: no IHAVE is put out then, nor before.
use Rattle.std.proofs.Common.{◌≡◌, ℕ, ◌<◌, Bool, true, false, List, [], ◌∷◌, ◌++◌, refl, ◌∙◌, arith, Option, Some, None}
use Rattle.std.specs.Prelude.{◌==◌, ◌&&◌, if◌then◌else◌, nat_lt, is_some}
use Rattle.std.proofs.lemmas.Bool.{ltb-true}
use Rattle.std.proofs.lemmas.List.{append-nil}
use Rattle.reply_reader.specs.Stream.{Given}
use Rattle.ledger_core.specs.State.{Owing}
use Rattle.conn_core.specs.Codes.{meaning, is_welcome}
use Rattle.conn_core.specs.Commands.{Ask, Command, ModeStream, Asks, Quit, Handing, Sendable, Gone, Unsendable, Held, Want, held_for, check_of}
use Rattle.conn_core.specs.History.{Event, Offered, Put, Came, Faulted, Handed, Sent, Tick, Broke, Leave, accepted, asks, ask_in, phase, phase_after, phase_put, is_streaming, is_mode, room, answered, answered_now, reason, held_from, wants_at_once, newcomer, puts, puts_greeting, puts_answer, puts_block, puts_article, with_puts, is_quit_due, after, outside, Taken}
use Rattle.conn_core.specs.State.{kept_for, kept_blocks}
use Rattle.conn_core.specs.Stands.{Arises, Starts, ready_when, Goes_on}
use Rattle.conn_core.specs.declared.codes.Meaning.{Meaning}
use Rattle.conn_core.specs.declared.codes.Meaning.TheVariants.{Wanted, SendBlock, Later, Final}
use Rattle.conn_core.specs.declared.phase.Phase.{Phase}
use Rattle.conn_core.specs.declared.phase.Phase.TheVariants.{Greeting, Asking, Streaming, OneByOne, Leaving}
use Rattle.conn_core.specs.declared.options.Options.{Options}
use Rattle.conn_core.specs.declared.ready.Ready.TheVariants.{Yes}
use Rattle.conn_core.proofs.Blocks.{kept-more}

-- in streaming mode no IHAVE was put out
abbrev pub Plain : Phase → List Ask → Type 0
Plain Greeting commands = Unit {0}
Plain Asking commands = Unit {0}
Plain Streaming commands = kept_blocks commands ≡ []
Plain OneByOne commands = Unit {0}
Plain Leaving commands = Unit {0}

-- the same, and before a mode is agreed no debt was accepted and none was asked about
abbrev pub Calm : Phase → List Owing → List Ask → Type 0
Calm Greeting debts commands = (debts ≡ []) × (commands ≡ [])
Calm Asking debts commands = (debts ≡ []) × (commands ≡ [])
Calm Streaming debts commands = kept_blocks commands ≡ []
Calm OneByOne debts commands = Unit {0}
Calm Leaving debts commands = Unit {0}

calm-plain : (p : Phase) (debts : List Owing) (commands : List Ask) → Calm p debts commands → Plain p commands
calm-plain Greeting debts commands c = tt
calm-plain Asking debts commands c = tt
calm-plain Streaming debts commands c = c
calm-plain OneByOne debts commands c = tt
calm-plain Leaving debts commands c = tt

-- the commands that keep it so
abbrev IsCalm : Phase → Command → Type 0
IsCalm p ModeStream = Unit {0}
IsCalm p Quit = Unit {0}
IsCalm Greeting (Asks ask) = ⊥
IsCalm Asking (Asks ask) = ⊥
IsCalm Streaming (Asks ask) = kept_for ask.verb ask.block ≡ []
IsCalm OneByOne (Asks ask) = Unit {0}
IsCalm Leaving (Asks ask) = Unit {0}

abbrev AreCalm : Phase → List Command → Type 0
AreCalm p [] = Unit {0}
AreCalm p (command ∷ commands) = IsCalm p command × AreCalm (phase_put p command) commands

calm-same : (p : Phase) (debts : List Owing) (commands : List Ask) → Calm p debts commands → Calm p debts (commands ++ [])
calm-same p debts commands c = rw append-nil c

calm-put : (p : Phase) (debts : List Owing) (commands : List Ask) (command : Command) → IsCalm p command → Calm p debts commands → Calm (phase_put p command) debts (commands ++ ask_in command)
calm-put p debts commands ModeStream i c = calm-same p debts commands c
calm-put p debts commands Quit i c = tt
calm-put Greeting debts commands (Asks ask) i c = absurd i
calm-put Asking debts commands (Asks ask) i c = absurd i
calm-put Streaming debts commands (Asks ask) i c = kept-more commands ask ∙ rw (c, i) refl
calm-put OneByOne debts commands (Asks ask) i c = tt
calm-put Leaving debts commands (Asks ask) i c = tt

-- a reply
calm-on_greeting : (b streaming : Bool) (debts : List Owing) (commands : List Ask) → Calm Greeting debts commands → Calm (if b then (if streaming then Asking else OneByOne) else Greeting) debts commands
calm-on_greeting true true debts commands c = c
calm-on_greeting true false debts commands c = tt
calm-on_greeting false streaming debts commands c = c

calm-asked : (b : Bool) (debts : List Owing) (commands : List Ask) → Calm Asking debts commands → Calm (if b then Streaming else OneByOne) debts commands
calm-asked true debts commands c = rw c.1 refl
calm-asked false debts commands c = tt

calm-on_reply : (streaming : Bool) (p : Phase) (code : ℕ) (debts : List Owing) (commands : List Ask) → Calm p debts commands → Calm (phase_after streaming p code) debts commands
calm-on_reply streaming Greeting code debts commands c = calm-on_greeting (is_welcome code) streaming debts commands c
calm-on_reply streaming Asking code debts commands c = calm-asked (code == 203) debts commands c
calm-on_reply streaming Streaming code debts commands c = c
calm-on_reply streaming OneByOne code debts commands c = tt
calm-on_reply streaming Leaving code debts commands c = tt

-- what it puts out
puts-mode : (p : Phase) (b : Bool) → AreCalm p ((if b then ModeStream ∷ [] else []) ++ [])
puts-mode p true = (tt, tt)
puts-mode p false = tt

puts-block : (m : Option Meaning) (ask : Ask) → AreCalm Streaming (puts_block m ask)
puts-block None ask = tt
puts-block (Some Wanted) ask = tt
puts-block (Some SendBlock) ask = (refl, tt)
puts-block (Some Later) ask = tt
puts-block (Some (Final code)) ask = tt

puts-block_one : (m : Option Meaning) (ask : Ask) → AreCalm OneByOne (puts_block m ask)
puts-block_one None ask = tt
puts-block_one (Some Wanted) ask = tt
puts-block_one (Some SendBlock) ask = (tt, tt)
puts-block_one (Some Later) ask = tt
puts-block_one (Some (Final code)) ask = tt

puts-answer : (code : ℕ) (o : Option (ℕ × Ask)) → AreCalm Streaming (puts_answer code o)
puts-answer code None = tt
puts-answer code (Some found) = puts-block (meaning found.1.verb code) found.1

puts-answer_one : (code : ℕ) (o : Option (ℕ × Ask)) → AreCalm OneByOne (puts_answer code o)
puts-answer_one code None = tt
puts-answer_one code (Some found) = puts-block_one (meaning found.1.verb code) found.1

puts-on_reply : (streaming : Bool) (p : Phase) (reply : Given) (done : List ℕ) (commands : List Ask)
    → AreCalm (phase_after streaming p reply.code) (puts_greeting streaming p reply.code ++ puts_answer reply.code (answered_now p reply done commands))
puts-on_reply streaming Greeting reply done commands = puts-mode _ (is_welcome reply.code && streaming)
puts-on_reply streaming Asking reply done commands = tt
puts-on_reply streaming Streaming reply done commands = puts-answer reply.code _
puts-on_reply streaming OneByOne reply done commands = puts-answer_one reply.code _
puts-on_reply streaming Leaving reply done commands = tt

-- an article puts out nothing if no debt is held
puts-none : (handing : Handing) (gone : List ℕ) (o : Option Want) (p : Phase) (debts : List Owing) → debts ≡ [] → AreCalm p (puts_article false handing (held_for (held_from 0 debts gone) o))
puts-none handing gone o p debts e = rw e (none handing o)
  where
    none : (handing : Handing) (o : Option Want) → AreCalm p (puts_article false handing (held_for [] o))
    none (Sendable block) None = tt
    none (Sendable block) (Some want) = tt
    none Gone o = tt
    none Unsendable o = tt

puts-takethis : (handing : Handing) (x : Option Held) → AreCalm Streaming (puts_article true handing x)
puts-takethis (Sendable block) None = tt
puts-takethis (Sendable block) (Some x) = (refl, tt)
puts-takethis Gone x = tt
puts-takethis Unsendable x = tt

puts-ihave : (handing : Handing) (x : Option Held) → AreCalm OneByOne (puts_article false handing x)
puts-ihave (Sendable block) None = tt
puts-ihave (Sendable block) (Some x) = (tt, tt)
puts-ihave Gone x = tt
puts-ihave Unsendable x = tt

puts-leaving : (handing : Handing) (x : Option Held) → AreCalm Leaving (puts_article false handing x)
puts-leaving (Sendable block) None = tt
puts-leaving (Sendable block) (Some x) = (tt, tt)
puts-leaving Gone x = tt
puts-leaving Unsendable x = tt

puts-handed : (p : Phase) (debts : List Owing) (commands : List Ask) (handing : Handing) (gone : List ℕ) (o : Option Want) → Calm p debts commands
    → AreCalm p (puts_article (is_streaming p) handing (held_for (held_from 0 debts gone) o))
puts-handed Greeting debts commands handing gone o c = puts-none handing gone o Greeting debts c.0
puts-handed Asking debts commands handing gone o c = puts-none handing gone o Asking debts c.0
puts-handed Streaming debts commands handing gone o c = puts-takethis handing _
puts-handed OneByOne debts commands handing gone o c = puts-ihave handing _
puts-handed Leaving debts commands handing gone o c = puts-leaving handing _

-- a debt is accepted only if a mode is agreed
ready-room : (b q has_room : Bool) → ready_when b q has_room ≡ Yes → has_room ≡ true
ready-room true q has_room e = cc
ready-room false true has_room e = cc
ready-room false false true e = refl
ready-room false false false e = cc

room-mode : (options : Options) (p : Phase) (n : ℕ) → nat_lt n (room options p) ≡ true → is_mode p ≡ true
room-mode options Streaming n e = refl
room-mode options OneByOne n e = refl
room-mode options Greeting n e = let f : n < 0 = ltb-true n 0 e in absurd (omega arith)
room-mode options Asking n e = let f : n < 0 = ltb-true n 0 e in absurd (omega arith)
room-mode options Leaving n e = let f : n < 0 = ltb-true n 0 e in absurd (omega arith)

ready-mode : (options : Options) (p : Phase) (b q : Bool) (n : ℕ) → ready_when b q (nat_lt n (room options p)) ≡ Yes → is_mode p ≡ true
ready-mode options p b q n e = room-mode options p n (ready-room b q _ e)

calm-more : (p : Phase) (debts : List Owing) (commands : List Ask) (debt : Owing) → is_mode p ≡ true → Calm p debts commands → Calm p (debts ++ debt ∷ []) commands
calm-more Greeting debts commands debt e c = cc
calm-more Asking debts commands debt e c = cc
calm-more Streaming debts commands debt e c = c
calm-more OneByOne debts commands debt e c = tt
calm-more Leaving debts commands debt e c = tt

puts-check : (p : Phase) (b : Bool) (x : Held) → is_mode p ≡ true → AreCalm p (if b then [] else Asks (check_of x) ∷ [])
puts-check p true x e = tt
puts-check Greeting false x e = cc
puts-check Asking false x e = cc
puts-check Streaming false x e = (refl, tt)
puts-check OneByOne false x e = (tt, tt)
puts-check Leaving false x e = cc

module _ (options : Options) where
  -- it is so at a transcript
  abbrev pub IsCalmAt : List Event → Type 0
  IsCalmAt h = Calm (phase options h) (accepted h) (asks h)

  calm-puts : (commands : List Command) (h : List Event) → AreCalm (phase options h) commands → IsCalmAt h → IsCalmAt (with_puts commands h)
  calm-puts [] h i c = c
  calm-puts (command ∷ commands) h i c = calm-puts commands (Put command ∷ h) i.1 (calm-put (phase options h) (accepted h) (asks h) command i.0 c)

  calm-quit : (b : Bool) (h : List Event) → IsCalmAt h → IsCalmAt (if b then Put Quit ∷ h else h)
  calm-quit true h c = tt
  calm-quit false h c = c

  calm-after : (h : List Event) (e : Event) → IsCalmAt (e ∷ h) → AreCalm (phase options (e ∷ h)) (puts options h e) → IsCalmAt (after options h e)
  unfolding after
  calm-after h e c i = calm-quit (is_quit_due options (with_puts (puts options h e) (e ∷ h))) (with_puts (puts options h e) (e ∷ h)) (calm-puts (puts options h e) (e ∷ h) i c)

  calm-if : (b : Bool) (h g : List Event) → IsCalmAt h → IsCalmAt g → IsCalmAt (if b then h else g)
  calm-if true h g c d = c
  calm-if false h g c d = d

  calm-outside : (h : List Event) (e : Event) → IsCalmAt h → IsCalmAt (after options h e) → IsCalmAt (outside options h e)
  calm-outside h e c d = calm-if (is_some (reason options h)) h (after options h e) c d

  pub calm : (h : List Event) → Arises options h → IsCalmAt h
  calm h Starts = (refl, refl)
  calm h (Goes_on g (Offered debt) a ready) =
      let mode : is_mode (phase options g) ≡ true = ready-mode options (phase options g) _ _ _ ready in
      calm-after g (Offered debt) (calm-more (phase options g) (accepted g) (asks g) debt mode (calm g a)) (puts-check (phase options g) (wants_at_once options g) (newcomer g debt) mode)
  calm h (Goes_on g (Came reply) a can) =
      calm-outside g (Came reply) (calm g a) (calm-after g (Came reply) (calm-on_reply options.streaming (phase options g) reply.code (accepted g) (asks g) (calm g a)) (puts-on_reply options.streaming (phase options g) reply (answered options g) (asks g)))
  calm h (Goes_on g (Faulted fault) a can) = calm-outside g (Faulted fault) (calm g a) (calm-after g (Faulted fault) (calm g a) tt)
  calm h (Goes_on g (Handed number handing) a need) =
      calm-after g (Handed number handing) (calm g a) (puts-handed (phase options g) (accepted g) (asks g) handing _ _ (calm g a))
  calm h (Goes_on g (Sent count) a few) = calm-if (is_some (reason options g)) g (Sent count ∷ g) (calm g a) (calm g a)
  calm h (Goes_on g (Tick now) a can) = calm-outside g (Tick now) (calm g a) (calm-after g (Tick now) (calm g a) tt)
  calm h (Goes_on g Broke a can) = calm-outside g Broke (calm g a) (calm-after g Broke (calm g a) tt)
  calm h (Goes_on g Leave a can) = calm-outside g Leave (calm g a) (calm-after g Leave (calm g a) tt)
  calm h (Goes_on g (Put command) a never) = absurd never
  calm h (Goes_on g Taken a some) = calm g a

  -- in streaming mode no IHAVE was put out, whatever the calls were
  pub arises-plain : (h : List Event) → Arises options h → Plain (phase options h) (asks h)
  arises-plain h a = calm-plain (phase options h) (accepted h) (asks h) (calm h a)
