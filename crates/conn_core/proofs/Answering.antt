-- What an answer makes of a connection, by its code.
use Rattle.std.proofs.Common.{◌≡◌, ℕ, Bool, true, false, List, [], ◌∷◌, refl, sym, ap, ◌∙◌, find, Option, Some, None}
use Rattle.std.specs.Prelude.{◌&&◌, is_some, drop}
use Rattle.std.specs.Set.{remove_key}
use Rattle.reply_reader.specs.Stream.{Given}
use Rattle.conn_core.specs.Checks.{counts}
use Rattle.conn_core.specs.Codes.{meaning}
use Rattle.conn_core.specs.Commands.{Held, is_at}
use Rattle.conn_core.specs.Kept.{answered_with, can_answer, settled_by}
use Rattle.conn_core.specs.Machine.{counted_by, first_block, let_go, sends_block, told}
use Rattle.conn_core.specs.State.{Awaited, State}
use Rattle.conn_core.specs.declared.codes.Verb.{Verb}
use Rattle.conn_core.specs.declared.codes.Verb.TheVariants.{Check, Takethis, Ihave, Block}
use Rattle.conn_core.specs.declared.codes.Meaning.{Meaning}
use Rattle.conn_core.specs.declared.codes.Meaning.TheVariants.{Wanted, SendBlock, Later, Final}
use Rattle.conn_core.specs.declared.mode.Mode.{Mode}
use Rattle.conn_core.specs.declared.mode.Mode.TheVariants.{Streaming as InStreaming, Ihave as ByIhave}
use Rattle.conn_core.proofs.Lookups.{find-passes}

and-left : (a b : Bool) → (a && b) ≡ true → a ≡ true
and-left true b e = refl
and-left false b e = e

-- a reply can answer only a command whose answer its code can be
can_answer-belongs : (mode : Mode) (held : List Held) (reply : Given) (ask : Awaited)
    → can_answer mode held reply ask ≡ true → is_some (meaning ask.verb reply.code) ≡ true
can_answer-belongs InStreaming held reply ask e = and-left _ _ e
can_answer-belongs ByIhave held reply ask e = e

module _ (s : State) (mode : Mode) (reply : Given) (ask : Awaited)
    (found : find (can_answer mode s.held reply) s.window ≡ Some ask) where
  belongs-found : is_some (meaning ask.verb reply.code) ≡ true
  belongs-found = can_answer-belongs mode s.held reply ask
      (find-passes (can_answer mode s.held reply) s.window ask found)

  -- the connection without the command that is answered
  abbrev answered_state : List (List ℕ) → State
  answered_state blocks = record s {
    window = remove_key (can_answer mode s.held reply) s.window;
    blocks = blocks;
    has_answered = true;
  }

  -- the answer, case by case
  pub answered-is : (m : Option Meaning) (x : Option Held) → meaning ask.verb reply.code ≡ m → find (is_at ask.ticket) s.held ≡ x
      → answered_with s mode reply ≡ told (counted_by (answered_state (let_go ask.verb s.blocks)) (counts reply.code)) m ask (first_block s.blocks) x
  answered-is m x e f = rw (found, e, f) refl

counts-238 : (code : ℕ) → code ≡ 238 → counts code ≡ []
counts-238 code e = rw e refl

counts-335 : (code : ℕ) → code ≡ 335 → counts code ≡ []
counts-335 code e = rw e refl

wanted-238 : (verb : Verb) (code : ℕ) (blocks : List (List ℕ)) → code ≡ 238 → is_some (meaning verb code) ≡ true → (meaning verb code ≡ Some Wanted) × (let_go verb blocks ≡ blocks)
wanted-238 Check code blocks e b = (rw e refl, refl)
wanted-238 Takethis code blocks e b = let no : is_some (meaning Takethis 238) ≡ true = rw e at b in cc
wanted-238 Ihave code blocks e b = let no : is_some (meaning Ihave 238) ≡ true = rw e at b in cc
wanted-238 Block code blocks e b = let no : is_some (meaning Block 238) ≡ true = rw e at b in cc

sends-335 : (verb : Verb) (code : ℕ) (blocks : List (List ℕ)) → code ≡ 335 → is_some (meaning verb code) ≡ true → (meaning verb code ≡ Some SendBlock) × (let_go verb blocks ≡ drop 1 blocks)
sends-335 Ihave code blocks e b = (rw e refl, refl)
sends-335 Takethis code blocks e b = let no : is_some (meaning Takethis 335) ≡ true = rw e at b in cc
sends-335 Check code blocks e b = let no : is_some (meaning Check 335) ≡ true = rw e at b in cc
sends-335 Block code blocks e b = let no : is_some (meaning Block 335) ≡ true = rw e at b in cc

module _ (s : State) (mode : Mode) (reply : Given) (ask : Awaited)
    (found : find (can_answer mode s.held reply) s.window ≡ Some ask) where
  -- 238 and a debt that is held
  pub wants-is : (x : Option Held) (wanted : State) → reply.code ≡ 238 → find (is_at ask.ticket) s.held ≡ x
      → told (answered_state s mode reply ask found s.blocks) (Some Wanted) ask (first_block s.blocks) x ≡ wanted → answered_with s mode reply ≡ wanted
  wants-is x wanted e f g =
      let w = wanted-238 ask.verb reply.code s.blocks e (belongs-found s mode reply ask found) in
      answered-is s mode reply ask found (Some Wanted) x w.0 f ∙ rw (w.1, counts-238 reply.code e) g

  -- 335
  pub sends-is : (sent : State) → reply.code ≡ 335 → sends_block (answered_state s mode reply ask found (drop 1 s.blocks)) ask (first_block s.blocks) ≡ sent
      → answered_with s mode reply ≡ sent
  sends-is sent e g =
      let w = sends-335 ask.verb reply.code s.blocks e (belongs-found s mode reply ask found) in
      answered-is s mode reply ask found (Some SendBlock) _ w.0 refl ∙ rw (w.1, counts-335 reply.code e) g

told-settled : (s : State) (m : Option Meaning) (ask : Awaited) (block : List ℕ) (x : Option Held) → (m ≡ Some Wanted → ⊥) → (m ≡ Some SendBlock → ⊥)
    → told s m ask block x ≡ settled_by s m ask.ticket x
told-settled s None ask block x w b = refl
told-settled s (Some Wanted) ask block x w b = absurd (w refl)
told-settled s (Some SendBlock) ask block x w b = absurd (b refl)
told-settled s (Some Later) ask block None w b = refl
told-settled s (Some Later) ask block (Some x) w b = refl
told-settled s (Some (Final code)) ask block None w b = refl
told-settled s (Some (Final code)) ask block (Some x) w b = refl

counted_by-held : (s : State) (answers : List Bool) → (counted_by s answers).held ≡ s.held
counted_by-held s [] = refl
counted_by-held s (answer ∷ answers) = refl

module _ (s : State) (mode : Mode) (reply : Given) (ask : Awaited)
    (found : find (can_answer mode s.held reply) s.window ≡ Some ask) where
  -- any other answer
  pub settles-is : (t : State) → t ≡ counted_by (answered_state s mode reply ask found (let_go ask.verb s.blocks)) (counts reply.code)
      → (meaning ask.verb reply.code ≡ Some Wanted → ⊥) → (meaning ask.verb reply.code ≡ Some SendBlock → ⊥)
      → settled_by t (meaning ask.verb reply.code) ask.ticket (find (is_at ask.ticket) t.held) ≡ answered_with s mode reply
  settles-is t e w b =
      let held : t.held ≡ s.held = ap (λ (v : State). v.held) e ∙ counted_by-held _ (counts reply.code) in
      ap (λ hs. settled_by t (meaning ask.verb reply.code) ask.ticket (find (is_at ask.ticket) hs)) held
      ∙ sym (told-settled t (meaning ask.verb reply.code) ask (first_block s.blocks) (find (is_at ask.ticket) s.held) w b)
      ∙ ap (λ (v : State). told v (meaning ask.verb reply.code) ask (first_block s.blocks) (find (is_at ask.ticket) s.held)) e
      ∙ sym (answered-is s mode reply ask found (meaning ask.verb reply.code) (find (is_at ask.ticket) s.held) refl refl)
