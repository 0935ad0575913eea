-- What a reply makes of a connection does not depend on whether something came in before.
use Rattle.std.proofs.Common.{◌≡◌, ℕ, Bool, true, false, List, [], ◌∷◌, refl, ap, Option, Some, None, ◌∙◌}
use Rattle.std.specs.Prelude.{◌==◌, find, if◌then◌else◌}
use Rattle.std.specs.Set.{remove_key}
use Rattle.reply_reader.specs.Stream.{Given}
use Rattle.conn_core.specs.Checks.{counts}
use Rattle.conn_core.specs.Codes.{meaning, is_welcome, ends_all}
use Rattle.conn_core.specs.Commands.{Held, is_at}
use Rattle.conn_core.specs.Machine.{answered_by, on_reply, dispatch_reply, counted_by, first_block, quit_if_due, let_go, told, fits_awaited, belongs_to_awaited}
use Rattle.conn_core.specs.State.{Awaited, State}
use Rattle.conn_core.specs.declared.codes.Meaning.{Meaning}
use Rattle.conn_core.specs.declared.codes.Meaning.TheVariants.{Wanted, SendBlock, Later, Final}
use Rattle.conn_core.specs.declared.phase.Phase.{Phase}
use Rattle.conn_core.specs.declared.phase.Phase.TheVariants.{Greeting, Asking, Streaming, OneByOne, Leaving}

abbrev pub stir : State → State
stir s = record s { stirred = true }

told-stir : (s : State) (m : Option Meaning) (ask : Awaited) (block : List ℕ) (x : Option Held) → told (stir s) m ask block x ≡ stir (told s m ask block x)
told-stir s None ask block x = refl
told-stir s (Some SendBlock) ask block x = refl
told-stir s (Some Wanted) ask block None = refl
told-stir s (Some Wanted) ask block (Some x) = refl
told-stir s (Some Later) ask block None = refl
told-stir s (Some Later) ask block (Some x) = refl
told-stir s (Some (Final code)) ask block None = refl
told-stir s (Some (Final code)) ask block (Some x) = refl

counted_by-stir : (s : State) (answers : List Bool) → counted_by (stir s) answers ≡ stir (counted_by s answers)
counted_by-stir s [] = refl
counted_by-stir s (answer ∷ answers) = refl

answered_by-stir : (s : State) (test : Awaited → Bool) (code : ℕ) (ask : Option Awaited) → answered_by (stir s) test code ask ≡ stir (answered_by s test code ask)
answered_by-stir s test code None = refl
answered_by-stir s test code (Some ask) =
    let left : State = record s {
      window = remove_key test s.window;
      blocks = let_go ask.verb s.blocks;
      has_answered = true;
    } in
    ap (λ v. told v (meaning ask.verb code) ask (first_block s.blocks) (find (is_at ask.ticket) s.held)) (counted_by-stir left (counts code))
    ∙ told-stir (counted_by left (counts code)) (meaning ask.verb code) ask (first_block s.blocks) (find (is_at ask.ticket) s.held)

if-stir : (b : Bool) (s t : State) → (if b then stir s else stir t) ≡ stir (if b then s else t)
if-stir true s t = refl
if-stir false s t = refl

on_greeting-stir : (welcome streaming : Bool) (s t u : State) → (if welcome then (if streaming then stir s else stir t) else stir u) ≡ stir (if welcome then (if streaming then s else t) else u)
on_greeting-stir true streaming s t u = if-stir streaming s t
on_greeting-stir false streaming s t u = refl

mode-stir : (yes ends : Bool) (s t u : State) → (if yes then stir s else if ends then stir t else stir u) ≡ stir (if yes then s else if ends then t else u)
mode-stir true ends s t u = refl
mode-stir false ends s t u = if-stir ends t u

dispatch_reply-stir : (s : State) (reply : Given) (phase : Phase) → dispatch_reply (stir s) reply phase ≡ stir (dispatch_reply s reply phase)
dispatch_reply-stir s reply Greeting = on_greeting-stir (is_welcome reply.code) s.options.streaming _ _ _
dispatch_reply-stir s reply Asking = mode-stir (reply.code == 203) (ends_all reply.code) _ _ _
dispatch_reply-stir s reply Streaming = answered_by-stir s (fits_awaited s.held reply) reply.code
    (find (fits_awaited s.held reply) s.window)
dispatch_reply-stir s reply OneByOne = answered_by-stir s (belongs_to_awaited reply) reply.code (find (belongs_to_awaited reply) s.window)
dispatch_reply-stir s reply Leaving = refl

-- a reply, with the mark that something came in set last
pub on_reply-is : (s : State) (reply : Given) → on_reply s reply ≡ quit_if_due (stir (dispatch_reply s reply s.phase))
on_reply-is s reply = ap quit_if_due (dispatch_reply-stir s reply s.phase)
