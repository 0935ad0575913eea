-- If something holds of a transcript, and still does whatever is put out that is about no debt, it holds after all
-- else that an event puts out.
use Rattle.std.proofs.Common.{◌≡◌, ℕ, Bool, true, false, List, [], ◌∷◌, ◌++◌, refl, sym, subst, append-nil, Some, None}
use Rattle.std.specs.Prelude.{◌&&◌, if◌then◌else◌}
use Rattle.reply_reader.specs.Stream.{Given}
use Rattle.conn_core.specs.Codes.{is_welcome}
use Rattle.conn_core.specs.Commands.{Ask, Command, ModeStream, Quit, Handing, Sendable, Gone, Unsendable}
use Rattle.conn_core.specs.History.{Event, Put, after, answered_now, asks, is_quit_due, puts, puts_article}
use Rattle.conn_core.specs.History.{puts_greeting, with_puts}
use Rattle.conn_core.specs.declared.options.Options.{Options}
use Rattle.conn_core.specs.declared.phase.Phase.{Phase}
use Rattle.conn_core.specs.declared.phase.Phase.TheVariants.{Greeting, Asking, Streaming, OneByOne, Leaving}

module _ (options : Options) (P : List Event → Type 0)
    (other : (g : List Event) (command : Command) → asks (Put command ∷ g) ≡ asks g → P g → P (Put command ∷ g)) where
  quit-out : (b : Bool) (g : List Event) → P g → P (if b then Put Quit ∷ g else g)
  quit-out true g p = other g Quit (append-nil (asks g)) p
  quit-out false g p = p

  -- after an event, once its own commands are out
  pub holds-after : (h : List Event) (e : Event) (commands : List Command) → puts options h e ≡ commands → P (with_puts commands (e ∷ h)) → P (after options h e)
  unfolding after
  holds-after h e commands same p =
      quit-out (is_quit_due options (with_puts (puts options h e) (e ∷ h))) (with_puts (puts options h e) (e ∷ h))
      (subst (λ cs. P (with_puts cs (e ∷ h))) (sym same) p)

  mode-out : (b : Bool) (g : List Event) → P g → P (with_puts ((if b then ModeStream ∷ [] else []) ++ []) g)
  mode-out true g p = other g ModeStream (append-nil (asks g)) p
  mode-out false g p = p

  pub holds-greeted : (streaming : Bool) (f : Phase) (code : ℕ) (g : List Event) → P g → P (with_puts (puts_greeting streaming f code ++ []) g)
  holds-greeted streaming Greeting code g p = mode-out (is_welcome code && streaming) g p
  holds-greeted streaming Asking code g p = p
  holds-greeted streaming Streaming code g p = p
  holds-greeted streaming OneByOne code g p = p
  holds-greeted streaming Leaving code g p = p

-- a reply that answers a command puts out no MODE STREAM
pub greeting-none : (streaming : Bool) (f : Phase) (reply : Given) (done : List ℕ) (sent : List Ask) (command : ℕ × Ask) → answered_now f reply done sent ≡ Some command
    → puts_greeting streaming f reply.code ≡ []
greeting-none streaming Greeting reply done sent command e = cc
greeting-none streaming Asking reply done sent command e = refl
greeting-none streaming Streaming reply done sent command e = refl
greeting-none streaming OneByOne reply done sent command e = refl
greeting-none streaming Leaving reply done sent command e = refl

-- what is handed in for no debt puts out nothing
pub article-none : (streaming : Bool) (handing : Handing) → puts_article streaming handing None ≡ []
article-none streaming (Sendable block) = refl
article-none streaming Gone = refl
article-none streaming Unsendable = refl
