-- For which debt an article is handed in, and whose article goes out.
use Rattle.std.specs.Prelude.{◌≡◌, ℕ, Bool, true, false, Option, Some, None, List, ◌∷◌, ◌++◌, slice_get, if◌then◌else◌}
use Rattle.std.specs.List.{AllByRecursion}
use Rattle.ledger_core.specs.State.{Owing}
use Rattle.conn_core.specs.Commands.{Ask, Sendable, Want, octets_of}
use Rattle.conn_core.specs.History.{Event, Handed, accepted, after, asks}
use Rattle.conn_core.specs.History.{first_want, is_streaming, output, phase, story}
use Rattle.conn_core.specs.declared.codes.Verb.{Verb}
use Rattle.conn_core.specs.declared.codes.Verb.TheVariants.{Check, Takethis, Ihave, Block}
use Rattle.conn_core.specs.declared.options.Options.{Options}

-- the debt that was accepted at the ticket of a want (profile)
abbrev pub debt_of_want : List Event → Option (ℕ × Want) → Option Owing
debt_of_want h None = None
debt_of_want h (Some want) = slice_get (accepted h) want.1.ticket

-- the debt for which an article of that key is handed in now: the one whose want is the first of the key (profile)
abbrev pub debt_served : Options → List Event → ℕ → Option Owing
debt_served options h number = debt_of_want h (first_want (story options h) number)

-- whether an article goes out with a command, or is offered by it (RFC 4644, section 2.5; RFC 3977, section 6.3.2)
abbrev pub has_article : Verb → Bool
has_article Check = false
has_article Takethis = true
has_article Ihave = true
has_article Block = true

-- The article of a command: its block was handed in, as the text that can be sent, for the debt that was accepted at
-- the ticket of the command, and whose message-id it names (RFC 4644, section 2.5; RFC 3977, section 6.3.2).
pub record IsArticleOfDebt (options : Options) (h : List Event) (ask : Ask) : Type 0 where
  pub later : List Event
  pub earlier : List Event
  pub number : ℕ
  pub debt : Owing
  pub split : h ≡ later ++ Handed number (Sendable ask.block) ∷ earlier
  pub served : debt_served options earlier number ≡ Some debt
  pub own : slice_get (accepted h) ask.ticket ≡ Some debt
  pub named : ask.id ≡ debt.1.1

-- the same of a command that has an article (RFC 4644, section 2.5; RFC 3977, section 6.3.2)
abbrev pub HasArticleOfDebt : Options → List Event → Ask → Type 0
HasArticleOfDebt options h ask = has_article ask.verb ≡ true → IsArticleOfDebt options h ask

-- and of each command that was put out (RFC 4644, section 2.5; RFC 3977, section 6.3.2)
abbrev pub AllHaveArticlesOfDebts : Options → List Event → Type 0
AllHaveArticlesOfDebts options h = AllByRecursion (HasArticleOfDebt options h) (asks h)

-- the octets of an article that goes out at once: the block with its TAKETHIS while streaming, otherwise an IHAVE that
-- offers it (RFC 4644, section 2.5; RFC 3977, section 6.3.2)
abbrev pub octets_with : (streaming : Bool) → (id block : List ℕ) → List ℕ
octets_with streaming id block = octets_of (if streaming then Takethis else Ihave) id block

-- if the block of an article is handed in for a debt now, it goes out for that debt, and nothing else does (RFC 4644,
-- section 2.5; RFC 3977, section 6.3.2)
abbrev pub PutsOut : Options → List Event → Owing → List ℕ → Type 0
PutsOut options h debt block =
    output options (after options h (Handed debt.0 (Sendable block)))
    ≡ output options h ++ octets_with (is_streaming (phase options h)) debt.1.1 block
