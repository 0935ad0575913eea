-- What a script's line asks of a connection (docs/FORMATS.md).
use Rattle.std.specs.Prelude.{◌≡◌, ◌≢◌, ◌⊎◌, ℕ, List, [], ◌∷◌, ◌++◌, Ok}
use Rattle.hex.specs.Hex.{decode_of}
use Rattle.article_store.specs.declared.store.Found.{Found}
use Rattle.drill_script.specs.declared.action.Action.{Action}
use Rattle.drill_script.specs.declared.action.Action.TheVariants.{Hand, Receive, Supply, Break}

-- an action by what it carries
pub data ActionView : Type 0 where
  -- the least candidate is claimed and offered
  Hands : ActionView
  -- these octets come in
  Receives : List ℕ → ActionView
  -- this was found for the wanted article
  Supplies : Found → ActionView
  -- the connection breaks
  Breaks : ActionView

abbrev pub action_view : Action → ActionView
action_view Hand = Hands
action_view (Receive octets) = Receives octets.items
action_view (Supply found) = Supplies found
action_view Break = Breaks

-- a text that comes in as a line (RFC 3977, section 3.1)
abbrev pub line_of : List ℕ → List ℕ
line_of text = text ++ 13 ∷ 10 ∷ []

-- one or more pairs of hexadecimal digits spell these octets
abbrev pub Spells : List ℕ → List ℕ → Type 0
Spells digits octets = (digits ≢ []) × (decode_of digits ≡ Ok octets)

-- a letter after a backslash stands for an octet: n for LF, r for CR, 0 for NUL, and a backslash for itself
abbrev pub Escapes : ℕ → ℕ → Type 0
Escapes letter octet =
    ((letter ≡ 110) × (octet ≡ 10)) ⊎
    (((letter ≡ 114) × (octet ≡ 13)) ⊎ (((letter ≡ 48) × (octet ≡ 0)) ⊎ ((letter ≡ 92) × (octet ≡ 92))))

-- a text is written octet by octet, some of them after a backslash
pub data IsWritten : (written text : List ℕ) → Type 0 where
  Ends : IsWritten [] []
  Plain : (octet : ℕ) (written text : List ℕ) → octet ≢ 92 → IsWritten written text →
      IsWritten (octet ∷ written) (octet ∷ text)
  Escaped : (letter octet : ℕ) (written text : List ℕ) → Escapes letter octet → IsWritten written text →
      IsWritten (92 ∷ letter ∷ written) (octet ∷ text)
