-- What a script's `peer` line declares (docs/FORMATS.md).
use Rattle.std.specs.Prelude.{◌≡◌, ◌⊎◌, ℕ, List, [], ◌∷◌, ◌++◌, Ok, IsTrue, codes}
use Rattle.funnel.specs.Names.{is_peer_name}
use Rattle.feed_conf.specs.Reading.{HaveLexemes, lines_of}
use Rattle.feed_conf.specs.Settings.{Outcome, Settings, meaning}
use Rattle.feed_conf.specs.Lexemes.{Lexeme}

-- the settings of a name and its items, on one line
abbrev pub peer_text : List ℕ → List ℕ → List ℕ
peer_text name items = codes "peer " ++ name ++ codes " { " ++ items ++ codes " }"

-- a text of settings has exactly one peer, which has these values
pub record HasOnly (text : List ℕ) (peer : Settings) : Type 0 where
  pub lexemes : List (List Lexeme)
  pub have : HaveLexemes (lines_of text) lexemes
  pub outcome : Outcome
  pub means : meaning lexemes ≡ Ok outcome
  pub only : outcome.peers ≡ peer ∷ []

-- what follows `peer `: a name alone, or a name, one space and items
abbrev pub IsNamedWith : (declaration name items : List ℕ) → Type 0
IsNamedWith declaration name items = ((declaration ≡ name) × (items ≡ [])) ⊎ (declaration ≡ name ++ 32 ∷ items)

-- `peer NAME` and `peer NAME ITEMS` declare the one peer of `peer NAME { ITEMS }`, whose name is NAME
pub record SaysPeer (line : List ℕ) (peer : Settings) : Type 0 where
  pub declaration : List ℕ
  pub items : List ℕ
  pub written : line ≡ codes "peer " ++ declaration
  pub parts : IsNamedWith declaration peer.name items
  pub named : IsTrue (is_peer_name peer.name)
  pub has : HasOnly (peer_text peer.name items) peer
