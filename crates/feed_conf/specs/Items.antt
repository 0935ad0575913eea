-- The items of a line: what each line of a configuration says (profile).
use Rattle.std.specs.Prelude.{◌==◌, ◌+◌, ℕ, Bool, true, false, List, [], ◌∷◌, Option, None, Some, position, take, drop, codes, if◌then◌else◌}
use Rattle.std.specs.Str.{bytes_eq}
use Rattle.feed_conf.specs.Lexemes.{Lexeme, Word, Quoted, Open, Close, Unclosed}
use Rattle.feed_conf.specs.Scan.{lexemes_of}
use Rattle.feed_conf.specs.declared.fault.ConfFaultKind.{ConfFaultKind}
use Rattle.feed_conf.specs.declared.fault.ConfFaultKind.TheVariants.{NoValue, Unbalanced}

-- why a line cannot be read further
pub data Stop : Type 0 where
  -- a word, or a text in quotes, is no key, since no colon is in it
  NoColon : List ℕ → Stop
  -- `{` does not follow the name of a group
  NoBrace : List ℕ → Stop
  -- no name follows the word `group`
  NoName : Stop
  -- `{` without a name before it
  LoneBrace : Stop
  -- a quote without a second one on its line
  LoneQuote : Stop

abbrev pub stop_kind : Stop → ConfFaultKind
stop_kind (NoColon word) = NoValue
stop_kind _ = Unbalanced

-- one thing that a line says
pub data Item : Type 0 where
  -- the word `peer`: the name after it, empty if there is none, and whether `{` follows
  Peer : List ℕ → Bool → Item
  Group : Item
  -- the innermost block is closed
  Closes : Item
  -- a key, and its value if it has one
  Uses : List ℕ → Option (List ℕ) → Item
  -- the line cannot be read further
  Stops : Stop → Item

-- what a word is when a new item may begin
pub data Sort : Type 0 where
  PeerWord : Sort
  GroupWord : Sort
  -- the text before the first colon and the text after it
  Pair : List ℕ → List ℕ → Sort
  Plain : List ℕ → Sort

abbrev pub split_pair : Option ℕ → List ℕ → Sort
split_pair None word = Plain word
split_pair (Some colon) word = Pair (take colon word) (drop (colon + 1) word)

abbrev pub sort_of : List ℕ → Sort
sort_of word =
    if bytes_eq word (codes "peer") then PeerWord else (
    if bytes_eq word (codes "group") then GroupWord else
    split_pair (position (λ octet. octet == 58) word) word)

-- an item that is begun
pub data Begun : Type 0 where
  Nothing : Begun
  -- the word `peer`; then its name too
  PeerBegun : Begun
  PeerNamed : List ℕ → Begun
  -- the word `group`; then its name too
  GroupBegun : Begun
  GroupNamed : List ℕ → Begun
  -- a key whose word ends at the colon
  KeyBegun : List ℕ → Begun

-- the items from a word on, if nothing is begun; the rest of the line goes on from what the word begins
abbrev pub word_items : Sort → (Begun → List Item) → List Item
word_items PeerWord next = next PeerBegun
word_items GroupWord next = next GroupBegun
word_items (Pair key []) next = next (KeyBegun key)
word_items (Pair key (octet ∷ value)) next = Uses key (Some (octet ∷ value)) ∷ next Nothing
word_items (Plain word) next = Stops (NoColon word) ∷ []

-- the items of these lexemes, after what is begun
abbrev pub items : List Lexeme → Begun → List Item
items [] Nothing = []
items (Word word ∷ rest) Nothing = word_items (sort_of word) (items rest)
items (Quoted octets ∷ rest) Nothing = Stops (NoColon octets) ∷ []
items (Open ∷ rest) Nothing = Stops LoneBrace ∷ []
items (Close ∷ rest) Nothing = Closes ∷ items rest Nothing
items (Unclosed ∷ rest) Nothing = Stops LoneQuote ∷ []
items [] PeerBegun = Peer [] false ∷ []
items (Word name ∷ rest) PeerBegun = items rest (PeerNamed name)
items (Quoted octets ∷ rest) PeerBegun = Peer [] false ∷ []
items (Open ∷ rest) PeerBegun = Peer [] false ∷ []
items (Close ∷ rest) PeerBegun = Peer [] false ∷ []
items (Unclosed ∷ rest) PeerBegun = Stops LoneQuote ∷ []
items [] (PeerNamed name) = Peer name false ∷ []
items (Word word ∷ rest) (PeerNamed name) = Peer name false ∷ []
items (Quoted octets ∷ rest) (PeerNamed name) = Peer name false ∷ []
items (Open ∷ rest) (PeerNamed name) = Peer name true ∷ items rest Nothing
items (Close ∷ rest) (PeerNamed name) = Peer name false ∷ []
items (Unclosed ∷ rest) (PeerNamed name) = Peer name false ∷ []
items [] GroupBegun = Stops NoName ∷ []
items (Word name ∷ rest) GroupBegun = items rest (GroupNamed name)
items (Quoted octets ∷ rest) GroupBegun = Stops NoName ∷ []
items (Open ∷ rest) GroupBegun = Stops NoName ∷ []
items (Close ∷ rest) GroupBegun = Stops NoName ∷ []
items (Unclosed ∷ rest) GroupBegun = Stops NoName ∷ []
items [] (GroupNamed name) = Stops (NoBrace name) ∷ []
items (Word word ∷ rest) (GroupNamed name) = Stops (NoBrace name) ∷ []
items (Quoted octets ∷ rest) (GroupNamed name) = Stops (NoBrace name) ∷ []
items (Open ∷ rest) (GroupNamed name) = Group ∷ items rest Nothing
items (Close ∷ rest) (GroupNamed name) = Stops (NoBrace name) ∷ []
items (Unclosed ∷ rest) (GroupNamed name) = Stops (NoBrace name) ∷ []
items [] (KeyBegun key) = Uses key None ∷ []
items (Word word ∷ rest) (KeyBegun key) = Uses key (Some word) ∷ items rest Nothing
items (Quoted octets ∷ rest) (KeyBegun key) = Uses key (Some octets) ∷ items rest Nothing
items (Open ∷ rest) (KeyBegun key) = Uses key None ∷ Stops LoneBrace ∷ []
items (Close ∷ rest) (KeyBegun key) = Uses key None ∷ Closes ∷ items rest Nothing
items (Unclosed ∷ rest) (KeyBegun key) = Stops LoneQuote ∷ []

-- the items of a line
abbrev pub items_of : List ℕ → List Item
items_of line = items (lexemes_of line) Nothing
