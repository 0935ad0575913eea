-- What is written of lines.
use Rattle.std.specs.Prelude.{◌++◌, ◌∷◌, [], ℕ, List, if◌then◌else◌}
use Rattle.kept_lines.specs.Names.{is_named}
use Rattle.kept_lines.specs.declared.read_line.ReadLine.{ReadLine}
use Rattle.kept_lines.specs.declared.read_line.Reading.{Reading}
use Rattle.kept_lines.specs.declared.read_line.Reading.TheVariants.{Good, Malformed}

-- what f gives of each, one after another
abbrev pub joined : {A : Type 0} → (A → List ℕ) → List A → List ℕ
joined f [] = []
joined f (x ∷ xs) = f x ++ joined f xs

-- a line of the file of a peer that is left out: the token and the message-id
abbrev pub kept_line : List ℕ → List ℕ → List ℕ
kept_line token id = token ++ 32 ∷ (id ++ 10 ∷ [])

-- what the file of the peer of this name gets of a line
abbrev pub kept_by : List ℕ → Reading → List ℕ
kept_by name (Good token id others) = if is_named others.items name then kept_line token id else []
kept_by name (Malformed fault) = []

abbrev pub kept_of : List ℕ → ReadLine → List ℕ
kept_of name line = kept_by name line.reading

abbrev pub kept_text : List ℕ → List ReadLine → List ℕ
kept_text name lines = joined (kept_of name) lines

-- what `~unknown` gets of an article for a name: nothing if that is the name of a peer that is left out
abbrev pub unknown_line : List (List ℕ) → List ℕ → List ℕ → List ℕ → List ℕ
unknown_line left_out token id name = if is_named left_out name then [] else name ++ 32 ∷ kept_line token id

abbrev pub unknown_lines : List (List ℕ) → List ℕ → List ℕ → List (List ℕ) → List ℕ
unknown_lines left_out token id names = joined (unknown_line left_out token id) names

-- what `~unknown` gets of a line
abbrev pub unknown_by : List (List ℕ) → Reading → List ℕ
unknown_by left_out (Good token id others) = unknown_lines left_out token id others.items
unknown_by left_out (Malformed fault) = []

abbrev pub unknown_of : List (List ℕ) → ReadLine → List ℕ
unknown_of left_out line = unknown_by left_out line.reading

abbrev pub unknown_text : List (List ℕ) → List ReadLine → List ℕ
unknown_text left_out lines = joined (unknown_of left_out) lines
