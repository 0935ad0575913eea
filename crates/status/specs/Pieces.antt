-- Texts made of pieces, and strings between quotes.
use Rattle.std.specs.Prelude.{◌==◌, ◌&&◌, ◌||◌, ℕ, List, [], ◌∷◌, decimal, flat_map, nat_le, if◌then◌else◌}
use Rattle.status.specs.declared.pieces.Piece.{Piece}
use Rattle.status.specs.declared.pieces.Piece.TheVariants.{Text, Number, Escaped}

-- An octet of a string between quotes: `"` and `\` after a `\` (RFC 8259, section 7), each other one of 32 to 126 as it
-- is, and `?` for what is no printable ASCII (profile).
abbrev pub octet_text : ℕ → List ℕ
octet_text octet =
    if octet == 34 || octet == 92 then 92 ∷ octet ∷ []
    else if nat_le 32 octet && nat_le octet 126 then octet ∷ []
    else 63 ∷ []

-- what stands between the quotes of a string
abbrev pub escaped : List ℕ → List ℕ
escaped text = flat_map octet_text text

-- a piece of a text
abbrev pub piece_text : Piece → List ℕ
piece_text (Text text) = text.now
piece_text (Number value) = decimal value
piece_text (Escaped text) = escaped text.now
