-- The lines of an article's text (profile).
use Rattle.std.specs.Prelude.{◌≡◌, ◌==◌, ◌||◌, ◌<◌, ◌≤◌, ◌⊎◌, ℕ, Bool, not, List, [], ◌∷◌, ◌++◌, length, IsTrue}
use Rattle.std.specs.List.{list_all}

-- an octet that a line may have: not NUL, LF or CR (RFC 3977, section 3.1.1)
abbrev pub is_line_octet : ℕ → Bool
is_line_octet octet = not (octet == 0 || octet == 10 || octet == 13)

-- a line without its end
abbrev pub IsLine : List ℕ → Type 0
IsLine octets = IsTrue (list_all is_line_octet octets)

-- The text begins with this line, and this is the rest after the line's end. A line ends with LF, and one CR directly
-- before that LF belongs to the end. The last line may have no LF, and then it is not empty.
abbrev pub IsFirstLine : List ℕ → List ℕ → List ℕ → Type 0
IsFirstLine text line rest =
    IsLine line
    × (((text ≡ line) × (rest ≡ []) × (0 < length line)) ⊎ ((text ≡ line ++ 10 ∷ rest) ⊎ (text ≡ line ++ 13 ∷ 10 ∷ rest)))

-- the text has these lines, in order, and nothing else
abbrev pub HasLines : List ℕ → List (List ℕ) → Type 0
HasLines text [] = text ≡ []
HasLines text (line ∷ lines) = (rest : List ℕ) × IsFirstLine text line rest × HasLines rest lines

-- the length of the longest text that is sent, in octets (profile)
abbrev pub longest_text : ℕ
longest_text = 16777216

-- A text that can be sent (profile): it is not empty, and has no NUL and no CR without an LF after it.
pub record IsSendable (text : List ℕ) : Type 0 where
  pub some : 0 < length text
  pub short : length text ≤ longest_text
  pub lines : (lines : List (List ℕ)) × HasLines text lines

-- the plain text of these lines, each ended by LF
abbrev pub text_of : List (List ℕ) → List ℕ
text_of [] = []
text_of (line ∷ lines) = line ++ 10 ∷ text_of lines
