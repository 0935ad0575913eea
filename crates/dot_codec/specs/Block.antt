-- A multi-line block: how lines are written, and which octets are read as them (RFC 3977, section 3.1.1).
use Rattle.std.specs.Prelude.{◌≡◌, ◌==◌, ◌<◌, ◌⊎◌, ℕ, Bool, false, List, [], ◌∷◌, ◌++◌, length, if◌then◌else◌}
use Rattle.dot_codec.specs.Lines.{IsLine}

-- whether a line begins with a dot
abbrev pub begins_with_dot : List ℕ → Bool
begins_with_dot [] = false
begins_with_dot (octet ∷ rest) = octet == 46

-- a line with one more dot before it, if it begins with one
abbrev pub stuffed : List ℕ → List ℕ
stuffed line = if begins_with_dot line then 46 ∷ line else line

-- a dot alone, and CR LF
abbrev pub end_of_block : List ℕ
end_of_block = 46 ∷ 13 ∷ 10 ∷ []

-- the written form of a text with these lines: each stuffed, with CR LF, and at the end a dot alone
abbrev pub written : List (List ℕ) → List ℕ
written [] = end_of_block
written (line ∷ lines) = stuffed line ++ 13 ∷ 10 ∷ written lines

-- A form in which a line is read: the line itself if it does not begin with a dot, and the line with one more dot if
-- it is not empty. So a dot alone is not a form of a line.
abbrev pub IsLineForm : List ℕ → List ℕ → Type 0
IsLineForm line form = ((form ≡ line) × (begins_with_dot line ≡ false)) ⊎ ((form ≡ 46 ∷ line) × (0 < length line))

-- the octets begin with forms of these lines, each with CR LF, and this is the rest after them
abbrev pub HasForms : List (List ℕ) → List ℕ → List ℕ → Type 0
HasForms [] octets rest = octets ≡ rest
HasForms (line ∷ lines) octets rest =
    (form next : List ℕ) × (octets ≡ form ++ 13 ∷ 10 ∷ next) × IsLine line × IsLineForm line form × HasForms lines next rest

-- a read form of these lines: a form of each, with CR LF, and at the end a dot alone
abbrev pub IsReadForm : List (List ℕ) → List ℕ → Type 0
IsReadForm lines octets = HasForms lines octets end_of_block
