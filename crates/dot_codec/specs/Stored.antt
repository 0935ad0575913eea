-- An article as innd stores it in wire format: a multi-line block (RFC 3977, section 3.1.1) whose lines may have any
-- octets, a CR or an LF alone among them.
use Rattle.std.specs.Prelude.{◌≡◌, ◌==◌, ◌&&◌, ◌⊎◌, ℕ, Bool, false, List, [], ◌∷◌, ◌++◌, Option, None, Some}
use Rattle.std.specs.Prelude.{if◌then◌else◌}
use Rattle.std.specs.Option.{option_map}

-- the parts with one more octet at the beginning of the first
abbrev pub one_octet_longer : ℕ → List (List ℕ) → List (List ℕ)
one_octet_longer octet [] = (octet ∷ []) ∷ []
one_octet_longer octet (part ∷ parts) = (octet ∷ part) ∷ parts

-- the parts of the octets that CR LF separates, one more than there are CR LF
abbrev pub parts_between_crlf : List ℕ → List (List ℕ)
parts_between_crlf [] = [] ∷ []
parts_between_crlf (octet ∷ []) = (octet ∷ []) ∷ []
parts_between_crlf (octet ∷ other ∷ rest) =
    if octet == 13 && other == 10 then [] ∷ parts_between_crlf rest
    else one_octet_longer octet (parts_between_crlf (other ∷ rest))

-- a line without the dot that it begins with
abbrev pub unstuffed : List ℕ → List ℕ
unstuffed [] = []
unstuffed (octet ∷ rest) = if octet == 46 then rest else octet ∷ rest

-- whether a line is a dot alone
abbrev pub is_dot : List ℕ → Bool
is_dot [] = false
is_dot (octet ∷ []) = octet == 46
is_dot (octet ∷ other ∷ rest) = false

-- what the last part leaves of the text: nothing follows the CR LF of the dot alone
abbrev pub text_at_end : List (List ℕ) → Option (List ℕ)
text_at_end [] = None
text_at_end ([] ∷ []) = Some []
text_at_end ([] ∷ other ∷ parts) = None
text_at_end ((octet ∷ part) ∷ parts) = None

-- The lines before the first dot alone, each without the dot that it begins with, and with its CR LF. No text if there
-- is no dot alone, or if anything follows it.
abbrev pub text_of_parts : List (List ℕ) → Option (List ℕ)
text_of_parts [] = None
text_of_parts (part ∷ parts) =
    if is_dot part then text_at_end parts
    else option_map (λ text. unstuffed part ++ 13 ∷ 10 ∷ text) (text_of_parts parts)

-- The text of an article that is stored as these octets; none if they don't end with the first line that is a dot
-- alone, and its CR LF.
abbrev pub stored_text : List ℕ → Option (List ℕ)
stored_text octets = text_of_parts (parts_between_crlf octets)

-- octets that are whole lines, each with CR LF
abbrev pub AreWholeLines : List ℕ → Type 0
AreWholeLines octets = (octets ≡ []) ⊎ ((before : List ℕ) × (octets ≡ before ++ 13 ∷ 10 ∷ []))
