-- The header of an article, and its message-id (RFC 5536, sections 2.2 and 3.1.3; RFC 5322, section 2.2).
use Rattle.std.specs.Prelude.{◌≡◌, ◌==◌, ◌-◌, ◌&&◌, ◌||◌, ◌++◌, ◌∷◌, [], ℕ, Bool, List, Option, None, Some, not}
use Rattle.std.specs.Prelude.{if◌then◌else◌, length, take, drop, map, nat_le, nat_lt, slice_index, count_by}
use Rattle.std.specs.List.{prefix_len, slice_split, suffix_len, take_while}
use Rattle.std.specs.Char.{is_ascii_whitespace, to_ascii_lowercase}
use Rattle.std.specs.Str.{str_eq_ignore_ascii_case}
use Rattle.funnel.specs.Names.{is_msg_id}

-- a line, without its LF, that is empty or has only a CR
abbrev pub is_empty_line : List ℕ → Bool
is_empty_line line = length line == 0 || (length line == 1 && slice_index line 0 == 13)

-- the header's lines, each without its LF: those before the first empty one
abbrev pub header_lines : List ℕ → List (List ℕ)
header_lines article = take_while (λ line. not (is_empty_line line)) (slice_split (λ octet. octet == 10) article)

-- `message-id:`
abbrev pub name : List ℕ
name = 109 ∷ 101 ∷ 115 ∷ 115 ∷ 97 ∷ 103 ∷ 101 ∷ 45 ∷ 105 ∷ 100 ∷ 58 ∷ []

-- the field Message-ID begins on this line; the case of its name does not matter
abbrev pub begins_field : List ℕ → Bool
begins_field line = nat_le 11 (length line) && str_eq_ignore_ascii_case (take 11 line) name

-- the line begins with a blank: it continues the field before it
abbrev pub is_folded : List ℕ → Bool
is_folded line = nat_lt 0 (length line) && (slice_index line 0 == 32 || slice_index line 0 == 9)

-- the text of the lines that are folded onto the one before them
abbrev pub folds : List (List ℕ) → List ℕ
folds [] = []
folds (line ∷ others) = if is_folded line then line ++ folds others else []

-- the body of the first field Message-ID of these lines, unfolded; empty if they have none
abbrev pub first_body : List (List ℕ) → List ℕ
first_body [] = []
first_body (line ∷ others) = if begins_field line then drop 11 line ++ folds others else first_body others

-- without the white space before it
abbrev pub trimmed_start : List ℕ → List ℕ
trimmed_start text = drop (prefix_len is_ascii_whitespace text) text

-- without the white space around it
abbrev pub trimmed : List ℕ → List ℕ
trimmed text =
    take (length (trimmed_start text) - suffix_len is_ascii_whitespace (trimmed_start text)) (trimmed_start text)

-- the message-id in the one field Message-ID of these lines
abbrev pub id_in : List (List ℕ) → Option (List ℕ)
id_in lines =
    if count_by begins_field lines == 1 && is_msg_id (trimmed (first_body lines)) then Some (trimmed
    (first_body lines)) else None

-- An article's message-id: its header has one field Message-ID, whose body is this message-id and nothing else.
abbrev pub message_id_of : List ℕ → Option (List ℕ)
message_id_of article = id_in (header_lines article)
