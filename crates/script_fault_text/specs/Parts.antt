-- The parts that a line of a script has after its first word (docs/FORMATS.md).
use Rattle.std.specs.Prelude.{◌==◌, ◌+◌, ◌-◌, ◌%◌, ◌&&◌, ◌||◌, ℕ, Bool}
use Rattle.std.specs.Prelude.{true, false, List, [], ◌∷◌, ◌++◌, Option, None, Some}
use Rattle.std.specs.Prelude.{codes, drop, length, nat_le, nat_lt, not, slice_index, take, if◌then◌else◌}
use Rattle.std.specs.Char.{is_ascii_hexdigit}
use Rattle.std.specs.List.{position}
use Rattle.std.specs.Option.{is_some, option_map}
use Rattle.std.specs.Str.{bytes_eq}
use Rattle.funnel.specs.Names.{is_peer_name}
use Rattle.drill_script.specs.Numbers.{u64_of}
use Rattle.drill_script.specs.StopRequest.{is_tape}
use Rattle.script_fault_text.specs.declared.part.Part.{Part}
use Rattle.script_fault_text.specs.declared.part.Part.TheVariants.{Peer, Tape, Disk, Number}
use Rattle.script_fault_text.specs.declared.part.Part.TheVariants.{Call, Octet, Digits, Written}
use Rattle.script_fault_text.specs.declared.part.Part.TheVariants.{Text, Rest}

-- nothing may follow the word
abbrev pub stands_alone : List ℕ → Bool
stands_alone word =
    bytes_eq word (codes "flush") || bytes_eq word (codes "begin") || bytes_eq word (codes "seal")
    || bytes_eq word (codes "restart")

-- a peer's name alone follows the word
abbrev pub names_peer : List ℕ → Bool
names_peer word =
    bytes_eq word (codes "part") || bytes_eq word (codes "connect") || bytes_eq word (codes "shed")
    || bytes_eq word (codes "rotate")

-- a number alone follows the word
abbrev pub names_connection : List ℕ → Bool
names_connection word =
    bytes_eq word (codes "hand") || bytes_eq word (codes "break") || bytes_eq word (codes "tick")

-- the parts after the first word of a line
abbrev pub parts_of : List ℕ → Option (List Part)
parts_of word =
    if stands_alone word then Some []
    else if names_peer word then Some (Peer ∷ [])
    else if names_connection word then Some (Number ∷ [])
    else if bytes_eq word (codes "line") then Some (Rest ∷ [])
    else if bytes_eq word (codes "peer") then Some (Peer ∷ Rest ∷ [])
    else if bytes_eq word (codes "tape") then Some (Disk ∷ Digits ∷ [])
    else if bytes_eq word (codes "import") then Some (Peer ∷ Written ∷ [])
    else if bytes_eq word (codes "say") then Some (Number ∷ Text ∷ [])
    else if bytes_eq word (codes "raw") then Some (Number ∷ Digits ∷ [])
    else if bytes_eq word (codes "article") then Some (Number ∷ Written ∷ [])
    else if bytes_eq word (codes "stop") then Some (Tape ∷ Call ∷ Number ∷ Octet ∷ [])
    else None

-- a line may end before this part
abbrev pub may_lack : Part → Bool
may_lack Tape = true
may_lack Octet = true
may_lack Rest = true
may_lack _ = false

-- what is expected here, in words
abbrev pub wanted : Part → List ℕ
wanted Peer = codes "the name of a peer, of 1 to 64 letters, digits, '.', '-' and '_', the first not '.'"
wanted Tape = codes "the name of a peer, or ~intake"
wanted Disk = codes "the name of a peer, or ~intake, and ~b after it for the second disk"
wanted Number = codes "a number of 0 to 18446744073709551615"
wanted Call = codes "the number of a disk call, from 1"
wanted Octet = codes "a number of 0 to 255"
wanted Digits = codes "pairs of hexadecimal digits"
wanted Written = codes "a text whose only escapes are \\n, \\r, \\0 and \\\\"
wanted Text = codes "a text"
wanted Rest = codes "a text"

-- the name of a tape, or that with `~b` after it
abbrev pub is_disk : List ℕ → Bool
is_disk text =
    if bytes_eq (drop (length text - 2) text) (codes "~b") then is_tape (take (length text - 2) text) else is_tape text

-- a number above 0
abbrev pub is_call_number : Option ℕ → Bool
is_call_number None = false
is_call_number (Some number) = nat_le 1 number

abbrev pub is_call : List ℕ → Bool
is_call text = is_call_number (u64_of text)

-- a number of 8 bits
abbrev pub is_octet_number : Option ℕ → Bool
is_octet_number None = false
is_octet_number (Some number) = nat_le number 255

abbrev pub is_octet : List ℕ → Bool
is_octet text = is_octet_number (u64_of text)

-- the first place, unless there is no misfit
abbrev pub none_unless : (fits : Bool) → Option ℕ
none_unless true = None
none_unless false = Some 0

-- the first octet that is no hexadecimal digit
abbrev pub no_digit : List ℕ → Option ℕ
no_digit text = position (λ octet. not (is_ascii_hexdigit octet)) text

-- the end of digits if the last pair lacks one, or if there is no pair
abbrev pub odd_end : List ℕ → Option ℕ
odd_end text = if length text == 0 || length text % 2 == 1 then Some (length text) else None

-- where digits cease to be pairs of hexadecimal digits: at this place, or at their end
abbrev pub first_misfit : List ℕ → Option ℕ → Option ℕ
first_misfit text None = odd_end text
first_misfit text (Some place) = Some place

abbrev pub digits_misfit : List ℕ → Option ℕ
digits_misfit text = first_misfit text (no_digit text)

-- a letter after a backslash that stands for an octet: n, r, 0 or a backslash
abbrev pub is_escape : ℕ → Bool
is_escape letter = letter == 110 || letter == 114 || letter == 48 || letter == 92

-- The first backslash that is not followed by such a letter, each escape taken as one, in a text that begins at this
-- place.
abbrev pub bad_escape : (place : ℕ) → List ℕ → Option ℕ
bad_escape place [] = None
bad_escape place (octet ∷ []) = if octet == 92 then Some place else None
bad_escape place (octet ∷ letter ∷ rest) =
    if octet == 92 then (if is_escape letter then bad_escape (place + 2) rest else Some place)
    else bad_escape (place + 1) (letter ∷ rest)

-- how many octets the first one of a text is written with
abbrev pub first_count : List ℕ → Option ℕ
first_count text =
    if not (slice_index text 0 == 92) then Some 1
    else if nat_lt 1 (length text) && is_escape (slice_index text 1) then Some 2 else None

-- Where the first octet stands that this part can't have, or the text's end if something is missing; none if the text
-- is such a part.
abbrev pub misfit_place : Part → List ℕ → Option ℕ
misfit_place Peer text = none_unless (is_peer_name text)
misfit_place Tape text = none_unless (is_tape text)
misfit_place Disk text = none_unless (is_disk text)
misfit_place Number text = none_unless (is_some (u64_of text))
misfit_place Call text = none_unless (is_call text)
misfit_place Octet text = none_unless (is_octet text)
misfit_place Digits text = digits_misfit text
misfit_place Written text = bad_escape 0 text
misfit_place Text text = None
misfit_place Rest text = None
