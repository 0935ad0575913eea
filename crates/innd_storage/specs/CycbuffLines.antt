-- Lines of cycbuff.conf (cycbuff.conf(5)): `cycbuff:NAME:PATH:KIB`, and those that name no buffer.
use Rattle.std.specs.Prelude.{◌==◌, ◌&&◌, ◌||◌, ◌^◌, ℕ, Bool, if◌then◌else◌, nat_eq, nat_le, nat_lt, List, length, drop}
use Rattle.std.specs.Prelude.{◌+◌, take, Option, Some, None, Result, Ok, Err, codes}
use Rattle.std.specs.List.{starts_with}
use Rattle.innd_storage.specs.BufferNames.{buffer_named}
use Rattle.innd_storage.specs.Numbers.{number_of}
use Rattle.innd_storage.specs.Places.{place_of}
use Rattle.innd_storage.specs.declared.buffer_name.BufferName.{BufferName}
use Rattle.innd_storage.specs.declared.cycbuff_line.CycbuffLine.{CycbuffLine}
use Rattle.innd_storage.specs.declared.cycbuff_line.CycbuffLineFault.{CycbuffLineFault}
use Rattle.innd_storage.specs.declared.cycbuff_line.CycbuffLineFault.TheVariants.{UnknownLine, BadName}
use Rattle.innd_storage.specs.declared.cycbuff_line.CycbuffLineFault.TheVariants.{BadPath, BadLength}

abbrev pub begins : List ℕ → List ℕ → Bool
begins line word = starts_with nat_eq line word

abbrev pub colon_at : List ℕ → ℕ
colon_at text = place_of 58 text

-- what comes before the first colon, or all
abbrev pub before_colon : List ℕ → List ℕ
before_colon text = take (colon_at text) text

-- what comes after the first colon, or nothing
abbrev pub after_colon : List ℕ → List ℕ
after_colon text = drop (colon_at text + 1) text

-- an absolute path of 63 octets at most
abbrev pub is_path : List ℕ → Bool
is_path path = nat_le (length path) 63 && begins path (codes "/")

-- a length in units of 1,024 octets that is not 0 and fits in octets into 64 bits
abbrev pub within_kib : Option ℕ → Option ℕ
within_kib None = None
within_kib (Some kib) = if nat_lt 0 kib && nat_lt kib (2 ^ 54) then Some kib else None

abbrev pub kib_of : List ℕ → Option ℕ
kib_of digits = within_kib (number_of 10 digits)

-- the name, path and length of a buffer
abbrev pub Parts : Type 0
Parts = BufferName × List ℕ × ℕ

abbrev pub parts_of : CycbuffLine → Parts
parts_of line = (line.name, line.path.now, line.kib)

abbrev pub parts_of_line : Result CycbuffLine CycbuffLineFault → Result Parts CycbuffLineFault
parts_of_line (Ok line) = Ok (parts_of line)
parts_of_line (Err fault) = Err fault

abbrev pub parts_given : Result (Option CycbuffLine) CycbuffLineFault → Result (Option Parts) CycbuffLineFault
parts_given (Ok None) = Ok None
parts_given (Ok (Some line)) = Ok (Some (parts_of line))
parts_given (Err fault) = Err fault

-- its parts in this order, or the first that is missing
abbrev pub with_parts : Option BufferName → List ℕ → Option ℕ → Result Parts CycbuffLineFault
with_parts None path kib = Err BadName
with_parts (Some name) path None = if is_path path then Err BadLength else Err BadPath
with_parts (Some name) path (Some kib) = if is_path path then Ok (name, path, kib) else Err BadPath

-- the line of a buffer, from its name on
abbrev pub buffer_line_of : List ℕ → Result Parts CycbuffLineFault
buffer_line_of text =
    with_parts (buffer_named (before_colon text)) (before_colon (after_colon text))
    (kib_of (after_colon (after_colon text)))

-- empty, a comment, or a setting that names no buffer
abbrev pub is_other_line : List ℕ → Bool
is_other_line line =
    length line == 0 || begins line (codes "#") || begins line (codes "cycbuffupdate:")
    || begins line (codes "refreshinterval:") || begins line (codes "metacycbuff:")

abbrev pub as_buffer : Result Parts CycbuffLineFault → Result (Option Parts) CycbuffLineFault
as_buffer (Ok parts) = Ok (Some parts)
as_buffer (Err fault) = Err fault

-- what a line has: a buffer, or nothing if it names none
abbrev pub cycbuff_line_of : List ℕ → Result (Option Parts) CycbuffLineFault
cycbuff_line_of line =
    if begins line (codes "cycbuff:") then as_buffer (buffer_line_of (drop 8 line))
    else (if is_other_line line then Ok None else Err UnknownLine)
