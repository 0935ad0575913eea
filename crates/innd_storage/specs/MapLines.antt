-- Lines of tradspool.map (INN's storage/tradspool): the directory of a newsgroup, a space, its number.
use Rattle.std.specs.Prelude.{◌==◌, ◌&&◌, ◌+◌, ◌^◌, ℕ, Bool, if◌then◌else◌, not, nat_le, nat_lt, List, length}
use Rattle.std.specs.Prelude.{take, drop}
use Rattle.std.specs.Prelude.{Option, Some, None}
use Rattle.std.specs.List.{list_all, list_any, slice_split}
use Rattle.innd_storage.specs.Numbers.{number_of}
use Rattle.innd_storage.specs.Places.{place_of}
use Rattle.innd_storage.specs.declared.map_line.MapLine.{MapLine}

-- neither a blank nor a control
abbrev pub is_path_octet : ℕ → Bool
is_path_octet octet = nat_lt 32 octet && not (octet == 127)

-- nothing, `.` or `..`
abbrev pub is_dots : List ℕ → Bool
is_dots part = nat_le (length part) 2 && list_all (λ octet. octet == 46) part

-- parts between slashes, none of them empty, `.` or `..`
unfoldable pub is_group_path : List ℕ → Bool
is_group_path path = list_all is_path_octet path && not (list_any is_dots (slice_split (λ octet. octet == 47) path))

-- the directory and the number of a line
abbrev pub map_parts : MapLine → List ℕ × ℕ
map_parts line = (line.group.now, line.number)

-- a number of 32 bits
abbrev pub within_32 : Option ℕ → Option ℕ
within_32 None = None
within_32 (Some number) = if nat_lt number (2 ^ 32) then Some number else None

abbrev pub group_number : List ℕ → Option ℕ
group_number digits = within_32 (number_of 10 digits)

-- the directory with its number, if there is one
abbrev pub with_number : List ℕ → Option ℕ → Option (List ℕ × ℕ)
with_number group None = None
with_number group (Some number) = Some (group, number)

-- what a line has before its first space, which is the directory, and after it, if it is a line
abbrev pub parts_at : List ℕ → ℕ → Option (List ℕ × ℕ)
parts_at line end =
    if nat_lt end (length line) && is_group_path (take end line)
    then with_number (take end line) (group_number (drop (end + 1) line))
    else None

abbrev pub map_line_of : List ℕ → Option (List ℕ × ℕ)
map_line_of line = parts_at line (place_of 32 line)
