-- The header of a buffer of CNFS, and where an article is in it (INN's storage/cnfs, version 4 of its buffers).
use Rattle.std.specs.Prelude.{◌==◌, ◌&&◌, ◌||◌, ◌+◌, ◌*◌, ℕ, Bool, if◌then◌else◌, nat_eq, nat_le, nat_lt}
use Rattle.std.specs.Prelude.{List, [], ◌∷◌, ◌++◌}
use Rattle.std.specs.Prelude.{Option, Some, None, Result, Ok, Err, codes, slice_range}
use Rattle.std.specs.List.{list_all, starts_with}
use Rattle.innd_storage.specs.BufferNames.{buffer_in, eight_at, is_nul}
use Rattle.innd_storage.specs.Numbers.{number_of}
use Rattle.innd_storage.specs.declared.buffer_name.BufferName.{BufferName}
use Rattle.innd_storage.specs.declared.cycbuff.CycbuffHeader.{CycbuffHeader}
use Rattle.innd_storage.specs.declared.cycbuff.HeaderFault.{HeaderFault}
use Rattle.innd_storage.specs.declared.cycbuff.HeaderFault.TheVariants.{NotCycbuff, BadName, BadNumber}
use Rattle.innd_storage.specs.declared.token.CnfsToken.{CnfsToken}

-- `CBuf4`, padded with NUL to eight octets
abbrev pub is_magic : List ℕ → Bool
is_magic octets = starts_with nat_eq octets (codes "CBuf4" ++ 0 ∷ 0 ∷ 0 ∷ [])

-- the name: 16 octets from 8 on, of which the last eight are NUL
abbrev pub name_of : List ℕ → Option BufferName
name_of octets = if list_all is_nul (slice_range octets 16 24) then buffer_in (eight_at octets 8) else None

-- a number of 16 hexadecimal digits
abbrev pub number_in : List ℕ → ℕ → Option ℕ
number_in octets at = number_of 16 (slice_range octets at (at + 16))

abbrev pub with_numbers : BufferName → Option ℕ → Option ℕ → Option ℕ → Option ℕ → Result CycbuffHeader HeaderFault
with_numbers name None free cycle block_size = Err BadNumber
with_numbers name (Some length) None cycle block_size = Err BadNumber
with_numbers name (Some length) (Some free) None block_size = Err BadNumber
with_numbers name (Some length) (Some free) (Some cycle) None = Err BadNumber
with_numbers name (Some length) (Some free) (Some cycle) (Some block_size) =
    if block_size == 0 then Err BadNumber
    else Ok (record { name = name; length = length; free = free; cycle = cycle; block_size = block_size })

-- the length at 88, the first free octet at 104, the cycle at 136, the size of a block at 192
abbrev pub with_name : List ℕ → Option BufferName → Result CycbuffHeader HeaderFault
with_name octets None = Err BadName
with_name octets (Some name) =
    with_numbers name (number_in octets 88) (number_in octets 104) (number_in octets 136) (number_in octets 192)

-- what a header says, or its first fault
abbrev pub header_of : List ℕ → Result CycbuffHeader HeaderFault
header_of octets = if is_magic octets then with_name octets (name_of octets) else Err NotCycbuff

-- whether the head and the text of an article of this size are within the buffer
abbrev pub has_room : CycbuffHeader → ℕ → ℕ → Bool
has_room header offset size = nat_le (offset + (24 + size)) header.length

-- the cycle after this one: after the last of 32 bits comes 2
abbrev pub next_cycle : ℕ → ℕ
next_cycle cycle = if cycle == 4294967295 then 2 else cycle + 1

-- whether an article that was written in this cycle at this offset has not been written over: the buffer is in the same
-- cycle, or in the next one and has not come farther than to it
abbrev pub is_kept : CycbuffHeader → ℕ → ℕ → Bool
is_kept header cycle offset = header.cycle == cycle || header.cycle == next_cycle cycle && nat_le header.free offset

-- where the article of a token is, if it has not been written over
abbrev pub offset_in : CycbuffHeader → CnfsToken → Option ℕ
offset_in header token =
    let offset = token.block * header.block_size in
    if has_room header offset 0 && is_kept header token.cycle offset then Some offset else None
