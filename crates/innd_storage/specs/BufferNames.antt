-- The names of the buffers of CNFS: 1 to 7 octets (cycbuff.conf(5)), padded with NUL (INN's storage/cnfs).
use Rattle.std.specs.Prelude.{◌==◌, ◌&&◌, ◌+◌, ℕ, Bool, if◌then◌else◌, nat_le, nat_lt, List, [], ◌∷◌, length, drop}
use Rattle.std.specs.Prelude.{Option, Some, None, slice_index, take}
use Rattle.std.specs.List.{list_all}
use Rattle.innd_storage.specs.Places.{place_of}
use Rattle.innd_storage.specs.declared.buffer_name.BufferName.{BufferName}

abbrev pub is_nul : ℕ → Bool
is_nul octet = octet == 0

-- how many octets come before the first NUL
abbrev pub name_end : List ℕ → ℕ
name_end field = place_of 0 field

-- one octet or more, and then NUL up to the end
abbrev pub is_name_field : List ℕ → Bool
is_name_field field =
    nat_lt 0 (name_end field) && nat_lt (name_end field) (length field) && list_all is_nul (drop (name_end field) field)

-- the octets of a buffer's name
abbrev pub name_octets : BufferName → List ℕ
name_octets name = take (name_end name.field) name.field

-- eight octets from here on, NUL where there are no more
abbrev pub eight_at : List ℕ → ℕ → List ℕ
eight_at octets at =
    slice_index octets at ∷ slice_index octets (at + 1) ∷ slice_index octets (at + 2) ∷ slice_index octets (at + 3)
    ∷ slice_index octets (at + 4) ∷ slice_index octets (at + 5) ∷ slice_index octets (at + 6)
    ∷ slice_index octets (at + 7) ∷ []

-- the name that eight octets have, if they have one
abbrev pub buffer_in : List ℕ → Option BufferName
buffer_in field = if is_name_field field then Some (record { field = field }) else None

-- the buffer with this name, if a buffer can have it
abbrev pub buffer_named : List ℕ → Option BufferName
buffer_named name = if nat_le (length name) 7 then buffer_in (eight_at name 0) else None
