-- How far the file of an article is read.
use Rattle.std.specs.Prelude.{◌&&◌, ◌||◌, ◌⊎◌, ℕ, Bool, nat_eq, nat_le, nat_lt, List, ◌∷◌, length, take}
use Rattle.std.specs.Prelude.{IsTrue, Option}
use Rattle.std.specs.List.{ends_with}
use Rattle.std.specs.Io.KnownBytes.{IsAtEnd}
use Rattle.dot_codec.specs.Block.{end_of_block}
use Rattle.innd_spool.specs.Texts.{is_in_wire_format}
use Rattle.innd_spool.specs.declared.texts.Form.{Form}

-- octets in wire format that end as a block does: a dot is alone on their last line (RFC 3977, section 3.1.1)
abbrev pub is_ended : Form → List ℕ → Bool
is_ended form octets = ends_with nat_eq octets (13 ∷ 10 ∷ end_of_block) && is_in_wire_format form octets

-- No read follows those that filled so much of the room: as much as is read of any file, or octets that end as a block
-- does and left room, so that the last read has given all that was there.
abbrev pub is_read_out : Form → List ℕ → ℕ → Bool
is_read_out form room count = nat_le 16777217 count || (nat_lt count (length room) && is_ended form (take count room))

-- why no more was read than this: no read follows, or the reader has no more
abbrev pub IsReadOut : Form → List ℕ → Option (List ℕ) → ℕ → Type 0
IsReadOut form room left count = IsTrue (is_read_out form room count) ⊎ IsAtEnd left
