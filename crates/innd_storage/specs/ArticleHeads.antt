-- The bits of the blocks of a buffer of CNFS, and what stands before the text of an article (INN's storage/cnfs).
use Rattle.std.specs.Prelude.{◌==◌, ◌-◌, ◌%◌, ◌||◌, ℕ, Bool, if◌then◌else◌, not, List, slice_index, Option, Some, None}
use Rattle.std.specs.Int.{bit_at, from_le_bytes, w64}
use Rattle.innd_storage.specs.Numbers.{number_at}
use Rattle.innd_storage.specs.declared.article_head.ArticleHead.{ArticleHead}

-- the size at 0 and the arrival at 8, of four octets that four others of 0 follow; the class at 16
abbrev pub head_of : List ℕ → Option ArticleHead
head_of octets =
    if number_at octets 0 == 0 || not (number_at octets 4 == 0) || not (number_at octets 12 == 0) then None
    else Some (record { size = number_at octets 0; arrival = number_at octets 8; class = slice_index octets 16 })

-- of 64 blocks the first has the highest bit of a number whose lowest octet comes first
abbrev pub is_set : List ℕ → ℕ → Bool
is_set octets block = bit_at (from_le_bytes w64 octets) (63 - block % 64) == 1
