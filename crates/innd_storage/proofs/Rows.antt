-- Worked examples: what innd 2.7.1 wrote.
use Rattle.std.specs.Prelude.{◌≡◌, ◌∷◌, [], ◌++◌, true, false, Option, Some, None, Result, Ok, Err, codes}
use Rattle.std.specs.Prelude.{refl, ℕ, List}
use Rattle.std.specs.Fmt.{digits}
use Rattle.innd_storage.specs.ArticleHeads.{head_of, is_set}
use Rattle.innd_storage.specs.Cycbuffs.{header_of, offset_in}
use Rattle.innd_storage.specs.CycbuffLines.{cycbuff_line_of}
use Rattle.innd_storage.specs.MapLines.{is_group_path, map_line_of}
use Rattle.innd_storage.specs.Numbers.{number_at, number_of}
use Rattle.innd_storage.specs.Paths.{timehash_path, tradspool_path}
use Rattle.innd_storage.specs.Places.{place_of}
use Rattle.innd_storage.specs.Tokens.{storage_token_of, octet_at, u16_at, u32_at}
use Rattle.innd_storage.specs.declared.buffer_name.BufferName.{BufferName}
use Rattle.innd_storage.specs.declared.token.StorageToken.TheVariants.{Tradspool, Timehash, Cnfs}
use Rattle.innd_storage.specs.declared.token.TokenFault.TheVariants.{Timecaf, UnknownMethod, BadFields}
use Rattle.innd_storage.specs.declared.cycbuff_line.CycbuffLineFault.TheVariants.{UnknownLine, BadName}
use Rattle.innd_storage.specs.declared.cycbuff_line.CycbuffLineFault.TheVariants.{BadPath, BadLength}

-- the name ONE
abbrev one : BufferName
one = record { field = 79 ∷ 78 ∷ 69 ∷ 0 ∷ 0 ∷ 0 ∷ 0 ∷ 0 ∷ [] }

-- newsgroup 7, article 17
tradspool_token : storage_token_of (codes "@050300000007000000000000001100000000@")
    ≡ Ok (Some (Tradspool (record { class = 3; group = 7; number = 17 })))
unfolding octet_at u16_at u32_at place_of
tradspool_token = refl

-- the same from a host of 32 bits
narrow_token : storage_token_of (codes "@050300000007000000110000000000000000@")
    ≡ Ok (Some (Tradspool (record { class = 3; group = 7; number = 17 })))
unfolding octet_at u16_at u32_at place_of
narrow_token = refl

no_number : storage_token_of (codes "@050300000007000000000000000000000000@") ≡ Err BadFields
unfolding octet_at u16_at u32_at place_of
no_number = refl

timehash_token : storage_token_of (codes "@02036B0CBCC4003100000000000000000000@")
    ≡ Ok (Some (Timehash (record { class = 3; arrival = 0x6b0cbcc4; sequence = 0x31 })))
unfolding octet_at u16_at u32_at place_of
timehash_token = refl

-- buffer ONE, block 0x72a, cycle 1
cnfs_token : storage_token_of (codes "@03074F4E4500000000000000072A00000001@")
    ≡ Ok (Some (Cnfs (record { class = 7; buffer = one; block = 0x72a; cycle = 1 })))
unfolding octet_at u16_at u32_at place_of
cnfs_token = refl

timecaf_token : storage_token_of (codes "@0403006B0CBC003300000000000000000000@") ≡ Err Timecaf
unfolding octet_at u16_at u32_at place_of
timecaf_token = refl

other_token : storage_token_of (codes "lab/a/17") ≡ Ok None
unfolding octet_at u16_at u32_at place_of
other_token = refl

timehash_file : timehash_path (record { class = 3; arrival = 0x6b0cbcc4; sequence = 0x31 })
    ≡ codes "time-03/0c/bc/0031-6bc4"
timehash_file = refl

tradspool_file : tradspool_path (codes "lab/deep/er/than/that") 17 ≡ codes "lab/deep/er/than/that/17"
unfolding digits
tradspool_file = refl

map_line : map_line_of (codes "lab/b/c/d 6") ≡ Some (codes "lab/b/c/d", 6)
unfolding place_of is_group_path number_of
map_line = refl

map_line_up : map_line_of (codes "lab/../d 6") ≡ None
unfolding place_of is_group_path number_of
map_line_up = refl

map_line_slash : map_line_of (codes "/lab 6") ≡ None
unfolding place_of is_group_path number_of
map_line_slash = refl

cycbuff_line : cycbuff_line_of (codes "cycbuff:ONE:/var/spool/one:16384")
    ≡ Ok (Some (one, codes "/var/spool/one", 16384))
unfolding place_of number_of
cycbuff_line = refl

meta_line : cycbuff_line_of (codes "metacycbuff:BIG:ONE,TWO:SEQUENTIAL") ≡ Ok None
unfolding place_of number_of
meta_line = refl

name_too_long : cycbuff_line_of (codes "cycbuff:BUFFER-1:/one:64") ≡ Err BadName
unfolding place_of number_of
name_too_long = refl

-- the fifth block of a buffer has the fifth bit from the top
bit_of_block : is_set (0 ∷ 0 ∷ 0 ∷ 0 ∷ 0 ∷ 0 ∷ 0 ∷ 8 ∷ []) 4 ≡ true
bit_of_block = refl

bit_of_other : is_set (0 ∷ 0 ∷ 0 ∷ 0 ∷ 0 ∷ 0 ∷ 0 ∷ 8 ∷ []) 3 ≡ false
bit_of_other = refl

-- what stands before an article of 0x443 octets
abbrev before_text : List ℕ
before_text =
    0 ∷ 0 ∷ 4 ∷ 0x43 ∷ 0 ∷ 0 ∷ 0 ∷ 0 ∷ 0x6b ∷ 0x0c ∷ 0xbc ∷ 0xc5 ∷ 0 ∷ 0 ∷ 0 ∷ 0
    ∷ 7 ∷ 0 ∷ 0 ∷ 0 ∷ 0 ∷ 0 ∷ 0 ∷ 0 ∷ []

head : head_of before_text ≡ Some (record { size = 0x443; arrival = 0x6b0cbcc5; class = 7 })
unfolding number_at
head = refl
