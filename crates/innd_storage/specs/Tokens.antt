-- Tokens of innd's storage API (INN's storage/interface.c and the makers of tokens in its methods tradspool, timehash
-- and cnfs): the octets of a token, and what each method has in them.
use Rattle.std.specs.Prelude.{◌==◌, ◌&&◌, ◌+◌, ◌*◌, ℕ, Bool, if◌then◌else◌, not, List, [], ◌∷◌, length}
use Rattle.std.specs.Prelude.{Option, Some, None, Result, Ok, Err, slice_index, slice_range}
use Rattle.std.specs.Char.{digit_value, is_ascii_hexdigit}
use Rattle.std.specs.Int.{from_be_bytes, w16, w32}
use Rattle.std.specs.List.{list_all}
use Rattle.std.specs.Option.{option_map}
use Rattle.innd_storage.specs.BufferNames.{buffer_in}
use Rattle.innd_storage.specs.declared.buffer_name.BufferName.{BufferName}
use Rattle.innd_storage.specs.declared.token.CnfsToken.{CnfsToken}
use Rattle.innd_storage.specs.declared.token.StorageToken.{StorageToken}
use Rattle.innd_storage.specs.declared.token.StorageToken.TheVariants.{Tradspool, Timehash, Cnfs}
use Rattle.innd_storage.specs.declared.token.TimehashToken.{TimehashToken}
use Rattle.innd_storage.specs.declared.token.TokenFault.{TokenFault}
use Rattle.innd_storage.specs.declared.token.TokenFault.TheVariants.{Timecaf, UnknownMethod, BadFields}
use Rattle.innd_storage.specs.declared.token.TradspoolToken.{TradspoolToken}

-- `@`, 36 hexadecimal digits of either case, `@`
abbrev pub is_storage_text : List ℕ → Bool
is_storage_text text =
    length text == 38 && slice_index text 0 == 64 && slice_index text 37 == 64
    && list_all is_ascii_hexdigit (slice_range text 1 37)

-- one of the 18 octets, which two digits write
unfoldable pub octet_at : List ℕ → ℕ → ℕ
octet_at text index =
    16 * digit_value (slice_index text (2 * index + 1)) + digit_value (slice_index text (2 * index + 2))

-- a number of two or of four octets, the highest first
unfoldable pub u16_at : List ℕ → ℕ → ℕ
u16_at text index = from_be_bytes w16 (octet_at text index ∷ octet_at text (index + 1) ∷ [])

unfoldable pub u32_at : List ℕ → ℕ → ℕ
u32_at text index =
    from_be_bytes w32
    (octet_at text index ∷ octet_at text (index + 1) ∷ octet_at text (index + 2) ∷ octet_at text (index + 3) ∷ [])

-- The number of an article of tradspool: a host of 64 bits writes it four octets after one of 32 bits; one of the two
-- is 0, and so is what follows.
abbrev pub article_number : ℕ → ℕ → ℕ → Option ℕ
article_number narrow wide rest =
    if not (rest == 0) then None
    else (if narrow == 0 && not (wide == 0) then Some wide
    else (if not (narrow == 0) && wide == 0 then Some narrow else None))

-- tradspool: the octets of the group's number begin at 2, those of the article's at 6 or 10
abbrev pub tradspool_by : List ℕ → Option ℕ → Option TradspoolToken
tradspool_by text None = None
tradspool_by text (Some number) = Some (record { class = octet_at text 1; group = u32_at text 2; number = number })

abbrev pub tradspool_of : List ℕ → Option TradspoolToken
tradspool_of text = tradspool_by text (article_number (u32_at text 6) (u32_at text 10) (u32_at text 14))

-- timehash: the time of arrival at 2, the sequence number at 6, and then 0
abbrev pub timehash_of : List ℕ → Option TimehashToken
timehash_of text =
    if u32_at text 8 == 0 && u32_at text 12 == 0 && u16_at text 16 == 0
    then Some (record { class = octet_at text 1; arrival = u32_at text 2; sequence = u16_at text 6 })
    else None

-- the eight octets of the buffer's name
abbrev pub name_field_of : List ℕ → List ℕ
name_field_of text =
    octet_at text 2 ∷ octet_at text 3 ∷ octet_at text 4 ∷ octet_at text 5 ∷ octet_at text 6 ∷ octet_at text 7
    ∷ octet_at text 8 ∷ octet_at text 9 ∷ []

-- CNFS: the buffer's name at 2, the block at 10, the cycle at 14
abbrev pub cnfs_by : List ℕ → Option BufferName → Option CnfsToken
cnfs_by text None = None
cnfs_by text (Some buffer) =
    Some (record { class = octet_at text 1; buffer = buffer; block = u32_at text 10; cycle = u32_at text 14 })

abbrev pub cnfs_of : List ℕ → Option CnfsToken
cnfs_of text = cnfs_by text (buffer_in (name_field_of text))

-- a place, or the fault of its fields
abbrev pub place_or_fault : Option StorageToken → Result (Option StorageToken) TokenFault
place_or_fault None = Err BadFields
place_or_fault (Some token) = Ok (Some token)

-- what the octets mean by their method, which is the first of them
abbrev pub by_method : ℕ → List ℕ → Result (Option StorageToken) TokenFault
by_method method text =
    if method == 2 then place_or_fault (option_map Timehash (timehash_of text))
    else (if method == 3 then place_or_fault (option_map Cnfs (cnfs_of text))
    else (if method == 4 then Err Timecaf
    else (if method == 5 then place_or_fault (option_map Tradspool (tradspool_of text)) else Err UnknownMethod)))

-- what a token means; nothing if it is none of the storage API
abbrev pub storage_token_of : List ℕ → Result (Option StorageToken) TokenFault
storage_token_of text = if is_storage_text text then by_method (octet_at text 0) text else Ok None
