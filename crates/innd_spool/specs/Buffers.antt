-- What looks at a buffer of CNFS show of an article, while innd may write in it (INN's storage/cnfs).
use Rattle.std.specs.Prelude.{◌≡◌, ◌≢◌, ◌<◌, ◌≤◌, ◌+◌, ◌*◌, ◌/◌, ◌⊎◌, ℕ, Bool, false, true, List, length, slice_range}
use Rattle.std.specs.Prelude.{if◌then◌else◌}
use Rattle.std.specs.Prelude.{Option, None, Some, Ok, take}
use Rattle.dot_codec.specs.Lines.{longest_text}
use Rattle.innd_storage.specs.ArticleHeads.{head_of, is_set}
use Rattle.innd_storage.specs.Cycbuffs.{has_room, header_of, offset_in}
use Rattle.innd_storage.specs.declared.article_head.ArticleHead.{ArticleHead}
use Rattle.innd_storage.specs.declared.cycbuff.CycbuffHeader.{CycbuffHeader}
use Rattle.innd_storage.specs.declared.token.CnfsToken.{CnfsToken}
use Rattle.innd_spool.specs.declared.buffer_article.Place.{Place}
use Rattle.innd_spool.specs.declared.buffer_article.Stored.{Stored}
use Rattle.innd_spool.specs.declared.buffer_article.Stored.TheVariants.{Gone, TooLong, Octets}

-- what a file has at each moment, if it is known
abbrev pub Contents : Type 0
Contents = Option (ℕ → List ℕ)

-- a look at this moment, at this offset, finds these octets
abbrev pub Shows : Contents → ℕ → ℕ → List ℕ → Type 0
Shows None moment offset octets = Unit {0}
Shows (Some has) moment offset octets = octets ≡ slice_range (has moment) offset (offset + length octets)

abbrev pub offset_of_place : Place → ℕ
offset_of_place place = place.offset

-- what these octets of a header say of the token's article: its place, or that it has been written over
abbrev pub PlacesToken : List ℕ → CnfsToken → Option Place → Type 0
PlacesToken octets token None =
    (header : CycbuffHeader) × (header_of octets ≡ Ok header) × (header.name ≡ token.buffer)
    × (offset_in header token ≡ None)
PlacesToken octets token (Some place) =
    (header_of octets ≡ Ok place.header) × (place.header.name ≡ token.buffer)
    × (offset_in place.header token ≡ Some place.offset)

-- a look at the header at this moment finds the place of the token's article, or that it has been written over
abbrev pub ShowsPlaceOf : Contents → ℕ → CnfsToken → Option Place → Type 0
ShowsPlaceOf contents moment token found =
    (octets : List ℕ) × Shows contents moment 0 octets × PlacesToken octets token found

-- a look at this moment finds that bit of the block
abbrev pub ShowsBit : Contents → ℕ → ℕ → Bool → Type 0
ShowsBit contents moment block bit =
    (octets : List ℕ) × Shows contents moment (512 + 8 * (block / 64)) octets × (is_set octets block ≡ bit)

-- the size of an article with this head, if there is one that fits into the buffer
abbrev pub size_by : CycbuffHeader → ℕ → Option ArticleHead → Option ℕ
size_by header offset None = None
size_by header offset (Some head) = if has_room header offset head.size then Some head.size else None

-- an article of this size begins at the place that the header and this head give it
abbrev pub ShowsSize : Contents → ℕ → Place → List ℕ → Option ℕ → Type 0
ShowsSize contents moment place head size =
    Shows contents moment place.offset head × (size_by place.header place.offset (head_of head) ≡ size)

-- Looks from this moment on find the same head at this offset, and the block's bit.
abbrev pub IsUnchanged : Contents → ℕ → ℕ → ℕ → List ℕ → ℕ → Type 0
IsUnchanged contents moment tick offset head block =
    Shows contents moment offset head × ShowsBit contents (moment + tick) block true

-- Looks from this moment on find another head at this offset, or that the block's bit is clear.
pub data IsChanged (contents : Contents) (moment tick offset : ℕ) (head : List ℕ) (block : ℕ) : Type 0 where
  other_head : (other : List ℕ) → Shows contents moment offset other → other ≢ head
      → IsChanged contents moment tick offset head block
  bit_cleared : ShowsBit contents (moment + tick) block false → IsChanged contents moment tick offset head block

-- An article of the token is at a place, with this head: the header, the bit and the head say so.
pub record Begins (contents : Contents) (moment tick : ℕ) (token : CnfsToken) (place : Place) (head : List ℕ) (size : ℕ)
    : Type 0 where
  pub header : ShowsPlaceOf contents moment token (Some place)
  pub bit : ShowsBit contents (moment + tick) token.block true
  pub head_is : ShowsSize contents (moment + tick + tick) place head (Some size)

-- the moment at which a text was looked at: together with its head, or by the next look
abbrev pub IsReadAt : ℕ → ℕ → ℕ → Type 0
IsReadAt head tick read = (read ≡ head) ⊎ (read ≡ head + tick)

-- These octets are the text of the token's article: after it was read, the head and the bit are what they were before.
pub record IsTextBy (contents : Contents) (moment tick : ℕ) (token : CnfsToken) (octets : List ℕ) : Type 0 where
  pub place : Place
  pub head : List ℕ
  pub read : ℕ
  pub begins : Begins contents moment tick token place head (length octets)
  pub is_read : IsReadAt (moment + tick + tick) tick read
  pub text : Shows contents read (place.offset + 24) octets
  pub unchanged : IsUnchanged contents (read + tick) tick place.offset head token.block

-- The signs that a buffer no longer has an article: its place has been written over; its block's bit is clear; no
-- article begins there; or, once its text was read, another head is there, or the bit is clear. A look takes one tick.
pub data IsGoneBy (contents : Contents) (moment tick : ℕ) (token : CnfsToken) : Type 0 where
  written_over : ShowsPlaceOf contents moment token None → IsGoneBy contents moment tick token
  bit_clear : ShowsBit contents (moment + tick) token.block false → IsGoneBy contents moment tick token
  no_article : (place : Place) (head : List ℕ) → ShowsPlaceOf contents moment token (Some place)
      → ShowsSize contents (moment + tick + tick) place head None → IsGoneBy contents moment tick token
  changed : (place : Place) (head : List ℕ) (read size : ℕ) → Begins contents moment tick token place head size
      → IsReadAt (moment + tick + tick) tick read
      → IsChanged contents (read + tick) tick place.offset head token.block → IsGoneBy contents moment tick token

-- What was read of a text that follows a head: what came with the head, or what a look of its own showed.
pub data IsTextOf (contents : Contents) (moment tick after offset : ℕ) (came octets : List ℕ) : Type 0 where
  with_head : (size : ℕ) → octets ≡ take size came → after ≡ moment
      → IsTextOf contents moment tick after offset came octets
  by_look : Shows contents moment (offset + 24) octets → after ≡ moment + tick
      → IsTextOf contents moment tick after offset came octets

-- what was seen of an article, by looks from this moment on; its octets are at the front of the room
abbrev pub IsStoredBy : Contents → ℕ → ℕ → CnfsToken → List ℕ → Stored → Type 0
IsStoredBy contents moment tick token room Gone = IsGoneBy contents moment tick token
IsStoredBy contents moment tick token room TooLong =
    (place : Place) × (head : List ℕ) × (size : ℕ) × Begins contents moment tick token place head size
    × (longest_text < size)
IsStoredBy contents moment tick token room (Octets count) =
    (count ≤ length room) × IsTextBy contents moment tick token (take count room)

-- octets that were read are in the room
abbrev pub IsWithin : List ℕ → Stored → Type 0
IsWithin room Gone = Unit {0}
IsWithin room TooLong = Unit {0}
IsWithin room (Octets count) = count ≤ length room
