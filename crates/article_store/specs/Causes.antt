-- Why a text can't be sent (profile).
use Rattle.std.specs.Prelude.{◌==◌, ℕ, Bool, false, List, [], ◌∷◌, Option, None, Some, drop, not, if◌then◌else◌}
use Rattle.std.specs.List.{find}
use Rattle.memchr.specs.Find.{is_byte2, places}
use Rattle.dot_codec.specs.Scan.{begins_with_crlf}
use Rattle.article_store.specs.declared.unsendable.Unsendable.{Unsendable}
use Rattle.article_store.specs.declared.unsendable.Unsendable.TheVariants.{Empty, Nul, BareCr, TooLong}

-- the place of the first octet that no text may have: a NUL, or a CR that is not directly before an LF
abbrev pub bad_place : List ℕ → Option ℕ
bad_place text = find (λ at. not (begins_with_crlf (drop at text))) (places (is_byte2 0 13) text)

abbrev pub begins_with_nul : List ℕ → Bool
begins_with_nul [] = false
begins_with_nul (octet ∷ rest) = octet == 0

-- what is wrong with the octet at this place, and the text is too long if there is no such place
abbrev pub cause_at : List ℕ → Option ℕ → Unsendable
cause_at text None = TooLong
cause_at text (Some at) = if begins_with_nul (drop at text) then Nul else BareCr

-- Why a text that can't be sent can't: the first cause in reading order, and its length only if there is no other.
abbrev pub cause_of : List ℕ → Unsendable
cause_of [] = Empty
cause_of (octet ∷ rest) = cause_at (octet ∷ rest) (bad_place (octet ∷ rest))
