-- A reply line of a news server: a code of three digits, and what follows it (RFC 3977, sections 3.1 and 3.2).
use Rattle.std.specs.Prelude.{◌≡◌, ◌≢◌, ◌+◌, ◌-◌, ◌*◌, ◌≤◌, ◌⊎◌, ℕ, Option, Some, None, List, ◌∷◌, slice_index, IsTrue}
use Rattle.funnel.specs.Line.{LacksId, without_cr}
use Rattle.funnel.specs.Names.{is_msg_id}
use Rattle.funnel.specs.Words.{HasWords}

-- `0` to `9`
abbrev pub IsDigit : ℕ → Type 0
IsDigit octet = (48 ≤ octet) × (octet ≤ 57)

-- the octets begin with three digits, which are the code, and this is the rest after them (RFC 3977, section 3.2)
pub record BeginsWithCode (octets : List ℕ) (code : ℕ) (rest : List ℕ) : Type 0 where
  pub first : ℕ
  pub second : ℕ
  pub third : ℕ
  pub reads : octets ≡ first ∷ second ∷ third ∷ rest
  pub digits : IsDigit first × IsDigit second × IsDigit third
  pub value : code ≡ 100 * (first - 48) + 10 * (second - 48) + (third - 48)

-- what follows the code has this message-id as its first word, or none there (RFC 3977, section 3.6)
abbrev pub HasId : List ℕ → Option (List ℕ) → Type 0
HasId rest None = (words : List (List ℕ)) × HasWords rest words × LacksId words
HasId rest (Some id) = (words : List (List ℕ)) × HasWords rest (id ∷ words) × IsTrue (is_msg_id id)

-- `text` is what follows the code, without one space at its beginning (RFC 3977, section 3.2)
abbrev pub IsText : List ℕ → List ℕ → Type 0
IsText rest text = (rest ≡ 32 ∷ text) ⊎ ((rest ≡ text) × (slice_index rest 0 ≢ 32))

-- The line, without its LF, is a reply line with this code, message-id and text (RFC 3977, sections 3.1 and 3.2). One
-- CR at its end belongs to the end of the line.
pub record IsReplyLine (line : List ℕ) (code : ℕ) (id : Option (List ℕ)) (text : List ℕ) : Type 0 where
  pub rest : List ℕ
  pub begins : BeginsWithCode (without_cr line) code rest
  pub names : HasId rest id
  pub says : IsText rest text

-- the line, without its LF, does not begin with three digits, so it is not a reply line (RFC 3977, section 3.2)
abbrev pub IsNoReply : List ℕ → Type 0
IsNoReply line = (code : ℕ) (rest : List ℕ) → BeginsWithCode (without_cr line) code rest → ⊥
