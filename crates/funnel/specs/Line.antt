-- Funnel lines (innfeed(8); the rules of names and lengths are this profile's).
use Rattle.std.specs.Prelude.{◌≡◌, ◌==◌, ◌-◌, ◌<◌, ◌≤◌, ◌&&◌, ℕ, false, if◌then◌else◌, List, [], ◌∷◌, length, nat_lt}
use Rattle.std.specs.Prelude.{slice_index, take, filter, IsTrue}
use Rattle.funnel.specs.declared.line.LineFault.{LineFault}
use Rattle.funnel.specs.declared.line.LineFault.TheVariants.{NoToken, BadToken, BadId, TooLong, NoMemory}
use Rattle.funnel.specs.Names.{is_msg_id, is_token, is_peer_name}
use Rattle.funnel.specs.Words.{HasWords}

-- the longest line, in octets before its LF, a CR included
abbrev pub longest_line : ℕ
longest_line = 8192

-- a line without the one CR that may end it
abbrev pub without_cr : List ℕ → List ℕ
without_cr line = if nat_lt 0 (length line) && slice_index line (length line - 1) == 13 then take (length line - 1) line else line

-- The octets before the LF are a good line: a token, a message-id, and then words. Those that are names of peers are
-- the peers, as written.
pub record IsFunnelLine (line token id : List ℕ) (peers : List (List ℕ)) : Type 0 where
  pub others : List (List ℕ)
  pub short : length line ≤ longest_line
  pub words : HasWords (without_cr line) (token ∷ id ∷ others)
  pub token_form : IsTrue (is_token token)
  pub id_form : IsTrue (is_msg_id id)
  pub named : peers ≡ filter is_peer_name others

-- The octets before the LF are a good line of a backlog file: a token, a message-id, and then any words.
pub record IsBacklogLine (line token id : List ℕ) : Type 0 where
  pub others : List (List ℕ)
  pub short : length line ≤ longest_line
  pub words : HasWords (without_cr line) (token ∷ id ∷ others)
  pub token_form : IsTrue (is_token token)
  pub id_form : IsTrue (is_msg_id id)

-- the first of these words, if there is one, is not a message-id
abbrev pub LacksId : List (List ℕ) → Type 0
LacksId [] = Unit {0}
LacksId (word ∷ words) = is_msg_id word ≡ false

-- The fault of a line that is not good, the first in this order: too long, no word, no token first, no message-id
-- second.
abbrev pub HasFault : List ℕ → LineFault → Type 0
HasFault line TooLong = longest_line < length line
HasFault line NoToken = (length line ≤ longest_line) × HasWords (without_cr line) []
HasFault line BadToken = (length line ≤ longest_line) × (word : List ℕ) × (words : List (List ℕ)) × HasWords (without_cr line) (word ∷ words) × (is_token word ≡ false)
HasFault line BadId = (length line ≤ longest_line) × (token : List ℕ) × (words : List (List ℕ)) × HasWords (without_cr line) (token ∷ words) × IsTrue (is_token token) × LacksId words
HasFault line NoMemory = Unit {0}
