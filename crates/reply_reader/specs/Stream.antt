-- The meaning of a reader of reply lines: the octets that it was fed, and the replies that it gave (RFC 3977, section
-- 3.1).
use Rattle.std.specs.Prelude.{◌≡◌, ◌<◌, ◌⊎◌, ℕ, Option, List, ◌∷◌, ◌++◌, length}
use Rattle.std.specs.List.{AllZip}
use Rattle.funnel.specs.Stream.{IsUnended, ended}
use Rattle.reply_reader.specs.Reply.{IsReplyLine, IsNoReply}

-- a reply as plain data: its code, the message-id after it, and its text
pub record Given : Type 0 where
  pub code : ℕ
  pub id : Option (List ℕ)
  pub text : List ℕ

-- the length of the longest reply line, in octets with its end (profile)
abbrev pub longest_reply : ℕ
longest_reply = 2048

-- octets that may come before an LF, or that wait for one: without LF, and short enough for one to follow
pub record IsShort (octets : List ℕ) : Type 0 where
  pub line : IsUnended octets
  pub short : length octets < longest_reply

-- the line is short enough, and is a reply line with this content
abbrev pub IsAnswer : List ℕ → Given → Type 0
IsAnswer line given = IsShort line × IsReplyLine line given.code given.id given.text

-- The octets fed are the lines of the replies given, one for each and in order, and what is unread after them.
pub record Reads (fed : List ℕ) (given : List Given) (unread : List ℕ) : Type 0 where
  pub lines : List (List ℕ)
  pub whole : fed ≡ ended lines ++ unread
  pub answers : AllZip IsAnswer lines given

-- the octets begin with a whole reply line with this content, and this is the rest after its LF
abbrev pub BeginsWithReply : List ℕ → Given → List ℕ → Type 0
BeginsWithReply unread given rest = (line : List ℕ) × (unread ≡ line ++ 10 ∷ rest) × IsAnswer line given

-- the octets begin with a whole line that is short enough, but is not a reply line
abbrev pub BeginsWithNoReply : List ℕ → Type 0
BeginsWithNoReply unread = (line rest : List ℕ) × (unread ≡ line ++ 10 ∷ rest) × IsShort line × IsNoReply line

-- the octets begin with as many without an LF as a whole line has at most, so their first line is too long
abbrev pub IsTooLong : List ℕ → Type 0
IsTooLong unread =
    (prefix rest : List ℕ) × (unread ≡ prefix ++ rest) × (length prefix ≡ longest_reply) × IsUnended prefix

-- the octets begin with a fault, after which nothing is read
abbrev pub IsFaulty : List ℕ → Type 0
IsFaulty unread = IsTooLong unread ⊎ BeginsWithNoReply unread

-- what a reader holds: octets that wait to be read, or nothing after it has returned a fault
pub data Held : Type 0 where
  Working : (unread : List ℕ) → Held
  Broken : Held

-- the reader works, and this holds for the octets that wait
abbrev pub AtWork : Held → (List ℕ → Type 0) → Type 0
AtWork (Working unread) P = P unread
AtWork Broken P = ⊥

-- what a reader holds after it was fed
abbrev pub after_feed : Held → List ℕ → Held
after_feed (Working unread) piece = Working (unread ++ piece)
after_feed Broken piece = Broken

-- The reader may have been fed these octets and have given these replies: what it holds is the unread rest of them,
-- or there is a fault after those replies.
abbrev pub StandsFor : Held → List ℕ → List Given → Type 0
StandsFor (Working unread) fed given = Reads fed given unread
StandsFor Broken fed given = (unread : List ℕ) × Reads fed given unread × IsFaulty unread
