-- Imports of backlog files (docs/FORMATS.md): the good lines of a text, and the events at its peer.
use Rattle.std.specs.Prelude.{◌≡◌, ◌≢◌, ◌+◌, ◌==◌, ℕ, nat_lt, if◌then◌else◌, Some, List, [], ◌∷◌, ◌++◌, length}
use Rattle.std.specs.Prelude.{map, slice_get}
use Rattle.funnel.specs.Line.{HasFault, IsBacklogLine}
use Rattle.funnel.specs.Stream.{Splits, clipped}
use Rattle.funnel.specs.declared.line.LineFault.{LineFault}
use Rattle.funnel.specs.declared.line.LineFault.TheVariants.{NoMemory}
use Rattle.recovery.specs.Leaving.{pending_notes}
use Rattle.recovery.specs.Notes.{most_pending}
use Rattle.world_core.specs.Past.{Past, PeerPast, rank_of}
use Rattle.world_core.specs.Events.{Closes, Event, Imports, Spills, import_mark_at}

-- ---- what a text has

-- a line that is good: its number, and its token and message-id
abbrev pub Good : Type 0
Good = ℕ × (List ℕ × List ℕ)

-- These of the lines are good, by their numbers among all, from 1 up.
pub data AreGood : List (List ℕ) → List Good → Type 0 where
  None_read : AreGood [] []
  Is_good : (lines : List (List ℕ)) (good : List Good) (line token id : List ℕ) → AreGood lines good
      → IsBacklogLine line token id
      → AreGood (lines ++ line ∷ []) (good ++ (length lines + 1, (token, id)) ∷ [])
  Is_malformed : (lines : List (List ℕ)) (good : List Good) (line : List ℕ) (fault : LineFault) → AreGood lines good
      → HasFault line fault → fault ≢ NoMemory
      → AreGood (lines ++ line ∷ []) good

-- These are the good lines of a text. A line is looked at only as far as shows that it is too long. What follows the
-- last LF is no line.
pub record HasGood (text : List ℕ) (good : List Good) : Type 0 where
  pub lines : List (List ℕ)
  pub rest : List ℕ
  pub splits : Splits text lines rest
  pub are : AreGood (map clipped lines) good

-- ---- the events

-- how many notes pend once there is room for one more
abbrev pub with_room : ℕ → ℕ
with_room pending = if pending == most_pending then 0 else pending

-- the flush of a peer, if no more notes may pend
abbrev pub room_events : (rank pending : ℕ) → List Event
room_events rank pending = if pending == most_pending then Spills rank ∷ [] else []

-- A line at the peer of this rank, if this many notes pend and the open source has this mark: a line above the mark
-- makes a note, for which there is room by then.
abbrev pub good_events : (rank pending mark : ℕ) → Good → List Event
good_events rank pending mark line =
    (if nat_lt mark line.0 then room_events rank pending else []) ++ Imports rank line.0 line.1.0 line.1.1 ∷ []

-- the mark after it, and how many notes pend then
abbrev pub mark_behind : (mark : ℕ) → Good → ℕ
mark_behind mark line = if nat_lt mark line.0 then line.0 else mark

abbrev pub pending_behind : (pending mark : ℕ) → Good → ℕ
pending_behind pending mark line = if nat_lt mark line.0 then with_room pending + 1 else pending

-- The source is closed, by a note for which there is room, and the peer is flushed.
abbrev pub close_events : (rank pending : ℕ) → List Event
close_events rank pending = room_events rank pending ++ Closes rank ∷ Spills rank ∷ []

-- these lines, one after another, and then the close of their source
abbrev pub import_events : (rank pending mark : ℕ) → List Good → List Event
import_events rank pending mark [] = close_events rank pending
import_events rank pending mark (line ∷ lines) = good_events rank pending mark line
    ++ import_events rank (pending_behind pending mark line) (mark_behind mark line) lines

-- how many of these lines are new: each is above the mark and all lines before it
abbrev pub count_new : ℕ → List Good → ℕ
count_new mark [] = 0
count_new mark (line ∷ lines) = (if nat_lt mark line.0 then 1 else 0) + count_new (mark_behind mark line) lines

-- the import of a text at the peer of this name: the peer, the good lines, and the events
pub record IsImport (name text : List ℕ) (past : Past) (events : List Event) : Type 0 where
  pub rank : ℕ
  pub peer : PeerPast
  pub lines : List Good
  pub named : rank_of past name ≡ Some rank
  pub here : slice_get past.peers rank ≡ Some peer
  pub has : HasGood text lines
  pub events_are : events
      ≡ import_events rank (length (pending_notes peer.tape.history)) (import_mark_at peer) lines
