-- Runs of the threads over the lines of a funnel (profile): which line names which peers, and what each section does
-- with it. The lines may be read again after a stop: the funnel gives the same line for the same number.
use Rattle.std.specs.Prelude.{◌≡◌, ◌+◌, ◌<◌, ◌≤◌, ℕ, true, Some, List, [], ◌∷◌, ◌++◌, take}
use Rattle.std.specs.Prelude.{slice_get, Contains}
use Rattle.std.specs.List.{AllByRecursion}
use Rattle.ledger_core.specs.declared.note.Note.{Note}
use Rattle.ledger_core.specs.declared.note.Note.TheVariants.{Owe, Final, Drop, Seen, Closed}
use Rattle.ledger_core.specs.Keys.{IsLine}
use Rattle.ledger_core.specs.State.{State}
use Rattle.recovery.specs.Leaving.{EachLedger, IsPrefix, mark_of}
use Rattle.recovery.specs.Notes.{begun as no_history}
use Rattle.sections.specs.Laws.{IsBegun, LeavesOver}
use Rattle.sections.specs.Post.{PostPast, SealingPast, StationPast, front_history}
use Rattle.sections.specs.Sections.{Does, HasCountedAll, Section}
use Rattle.sections.specs.Sections.Section.{Notes, Shows}
use Rattle.sections.specs.Tapes.{OwesOrEnded}

-- A funnel's line: its token and message-id, and the ranks of the peers that it names. A malformed line names none.
pub record FunnelLine : Type 0 where
  pub token : List ℕ
  pub id : List ℕ
  pub peers : List ℕ

-- the lines by their numbers, from 1 up
abbrev pub Funnel : Type 0
Funnel = ℕ → FunnelLine

-- the line of this number names the peer at this rank
abbrev pub Names : Funnel → ℕ → ℕ → Type 0
Names funnel number rank = (0 < number) × Contains (funnel number).peers rank

-- the note that a line makes at each peer that it names
abbrev pub note_of : Funnel → ℕ → Note
note_of funnel number = Owe number (funnel number).token (funnel number).id

-- ---- what sections do with a line

-- A note that a front makes, if it is of a line of the funnel, is that of the line which the intake is reading, whose
-- number is the next. `Seen` is noted on the intake's tape alone.
abbrev pub IsFedNote : Funnel → PostPast → Note → Type 0
IsFedNote funnel post (Owe key token id) =
    IsLine key → (post.intake_runs ≡ true) × (key ≡ post.last + 1) × (Owe key token id ≡ note_of funnel key)
IsFedNote funnel post (Final key code) = Unit {0}
IsFedNote funnel post (Drop key cause) = Unit {0}
IsFedNote funnel post (Seen number) = ⊥
IsFedNote funnel post (Closed source) = Unit {0}

-- The front runs, and has taken the line of this number, now or when the line was read before: the greatest number that
-- it has noted is at or above the line's.
pub record HasTaken (number : ℕ) (station : StationPast) : Type 0 where
  pub runs : station.runs ≡ true
  pub taken : number ≤ mark_of (front_history station)

-- The next section goes by the funnel: it makes no other note of a line; and before the intake shows the next number,
-- the front of each peer that the line names has taken it.
pub record IsFed (funnel : Funnel) (post : PostPast) (section : Section) : Type 0 where
  pub notes : (rank : ℕ) (note : Note) → section ≡ Notes rank note → IsFedNote funnel post note
  pub shows : section ≡ Shows → (rank : ℕ) (station : StationPast) → slice_get post.stations rank ≡ Some station
      → Names funnel (post.last + 1) rank → HasTaken (post.last + 1) station

-- A run of the threads over the lines of a funnel: any sections that go by it, in any order.
pub data Feeds (funnel : Funnel) (begun : PostPast) : List Section → PostPast → Type 0 where
  Begin : Feeds funnel begun [] begun
  Then : (sections : List Section) (section : Section) (past later : PostPast) → Feeds funnel begun sections past
      → IsFed funnel past section → Does past section later → Feeds funnel begun (sections ++ section ∷ []) later

-- ---- what is owed

-- the spool is empty: a post was just made, and nothing was ever noted on any of its tapes
pub record IsEmpty (post : PostPast) : Type 0 where
  pub made : IsBegun post
  pub stations : AllByRecursion (λ (station : StationPast). station.tape.history ≡ no_history) post.stations
  pub intake : post.intake.history ≡ no_history

-- This ledger is that of a prefix of the station's notes, with every acknowledged one in it. The line's debt is owed
-- there, unless that prefix has a final answer to it or a drop of it.
pub record OwesLine (funnel : Funnel) (number : ℕ) (station : StationPast) (state : State) : Type 0 where
  pub prefix : IsPrefix station.tape.history state
  pub owes : OwesOrEnded (take prefix.count station.tape.history.notes) number (funnel number).token
      (funnel number).id state

-- Whatever a stop leaves of each station's tape owes, in that sense, each line up to this number that names the peer.
abbrev pub OwesUpTo : Funnel → PostPast → ℕ → Type 0
OwesUpTo funnel post mark = (number rank : ℕ) (station : StationPast) → number ≤ mark → Names funnel number rank
    → slice_get post.stations rank ≡ Some station → EachLedger (OwesLine funnel number station) station.tape.log

-- the same at each moment within a section
abbrev pub OwesUpToWithin : Funnel → PostPast → PostPast → ℕ → Type 0
OwesUpToWithin funnel was now mark = (number rank : ℕ) (old new : StationPast) → number ≤ mark
    → Names funnel number rank → slice_get was.stations rank ≡ Some old → slice_get now.stations rank ≡ Some new
    → LeavesOver (OwesLine funnel number old) old.tape.log new.tape.log

-- this holds of any funnel, and of any post that sections made over its lines, from an empty spool on
abbrev pub OverFunnels : (Funnel → PostPast → Type 0) → Type 0
OverFunnels P = (funnel : Funnel) (begun later : PostPast) (sections : List Section) → IsEmpty begun
    → Feeds funnel begun sections later → P funnel later

-- the mark that a stop may leave on the intake's tape
abbrev pub FunnelIsOwed : Funnel → PostPast → Type 0
FunnelIsOwed funnel post = EachLedger (λ (seen : State). OwesUpTo funnel post seen.mark) post.intake.log

-- while a section is under way, whichever it is
abbrev pub FunnelIsOwedWithin : Funnel → PostPast → Type 0
FunnelIsOwedWithin funnel post = (later : PostPast) (section : Section) → Does post section later
    → LeavesOver (λ (seen : State). OwesUpToWithin funnel post later seen.mark) post.intake.log later.intake.log

-- the number of a receipt that has counted every station
abbrev pub ReceiptsAreOwed : Funnel → PostPast → Type 0
ReceiptsAreOwed funnel post = (index : ℕ) (sealing : SealingPast) → slice_get post.sealings index ≡ Some sealing
    → HasCountedAll sealing → OwesUpTo funnel post sealing.number
