-- What holds over any sections, in any order, in an administrator's words.
use Rattle.std.specs.Prelude.{◌≡◌, ◌⊎◌, ◌<◌, ◌≤◌, ℕ, Some, List, [], length, slice_get}
use Rattle.std.specs.List.{AllByRecursion, AllZip}
use Rattle.ledger_core.specs.State.{AllLegal, State}
use Rattle.ledger_core.specs.declared.note.Note.TheVariants.{Owe}
use Rattle.recovery.specs.Image.{Log}
use Rattle.recovery.specs.Leaving.{EachLedger, IsPrefix, LedgersLeave}
use Rattle.sections.specs.Post.{PostPast, SealingPast, StationPast, notes_of}
use Rattle.sections.specs.Sections.{Does, HasCountedAll, Runs, Section, WasLeft, opened}
use Rattle.sections.specs.Sound.{IsSafe, IsSound, KeepsLines, KeepsNotes}
use Rattle.sections.specs.Tapes.{IsAcknowledgedBy, IsRecovered, OwesOrEnded, StaysAcknowledged, StillOwes, mark_at}

-- this relation holds of any two posts of which sections make the second from the first
abbrev pub OverRuns : (PostPast → PostPast → Type 0) → Type 0
OverRuns R = (begun later : PostPast) (sections : List Section) → IsSound begun → IsSafe begun
    → Runs begun sections later → R begun later

-- ---- how a post begins

-- the station of a peer, just split: nothing pends
pub record IsBegunStation (station : StationPast) : Type 0 where
  pub all : station ≡ opened station.tape
  pub kept : station.tape.history.kept ≡ length station.tape.history.notes
  pub left : EachLedger (KeepsNotes station) station.tape.log

-- a post that was just made: its numbers go on from the mark of the intake's tape, and no receipt is being made
pub record IsBegun (post : PostPast) : Type 0 where
  pub stations : AllByRecursion IsBegunStation post.stations
  pub legal : AllLegal post.intake.history.base post.intake.history.notes
  pub within : post.intake.history.kept ≤ length post.intake.history.notes
  pub last : post.last ≡ mark_at post.intake
  pub none : post.sealings ≡ []
  pub left : EachLedger (IsPrefix post.intake.history) post.intake.log

-- ---- what was acknowledged

abbrev pub AllStayAcknowledged : PostPast → PostPast → Type 0
AllStayAcknowledged begun later =
    AllZip (λ (was now : StationPast). StaysAcknowledged was.tape now.tape) begun.stations later.stations

abbrev pub AllAreRecovered : PostPast → PostPast → Type 0
AllAreRecovered begun later =
    AllZip (λ (was now : StationPast). IsRecovered was.tape now.tape) begun.stations later.stations

-- At each moment from the first to the second of these, P holds of whatever a stop may leave; or a stop comes, and P
-- holds of whatever it may leave.
abbrev pub LeavesOver : (State → Type 0) → Log → Log → Type 0
LeavesOver P old new = LedgersLeave P old new ⊎ (EachLedger P old × WasLeft old new)

-- While a section makes the third of these posts from the second: whatever a stop may leave of a station's tape is the
-- tape of a prefix of the notes that it had before, with every acknowledged one in it; each debt that was acknowledged
-- in the first is still owed there, or has ended; and the intake's tape keeps the lines.
pub record AreRecoveredWithin (begun was now : PostPast) : Type 0 where
  pub prefixes : AllZip (λ (old new : StationPast). LeavesOver (KeepsNotes old) old.tape.log new.tape.log) was.stations
      now.stations
  pub owes : AllZip (λ (one old : StationPast). StillOwes one.tape.history old.tape.history) begun.stations was.stations
  pub lines : LeavesOver (KeepsLines was) was.intake.log now.intake.log

abbrev pub AllMomentsAreRecovered : Type 0
AllMomentsAreRecovered = (begun past later : PostPast) (sections : List Section) (section : Section) → IsSound begun
    → IsSafe begun → Runs begun sections past → Does past section later → AreRecoveredWithin begun past later

-- ---- lines

-- once a line is acknowledged, each note that it made at a front is acknowledged at the station's tape
abbrev pub LinesAreAcknowledged : PostPast → Type 0
LinesAreAcknowledged post = (rank index number : ℕ) (station : StationPast) (token id : List ℕ)
    → IsAcknowledgedBy post.intake number → slice_get post.stations rank ≡ Some station
    → slice_get (notes_of station) index ≡ Some (Owe number token id) → index < station.tape.history.kept

-- a sealing that has counted every station: so is each note that a line up to its number made
abbrev pub SealedLinesAreAcknowledged : PostPast → Type 0
SealedLinesAreAcknowledged post = (index rank place number : ℕ) (sealing : SealingPast) (station : StationPast)
    (token id : List ℕ) → slice_get post.sealings index ≡ Some sealing → HasCountedAll sealing
    → number ≤ sealing.number
    → slice_get post.stations rank ≡ Some station → slice_get (notes_of station) place ≡ Some (Owe number token id)
    → place < station.tape.history.kept

-- a debt that an acknowledged line made at a front is owed by whatever a stop may leave of the station's tape, or has
-- ended
abbrev pub LinesAreKept : PostPast → PostPast → Type 0
LinesAreKept begun later = (rank index number : ℕ) (was now : StationPast) (token id : List ℕ)
    → IsAcknowledgedBy begun.intake number → slice_get begun.stations rank ≡ Some was
    → slice_get later.stations rank ≡ Some now → slice_get (notes_of was) index ≡ Some (Owe number token id)
    → EachLedger (OwesOrEnded now.tape.history.notes number token id) now.tape.log
