-- What the laws of `sections` say of a machine.
use Rattle.std.specs.Prelude.{◌≡◌, ℕ, Some, ◌++◌, slice_get}
use Rattle.disk_model.specs.declared.Disk.{Ghosts}
use Rattle.note_queue.specs.Ends.{put_by}
use Rattle.note_queue.specs.Words.{tape_of}
use Rattle.recovery.specs.Leaving.{EachLedger, IsPrefix}
use Rattle.recovery.specs.Notes.{History}
use Rattle.recovery.specs.Tape.{StandsFor}
use Rattle.recovery.specs.Words.{log_of}
use Rattle.sections.specs.Laws.{LinesAreAcknowledged, SealedLinesAreAcknowledged}
use Rattle.sections.specs.Post.{PostPast, StationPast}
use Rattle.sections.specs.Tapes.{StillOwes}
use Rattle.section_steps.specs.Machine.{ComesByRuns, Machine, Peer}

module _ {D : Type 0} {g : Ghosts D} where
  -- The peer's tape stands for the notes that it had before the split, followed by those that its side has put there.
  -- Whatever a stop leaves of it now is the tape of a prefix of these, with every acknowledged one in it; and each debt
  -- that was acknowledged at first is owed there, or has ended.
  pub record IsKeptPeer (was : StationPast) (peer : Peer D g) : Type 0 where
    pub h : History
    pub stands : StandsFor (tape_of peer.side) h
    pub notes : h.notes ≡ peer.before ++ put_by peer.side
    pub left : EachLedger (IsPrefix h) (log_of (tape_of peer.side))
    pub owes : StillOwes was.tape.history h

  -- The machine has come about by sections. Each peer is kept; as soon as a stop may leave the intake's tape with a
  -- mark at or above a line's number, each note that the line made is acknowledged; and so is each note of a line up to
  -- a receipt's number, once the receipt has counted every station.
  pub record IsKeptMachine (post : PostPast) (machine : Machine D g) : Type 0 where
    pub comes : ComesByRuns post machine
    pub peers : (rank : ℕ) (was : StationPast) (peer : Peer D g) → slice_get post.stations rank ≡ Some was
        → slice_get machine.peers rank ≡ Some peer → IsKeptPeer was peer
    pub lines : LinesAreAcknowledged comes.later
    pub sealed : SealedLinesAreAcknowledged comes.later
