-- A station that was just split, and one whose ends are joined.
use Rattle.std.specs.Prelude.{◌≡◌, ◌+◌, ◌<◌, ◌^◌, [], ◌++◌, length}
use Rattle.crossbeam_queue.specs.Passes.{view}
use Rattle.disk_model.specs.declared.Disk.{Ghosts}
use Rattle.note_queue.specs.Folds.{left_at}
use Rattle.note_queue.specs.Words.{front_of, kept_of, sending, taking, tape_of}
use Rattle.note_queue.specs.declared.joined.Joined.{Joined}
use Rattle.note_queue.specs.declared.sender.Sender.{Sender}
use Rattle.note_queue.specs.declared.side.Side.{Side}
use Rattle.recovery.specs.Notes.{History}
use Rattle.sections.specs.Laws.{IsBegunStation}
use Rattle.sections.specs.Post.{StationPast}
use Rattle.sections.specs.Sections.{opened}
use Rattle.section_steps.specs.Ends.{EndStands, SenderStands}
use Rattle.section_steps.specs.TapeSteps.{TapeStands, past_of}

-- fewer than 2^64 of these notes were made since the opening
abbrev pub AreFew : History → Type 0
AreFew h = length h.notes < h.opened + 2 ^ 64

module _ {D : Type 0} {g : Ghosts D} where
  -- the station of this tape, of which nothing pends
  abbrev pub split_of : History → Side D g → StationPast
  split_of h side = opened (past_of h (tape_of side))

  -- both ends stand for it
  pub record BeginsAt (h : History) (sender : Sender) (side : Side D g) : Type 0 where
    pub sends : SenderStands h.notes sender (split_of h side)
    pub takes : EndStands h.notes side [] (split_of h side)
    pub begun : IsBegunStation (split_of h side)

  -- what `join` says of the ends of a queue
  pub record SaysJoin (sender : Sender) (side : Side D g) (joined : Joined D g) : Type 0 where
    pub order : ((view (sending sender)).sent_on ≡ (view (taking side)).got_on)
        × ((view (sending sender)).sent ≡ (view (taking side)).got ++ joined.queued.items)
    pub ends : (joined.front ≡ front_of sender) × (joined.tape ≡ tape_of side) × (joined.kept ≡ kept_of side)

  -- what is left stands for the station: its tape, and all notes that are not on it, in order
  pub record IsLeftOf (station : StationPast) (joined : Joined D g) : Type 0 where
    pub tape : TapeStands station.tape joined.tape
    pub left : station.queue ++ station.unsent ≡ left_at joined
