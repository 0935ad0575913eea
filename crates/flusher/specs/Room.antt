-- When there is no room for more.
use Rattle.std.specs.Prelude.{◌≡◌, ◌⊎◌, ◌+◌, ◌-◌, ◌^◌, ◌≤◌, ℕ}
use Rattle.disk_model.specs.declared.Disk.{Ghosts}
use Rattle.recovery.specs.Words.{IsFull, RotatesTooLong, generation_of as tape_generation}
use Rattle.recovery.specs.declared.tape.Tape.{Tape}
use Rattle.peer_queue.specs.Words.{IsSame, generation_of, tape_of}
use Rattle.peer_queue.specs.declared.station.Station.{Station}

-- a tally has no room for what one call may count, 65,536, and one more
abbrev pub IsCountFull : ℕ → Type 0
IsCountFull count = 2 ^ 64 ≤ count + 65537

module _ {D : Type 0} {g : Ghosts D} where
  -- There is no room for what pends, neither after what is on the station's tape, nor if the tape is rewritten.
  pub record HasNoRoom (station : Station D g) : Type 0 where
    pub full : IsFull (tape_of station)
    -- the station as the refused flush leaves it: nothing has changed
    pub left : Station D g
    pub same : IsSame station left
    pub anew : (generation_of left ≡ 2 ^ 64 - 1) ⊎ RotatesTooLong (tape_of left)

  -- what a rotation would write is too long, or the generation is the greatest
  abbrev pub HasNoRoomRewritten : Tape D g → Type 0
  HasNoRoomRewritten tape = (tape_generation tape ≡ 2 ^ 64 - 1) ⊎ RotatesTooLong tape

  -- There is no room for what pends, neither after what is on the tape nor if it is rewritten.
  pub record TapeHasNoRoom (tape : Tape D g) : Type 0 where
    pub full : IsFull tape
    pub anew : HasNoRoomRewritten tape
