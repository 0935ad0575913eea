-- What a receipt is made of.
use Rattle.std.specs.Prelude.{◌≡◌, ◌<◌, ◌≤◌, ◌+◌, ◌-◌, ◌^◌, ℕ, List, min, slice_index_or}
use Rattle.disk_model.specs.declared.Disk.{Ghosts}
use Rattle.flusher.specs.declared.sealing.PlaceProgress.{PlaceProgress}
use Rattle.flusher.specs.declared.sealing.PlaceProgress.TheVariants.{Waits, Due, Done}
use Rattle.peer_queue.specs.Front.{pending_of as front_pending, settled_of}
use Rattle.peer_queue.specs.Words.{IsBroken, pending_of}
use Rattle.peer_queue.specs.declared.front.Front.{Front}
use Rattle.peer_queue.specs.declared.station.Station.{Station}
use Rattle.recovery.specs.Words.{ledger_of as tape_ledger, pending_of as tape_pending}
use Rattle.recovery.specs.declared.tape.Tape.{Tape}

-- how many notes its tape counts once all that are noted at a front are on it, at most the greatest u64
abbrev pub noted_at : Front → ℕ
noted_at front = min (settled_of front + front_pending front) (2 ^ 64 - 1)

-- `count` of the front's notes, or more, are settled, as its tape counts them
abbrev pub HasSettled : ℕ → Front → Type 0
HasSettled count front = count ≤ settled_of front

-- so many notes are settled at a place, and that is all that a receipt found there
abbrev pub SettlesDue : ℕ → PlaceProgress → Type 0
SettlesDue count Waits = ⊥
SettlesDue count (Due due) = due ≤ count
SettlesDue count Done = ⊥

-- all that a receipt found is settled at each of the first `count` places, by what it knows of the places
abbrev pub IsDoneBelow : ℕ → List PlaceProgress → Type 0
IsDoneBelow count places = (place : ℕ) → place < count → slice_index_or places place Waits ≡ Done

module _ {D : Type 0} {g : Ghosts D} where
  -- the station works, and all its notes are acknowledged
  pub record IsFlushed (station : Station D g) : Type 0 where
    pub works : IsBroken station → ⊥
    pub none_pends : pending_of station ≡ 0

  -- this number is noted on the intake tape, or one above it, and all its notes are acknowledged
  pub record IsSealed (number : ℕ) (tape : Tape D g) : Type 0 where
    pub noted : number ≤ (tape_ledger tape).mark
    pub none_pends : tape_pending tape ≡ 0
