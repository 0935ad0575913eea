-- A station on honest disks stands for some history. Peers are split from such stations.
use Rattle.disk_model.specs.declared.Disk.{Ghosts}
use Rattle.peer_queue.specs.declared.station.Station.{Station}
use Rattle.peer_queue.specs.Words.{AreHonest, StandsFor, tape_of}
use Rattle.recovery.specs.Notes.{History}
use Rattle.flusher.specs.Sealed.{IsFlushed}
use Rattle.note_queue.specs.Owns.{AreAllOnDisks}

-- On honest disks the station stands for some history: its ledger is the one after the acknowledged notes, followed
-- by the notes that pend, and whatever a stop leaves now is a tape that stands for the ledger after a prefix of them
-- with every acknowledged one. Its tape counts those of this opening that are acknowledged.
abbrev pub IsKept : {D : Type 0} {g : Ghosts D} → Station D g → Type 0
IsKept {D} {g} station = AreHonest station → (h : History) × StandsFor station h

-- if the station works and no note of it pends, all its notes are on the disks
abbrev pub HasAllOnDisks : {D : Type 0} {g : Ghosts D} → Station D g → Type 0
HasAllOnDisks station = IsFlushed station → AreAllOnDisks (tape_of station)
