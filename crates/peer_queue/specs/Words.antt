-- What a station holds.
use Rattle.std.specs.Prelude.{◌≡◌, ◌+◌, ◌↔◌, ℕ, Result}
use Rattle.disk_model.specs.declared.Disk.{Ghosts}
use Rattle.ledger_core.specs.declared.note.Note.{Note}
use Rattle.ledger_core.specs.declared.note.Note.TheVariants.{Owe, Final, Drop, Seen, Closed}
use Rattle.ledger_core.specs.declared.note.FinalCode.{FinalCode}
use Rattle.ledger_core.specs.Keys.{key_of}
use Rattle.ledger_core.specs.State.{State, IsLegal, step}
use Rattle.recovery.specs.Notes.{History, most_pending, noted}
use Rattle.recovery.specs.Image.{Log}
use Rattle.recovery.specs.Tape.{IsOpenedTape, IsRead as IsTapeRead, StandsFor as TapeStandsFor}
use Rattle.recovery.specs.declared.tape.Tape.{Tape}
use Rattle.recovery.specs.Words.{log_of as tape_log, disks_of as tape_disks, faults_of as tape_faults, generation_of as tape_generation, AreHonest as AreTapeHonest, Continues as TapeContinues, ledger_of as tape_ledger, pending_of as tape_pending, IsBroken as IsBrokenTape}
use Rattle.conn_core.specs.declared.verdict.Verdict.{Verdict}
use Rattle.conn_core.specs.declared.deferral.Deferral.{Deferral}
use Rattle.peer_queue.specs.DebtPlace.{Places, IsHeldBy}
use Rattle.peer_queue.specs.Refusals.{RefusesHeld}
use Rattle.peer_queue.specs.declared.fault.StationFault.{StationFault}
use Rattle.peer_queue.specs.declared.station.Station.{Station}
use Rattle.peer_queue.specs.declared.limits.Limits.{Limits}

-- the key of the debt that a verdict answers
abbrev pub answered_key : Verdict → ℕ
answered_key verdict = verdict.debt.0

-- the final answer of a verdict
abbrev pub code_of : Verdict → FinalCode
code_of verdict = verdict.code

-- the key of the debt that is deferred
abbrev pub deferred_key : Deferral → ℕ
deferred_key deferral = deferral.debt.0

-- the note ends the debt of this number
abbrev pub IsEnd : Note → ℕ → Type 0
IsEnd (Owe other token id) number = ⊥
IsEnd (Final other code) number = other ≡ number
IsEnd (Drop other cause) number = other ≡ number
IsEnd (Seen other) number = ⊥
IsEnd (Closed source) number = ⊥

module _ {D : Type 0} {g : Ghosts D} where
  -- the tape of a station
  abbrev pub tape_of : Station D g → Tape D g
  tape_of station = station.tape

  -- the disks beneath, the first and the second
  abbrev pub disks_of : Station D g → D × D
  disks_of station = tape_disks station.tape

  -- they are honest
  abbrev pub AreHonest : Station D g → Type 0
  AreHonest station = AreTapeHonest station.tape

  -- how many faults they have reported
  abbrev pub faults_of : Station D g → ℕ × ℕ
  faults_of station = tape_faults station.tape

  -- they are honest if they were, and their counts of faults did not fall
  abbrev pub Continues : Station D g → Station D g → Type 0
  Continues old new = TapeContinues old.tape new.tape

  -- the generation of its tape
  abbrev pub generation_of : Station D g → ℕ
  generation_of station = tape_generation station.tape

  -- what has happened to them
  abbrev pub log_of : Station D g → Log
  log_of station = tape_log station.tape

  -- the station was opened on disks with this log, as its tape was
  abbrev pub IsOpened : Log → Station D g → Type 0
  IsOpened old station = IsOpenedTape old station.tape

  -- the ledger, pending notes included
  abbrev pub ledger_of : Station D g → State
  ledger_of station = tape_ledger station.tape

  -- the key of the line of this number of the source that is open
  abbrev pub open_key : Station D g → ℕ → ℕ
  open_key station number = key_of ((ledger_of station).closed + 1) number

  -- the note that closes the source that is open
  abbrev pub closing : Station D g → Note
  closing station = Closed ((ledger_of station).closed + 1)

  -- how many notes pend
  abbrev pub pending_of : Station D g → ℕ
  pending_of station = tape_pending station.tape

  -- a flush failed on the disk, and the station has to be opened again from it
  abbrev pub IsBroken : Station D g → Type 0
  IsBroken station = IsBrokenTape station.tape

  -- the limits of its backlog
  abbrev pub limits_of : Station D g → Limits
  limits_of station = station.limits

  -- the station stands for this history of notes
  abbrev pub StandsFor : Station D g → History → Type 0
  StandsFor station h = TapeStandsFor station.tape h

  -- the place of each number that is owed
  abbrev pub places_of : Station D g → Places
  places_of station = station.index

  -- the tape stayed as it was, so it stands for the same history
  pub record IsSameTape (old new : Station D g) : Type 0 where
    pub tape : new.tape ≡ old.tape
    pub limits : new.limits ≡ old.limits

  -- Only the places changed, and the tape was read: it stands for the same histories, and on an honest disk nothing
  -- happened.
  pub record IsRead (old new : Station D g) : Type 0 where
    pub tape : IsTapeRead old.tape new.tape
    pub limits : new.limits ≡ old.limits

  -- nothing changed: what it owes, what pends, what has happened to its disk, the places
  pub record IsSame (old new : Station D g) : Type 0 where
    pub stands : (h : History) → StandsFor old h → StandsFor new h
    pub ledger : ledger_of new ≡ ledger_of old
    pub pending : pending_of new ≡ pending_of old
    pub disks : disks_of new ≡ disks_of old
    pub places : places_of new ≡ places_of old
    pub limits : limits_of new ≡ limits_of old
    pub works : IsBroken old ↔ IsBroken new

  -- one note was taken, and pends
  pub record Notes (old new : Station D g) (note : Note) : Type 0 where
    pub stands : (h : History) → StandsFor old h → StandsFor new (noted h note)
    pub legal : IsLegal (ledger_of old) note
    pub ledger : ledger_of new ≡ step (ledger_of old) note
    pub pending : pending_of new ≡ pending_of old + 1
    pub disks : disks_of new ≡ disks_of old
    pub limits : limits_of new ≡ limits_of old
    pub works : IsBroken old ↔ IsBroken new

  -- Broken comes exactly if the station is broken, NotHeld exactly if it is not and that connection doesn't hold that
  -- number
  abbrev pub Refuses : {A B : Type 0} → Station D g → ℕ → ℕ → Result A (B × StationFault) → Type 0
  Refuses old connection number result = RefusesHeld (IsBroken old) (IsHeldBy (places_of old) connection number) result

  -- the connection holds the number, the station works, and no more notes may pend
  abbrev pub MeetsFull : Station D g → ℕ → ℕ → Type 0
  MeetsFull old connection number = (IsBroken old → ⊥) × IsHeldBy (places_of old) connection number × (pending_of old ≡ most_pending)
