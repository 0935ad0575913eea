-- A segment while it is read record by record.
use Rattle.std.specs.Prelude.{◌≡◌, ◌↔◌, ◌+◌, ◌-◌, ◌<◌, ◌≤◌, ◌++◌, ◌∷◌, [], ℕ, List, length, take, drop, ⊤}
use Rattle.std.specs.Prelude.{Option, Result, IfOk, IfSome, IsErrOf, MatchOption, MatchResult, OnOk}
use Rattle.std.specs.Borrow.{Fml, MutBor, RattleType, follows_so}
use mathlib.Core.Option.{none}
use Rattle.disk_model.specs.Disk.{HasRisen, content}
use Rattle.disk_model.specs.declared.Disk.{Ghosts}
use Rattle.tape_journal.specs.Given.{IsGiven, longest_given}
use Rattle.tape_journal.specs.Segment.{AllShort, BeginsRecord, HasPayloads, records}
use Rattle.tape_journal.specs.Window.{octets_of, room_of}
use Rattle.tape_journal.specs.contracts.records.SegmentReader.{the_row}
use Rattle.tape_journal.specs.declared.fault.OpenFault.{OpenFault}
use Rattle.tape_journal.specs.declared.fault.OpenFault.TheVariants.{Disk}
use Rattle.tape_journal.specs.declared.records.ReadPayload.{ReadPayload}
use Rattle.tape_journal.specs.declared.records.SegmentReader.{SegmentReader}
use Rattle.tape_journal.specs.declared.records.ReaderStep.{ReaderStep}
use Rattle.tape_journal.specs.declared.records.ReaderStep.TheVariants.{End, Held, TooLong}

-- the records of these payloads, none of them too long, are the first octets, up to this offset
pub record HasRead (all : List ℕ) (payloads : List (List ℕ)) (at : ℕ) : Type 0 where
  pub prefix : all ≡ records payloads ++ drop at all
  pub place : at ≡ length (records payloads)
  pub short : AllShort payloads

module _ {D : Type 0} {g : Ghosts D} where
  -- the disk that is read
  abbrev pub reader_disk : SegmentReader D g → D
  reader_disk reader = reader.disk

  -- where the next record is to stand
  abbrev pub offset_of : SegmentReader D g → ℕ
  offset_of reader = reader.at

  -- the number of octets of the disk that were not read yet
  abbrev pub left_of : SegmentReader D g → ℕ
  left_of reader = reader.len - reader.at

  -- the records of these payloads were read, on an honest disk, and the next is to stand after them
  pub record HasComeTo (reader : SegmentReader D g) (payloads : List (List ℕ)) : Type 0 where
    pub honest : g.honest reader.disk
    pub read : HasRead (content (g.log reader.disk)) payloads reader.at

  -- the segment, on an honest disk, has these payloads, and all of them were read
  pub record HasEnded (reader : SegmentReader D g) (payloads : List (List ℕ)) : Type 0 where
    pub honest : g.honest reader.disk
    pub has : HasPayloads (content (g.log reader.disk)) payloads reader.at

  -- one more payload was read
  pub record GivesNext (payloads : List (List ℕ)) (given : ReadPayload) (reader : SegmentReader D g) : Type 0 where
    pub payload : List ℕ
    pub is : IsGiven given payload
    pub come : HasComeTo reader (payloads ++ payload ∷ [])

  -- Nothing has happened to the disk, and it is as honest as it was. A fault comes only if the disk reported one.
  pub record KeepsDisk {T : Type 0} (old new : SegmentReader D g) (result : Result T OpenFault) : Type 0 where
    pub honest : g.honest old.disk ↔ g.honest new.disk
    pub log : g.honest old.disk → g.log new.disk ≡ g.log old.disk
    pub later : g.faults_of old.disk ≤ g.faults_of new.disk
    pub cause : g.honest old.disk → IsErrOf result Disk → HasRisen (g.faults_of old.disk) (g.faults_of new.disk)
    pub quiet : OnOk result (g.faults_of new.disk ≡ g.faults_of old.disk)

  -- What comes of reading the next record.
  pub record ReadsNext (old new : SegmentReader D g)
      (result : Result (Option ReadPayload) OpenFault) : Type 0 where
    -- the segment has ended, or one more payload was read; after a fault the reader stands where it stood
    pub next : (payloads : List (List ℕ)) → HasComeTo old payloads
        → MatchResult result
        (λ o. MatchOption o (HasEnded new payloads) (λ given. GivesNext payloads given new))
        (λ _. HasComeTo new payloads)
    -- each record leaves less to be read, whatever the disk
    pub less : IfOk result (λ o. IfSome o (λ _. left_of new < left_of old))
    pub keeps : KeepsDisk old new result

  -- a record stands next, whose payload has that many octets
  abbrev pub IsAtRecord : SegmentReader D g → ℕ → Type 0
  IsAtRecord reader size = BeginsRecord size (drop reader.at (content (g.log reader.disk)))

  -- the segment has ended, or one more payload was read, which stands in the window or is too long
  abbrev pub IsStep : SegmentReader D g → List (List ℕ) → ReaderStep → Type 0
  IsStep reader payloads End = HasEnded reader payloads
  IsStep reader payloads (Held from count) =
      (payload : List ℕ) × (take count (drop from (octets_of reader.window)) ≡ payload)
      × (length payload ≤ longest_given) × HasComeTo reader (payloads ++ payload ∷ [])
  IsStep reader payloads TooLong =
      (payload : List ℕ) × (longest_given < length payload) × HasComeTo reader (payloads ++ payload ∷ [])

  -- what a step leaves, whatever the disk: each record leaves less to be read, and what is held lies within the room
  abbrev pub MovesOn : SegmentReader D g → SegmentReader D g → ReaderStep → Type 0
  MovesOn old new End = Unit {0}
  MovesOn old new (Held from count) = (from + count ≤ room_of new.window) × (left_of new < left_of old)
  MovesOn old new TooLong = left_of new < left_of old

-- this holds of the reader, once what it gave is let go
abbrev pub EndsWith : (D : RattleType) (g : Ghosts D.Denot) → MutBor (SegmentReader D.Denot g)
    → (SegmentReader D.Denot g → Type 0) → Fml
EndsWith D g reader P = follows_so (the_row D g) (the_row D g) reader.ghost_name none (λ _ _. ⊤) P
