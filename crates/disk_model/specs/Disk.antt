-- The disk model. What has happened to a disk is a list of events, newest first. What a read gives, and what a stop may
-- leave, are functions of that list; a moment is a list that the disk has had.
use Rattle.std.specs.Prelude.{◌≡◌, ◌⊎◌, ℕ, ◌+◌, ◌-◌, ◌^◌, ◌≤◌, min, max, List, [], ◌∷◌, ◌++◌, length, take, drop, Result, MatchResult, IsErr}
use Rattle.disk_model.specs.declared.DiskFault.{DiskFault}

-- One thing that happened to a disk.
pub data Event : Type 0 where
  -- it began with these octets, which are its only image
  Made : (octets : List ℕ) → Event
  -- these octets were written at this offset
  Wrote : (at : ℕ) (octets : List ℕ) → Event
  -- a write of n octets at this offset failed, and left this content
  Tore : (at n : ℕ) (after : List ℕ) → Event
  -- it was cut to this length
  WasCut : (len : ℕ) → Event
  -- a cut to this length failed, and left the content as it was
  FailedCut : (len : ℕ) → Event
  -- a sync succeeded
  Synced : Event

-- old with these octets at this offset
abbrev pub overwritten : List ℕ → ℕ → List ℕ → List ℕ
overwritten old at octets = take at old ++ octets ++ drop (at + length octets) old

-- What a write of n octets at an offset may make of an image: no shorter, no longer than it reaches, the same below
-- the old end outside the range, and anything elsewhere.
pub record Torn (at n : ℕ) (old new : List ℕ) : Type 0 where
  pub before : take (min at (length old)) new ≡ take at old
  pub after : drop (at + n) new ≡ drop (at + n) old
  pub no_shorter : length old ≤ length new
  pub no_longer : length new ≤ max (length old) (at + n)

-- what a read gives
abbrev pub content : List Event → List ℕ
content [] = []
content (Made octets ∷ log) = octets
content (Wrote at octets ∷ log) = overwritten (content log) at octets
content (Tore at n after ∷ log) = after
content (WasCut len ∷ log) = take len (content log)
content (FailedCut len ∷ log) = content log
content (Synced ∷ log) = content log

-- what a stop may leave
abbrev pub Image : List Event → List ℕ → Type 0
Image [] c = c ≡ []
Image (Made octets ∷ log) c = c ≡ octets
Image (Wrote at octets ∷ log) c = (d : List ℕ) × Image log d × Torn at (length octets) d c
Image (Tore at n after ∷ log) c = (d : List ℕ) × Image log d × Torn at n d c
Image (WasCut len ∷ log) c = (d : List ℕ) × Image log d × ((c ≡ d) ⊎ (c ≡ take len d))
Image (FailedCut len ∷ log) c = (d : List ℕ) × Image log d × ((c ≡ d) ⊎ (c ≡ take len d))
Image (Synced ∷ log) c = c ≡ content log

-- each image has P
abbrev pub EachImage : (List ℕ → Type 0) → List Event → Type 0
EachImage P log = (c : List ℕ) → Image log c → P c

-- this is the content and the only image
pub record IsOnly (log : List Event) (octets : List ℕ) : Type 0 where
  pub whole : content log ≡ octets
  pub images : EachImage (λ c. c ≡ octets) log

-- Each image at each moment from old to new, both included, has P; and new is a later moment than old.
pub data Leaves (P : List ℕ → Type 0) (old : List Event) : List Event → Type 0 where
  at_start : EachImage P old → Leaves P old old
  at_next : (log : List Event) (event : Event) → Leaves P old log → EachImage P (event ∷ log) → Leaves P old (event ∷ log)

-- Up to a first successful sync: either nothing has happened since old, or a sync came first, and from it on each image
-- at each moment has P.
abbrev pub FirstSync : (List ℕ → Type 0) → List Event → List Event → Type 0
FirstSync P old new = (new ≡ old) ⊎ Leaves P (Synced ∷ old) new

-- At most one operation since old, then a successful sync, and from it on each image at each moment has P.
abbrev pub AfterSync : (List ℕ → Type 0) → List Event → List Event → Type 0
AfterSync P old new = (new ≡ old) ⊎ ((event : Event) × ((new ≡ event ∷ old) ⊎ Leaves P (Synced ∷ event ∷ old) new))

-- a write that fails has done nothing, or all of it, or it tore
abbrev pub FailsToWrite : ℕ → List ℕ → List Event → List Event → Type 0
FailsToWrite at octets old new =
    (new ≡ old)
    ⊎ (new ≡ Wrote at octets ∷ old)
    ⊎ ((after : List ℕ) × Torn at (length octets) (content old) after × (new ≡ Tore at (length octets) after ∷ old))

-- what a write does to an honest disk
abbrev pub Writes : ℕ → List ℕ → List Event → Result (Unit {0}) DiskFault → List Event → Type 0
Writes at octets old result new =
    MatchResult result (λ _. new ≡ Wrote at octets ∷ old) (λ _. FailsToWrite at octets old new)

-- a cut that fails has done nothing, or all of it, or is in the log as failed
abbrev pub FailsToCut : ℕ → List Event → List Event → Type 0
FailsToCut len old new = (new ≡ old) ⊎ (new ≡ WasCut len ∷ old) ⊎ (new ≡ FailedCut len ∷ old)

-- what a cut does to an honest disk
abbrev pub Cuts : ℕ → List Event → Result (Unit {0}) DiskFault → List Event → Type 0
Cuts len old result new = MatchResult result (λ _. new ≡ WasCut len ∷ old) (λ _. FailsToCut len old new)

-- what a sync does to an honest disk
abbrev pub Syncs : List Event → Result (Unit {0}) DiskFault → List Event → Type 0
Syncs old result new = MatchResult result (λ _. new ≡ Synced ∷ old) (λ _. new ≡ old)

-- A fault was reported: the count of faults rose, or is at its greatest value.
abbrev pub HasRisen : ℕ → ℕ → Type 0
HasRisen before now = min (before + 1) (2 ^ 64 - 1) ≤ now

-- A count of faults does not fall, and if a fault is reported it rises, or is at its greatest value.
pub record CountsFaults {T : Type 0} (before now : ℕ) (result : Result T DiskFault) : Type 0 where
  pub later : before ≤ now
  pub rises : IsErr result → HasRisen before now
