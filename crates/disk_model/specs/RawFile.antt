-- What one system call does to a file that keeps the disk model (profile). A write that goes out in pieces is one
-- write: until its last piece is out it counts as a write that failed at that point.
use Rattle.std.specs.Prelude.{◌≡◌, ℕ, ◌+◌, ◌<◌, List, ◌∷◌, length, take, slice_range, Result, Err, MatchResult}
use Rattle.disk_model.specs.declared.DiskFault.{DiskFault}
use Rattle.disk_model.specs.declared.raw_file.RawFault.{RawFault}
use Rattle.disk_model.specs.declared.raw_file.RawFault.TheVariants.{Interrupted, Failed}
use Rattle.disk_model.specs.Disk.{Event, Wrote, Tore, WasCut, Synced, content, overwritten, Writes, Cuts}

-- the first `done` octets of the slice are those of the content from this offset on
abbrev pub IsRead : (content : List ℕ) (at done : ℕ) (into : List ℕ) → Type 0
IsRead octets at done into = take done into ≡ slice_range octets at (at + done)

-- In the middle of a write of these octets at this offset: `done` of them are out, and before it the log was this.
pub record UnderWay (at : ℕ) (octets : List ℕ) (done : ℕ) (before log : List Event) : Type 0 where
  pub begins : done ≡ 0 → log ≡ before
  pub goes_on : 0 < done → log ≡ Tore at (length octets) (overwritten (content before) at (take done octets)) ∷ before

-- More octets went out: the write is done if these were the last, and else is under way.
pub record Advances (at : ℕ) (octets : List ℕ) (done : ℕ) (before log : List Event) : Type 0 where
  pub whole : done ≡ length octets → log ≡ Wrote at octets ∷ before
  pub part : done < length octets → UnderWay at octets done before log

-- a call that failed ended the whole write; one that was interrupted did nothing
abbrev pub StopsWrite : ℕ → List ℕ → (before old : List Event) → RawFault → (new : List Event) → Type 0
StopsWrite at octets before old Interrupted new = new ≡ old
StopsWrite at octets before old Failed new = (fault : DiskFault) → Writes at octets before (Err fault) new

-- what a call does that continues a write of which N octets are out
abbrev pub WritesOn : ℕ → List ℕ → ℕ → (before old : List Event) → Result ℕ RawFault → (new : List Event) → Type 0
WritesOn at octets done before old result new =
    MatchResult result (λ n. Advances at octets (done + n) before new) (λ fault.
    StopsWrite at octets before old fault new)

-- a cut that failed may have happened or not; one that was interrupted did not
abbrev pub StopsCut : ℕ → (old : List Event) → RawFault → (new : List Event) → Type 0
StopsCut len old Interrupted new = new ≡ old
StopsCut len old Failed new = (fault : DiskFault) → Cuts len old (Err fault) new

-- what a call that cuts does
abbrev pub Truncates : ℕ → (old : List Event) → Result (Unit {0}) RawFault → (new : List Event) → Type 0
Truncates len old result new = MatchResult result (λ _. new ≡ WasCut len ∷ old) (λ fault. StopsCut len old fault new)

-- what a call that syncs does
abbrev pub Flushes : (old : List Event) → Result (Unit {0}) RawFault → (new : List Event) → Type 0
Flushes old result new = MatchResult result (λ _. new ≡ Synced ∷ old) (λ _. new ≡ old)
