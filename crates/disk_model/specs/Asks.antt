-- Which system calls a call of a disk makes (profile). A system call is known by a relation of the file before it, its
-- answer, and the file after it.
use Rattle.std.specs.Prelude.{◌≡◌, ◌⊎◌, ◌+◌, ◌-◌, ◌^◌, ◌<◌, ℕ, min, Result, Ok, Err, MatchResult}
use Rattle.disk_model.specs.declared.DiskFault.{DiskFault}
use Rattle.disk_model.specs.declared.raw_file.RawFault.{RawFault}
use Rattle.disk_model.specs.declared.raw_file.RawFault.TheVariants.{Interrupted, Failed}

-- how often one call is made, if it is interrupted each time
abbrev pub most_tries : ℕ
most_tries = 1000

-- This many calls were interrupted, one after another.
pub data WereInterrupted {F : Type 0} (call : F → Result (Unit {0}) RawFault → F → Type 0) (old : F)
    : ℕ → F → Type 0 where
  None_yet : WereInterrupted call old 0 old
  Once_more : (count : ℕ) (between new : F)
      → WereInterrupted call old count between → call between (Err Interrupted) new
      → WereInterrupted call old (count + 1) new

-- What comes of a call that is made again while it is interrupted, at most this often: what came of the first that was
-- not interrupted; or a fault, if all of them were.
pub record Tries {F : Type 0} (call : F → Result (Unit {0}) RawFault → F → Type 0) (most : ℕ)
    (old : F) (result : Result (Unit {0}) DiskFault) (new : F) : Type 0 where
  pub count : ℕ
  pub between : F
  pub interrupted : WereInterrupted call old count between
  pub last : MatchResult result (λ done. (count < most) × call between (Ok done) new)
      (λ _. ((count < most) × call between (Err Failed) new) ⊎ ((count ≡ most) × (new ≡ between)))

-- This many calls continued one transfer, and this many octets are done then: each call moved some, or was interrupted.
-- They change the file and, for a read, what is read into.
pub data WentOn {S : Type 0} (call : S → (done : ℕ) → Result ℕ RawFault → S → Type 0) (old : S)
    : (calls done : ℕ) → S → Type 0 where
  Begins : WentOn call old 0 0 old
  Moved_some : (calls done count : ℕ) (between new : S)
      → WentOn call old calls done between → 0 < count → call between done (Ok count) new
      → WentOn call old (calls + 1) (done + count) new
  Moved_none : (calls done : ℕ) (between new : S)
      → WentOn call old calls done between → call between done (Err Interrupted) new
      → WentOn call old (calls + 1) done new

-- how many calls one transfer of N octets makes at most
abbrev pub most_calls : ℕ → ℕ
most_calls total = min (total + most_tries) (2 ^ 64 - 1)

-- A transfer goes no further: its next call failed, or moved nothing; or it has made as many calls as it may.
pub data Stops {S : Type 0} (call : S → (done : ℕ) → Result ℕ RawFault → S → Type 0) (total : ℕ)
    : (calls done : ℕ) → S → S → Type 0 where
  Failed_then : (calls done : ℕ) (between new : S) → call between done (Err Failed) new
      → Stops call total calls done between new
  Moved_nothing : (calls done : ℕ) (between new : S) → call between done (Ok 0) new
      → Stops call total calls done between new
  Too_many : (calls done : ℕ) (between : S) → calls ≡ most_calls total → Stops call total calls done between between

-- A transfer of N octets: done if it ends so, else a fault, and it goes no further.
pub record Transfers {S : Type 0} (call : S → (done : ℕ) → Result ℕ RawFault → S → Type 0)
    (Ends : (done : ℕ) → S → S → Type 0) (total : ℕ)
    (old : S) (result : Result (Unit {0}) DiskFault) (new : S) : Type 0 where
  pub calls : ℕ
  pub done : ℕ
  pub between : S
  pub went : WentOn call old calls done between
  pub last : MatchResult result (λ _. Ends done between new) (λ _. Stops call total calls done between new)

-- A read is done once all octets are in.
abbrev pub ReadsIn : {S : Type 0} → (S → (done : ℕ) → Result ℕ RawFault → S → Type 0) → (total : ℕ)
    → S → Result (Unit {0}) DiskFault → S → Type 0
ReadsIn call total = Transfers call (λ done between new. (done ≡ total) × (new ≡ between)) total

-- A write is done with the call that takes the last octets.
abbrev pub WritesOut : {S : Type 0} → (S → (done : ℕ) → Result ℕ RawFault → S → Type 0) → (total : ℕ)
    → S → Result (Unit {0}) DiskFault → S → Type 0
WritesOut call total =
    Transfers call (λ done between new. (count : ℕ) × (done + count ≡ total) × call between done (Ok count) new) total
