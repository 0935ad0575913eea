-- A text that was read from a file, as an article, and the result if a file cannot be read.
use Rattle.std.specs.Prelude.{◌≡◌, ◌≤◌, ℕ, List, length, Option, Result, Ok, Err}
use Rattle.std.specs.Io.KnownBytes.{Consumes}
use Rattle.std.specs.declared.io.ErrorKind.{ErrorKind}
use Rattle.std.specs.declared.io.ErrorKind.TheVariants.{NotFound, NotADirectory, IsADirectory, OutOfMemory}
use Rattle.dot_codec.specs.Lines.{IsSendable}
use Rattle.article_store.specs.declared.store.Found.{Found}
use Rattle.article_store.specs.declared.store.Found.TheVariants.{Article, Gone, Unsendable}
use Rattle.article_store.specs.declared.store.StoreFault.{StoreFault}
use Rattle.article_store.specs.declared.store.StoreFault.TheVariants.{Disk, NoMemory}

-- What was found, if a reader has this text left: the very text, whole, or that it has no written form. A text that
-- was read is never gone (profile).
abbrev pub IsReadAs : List ℕ → Found → Type 0
IsReadAs text (Article read) = read ≡ text
IsReadAs text Gone = ⊥
IsReadAs text Unsendable = ¬ (IsSendable text)

-- known octets lost a prefix of at most this many
abbrev pub ConsumesAtMost : ℕ → Option (List ℕ) → Option (List ℕ) → Type 0
ConsumesAtMost most old new = (octets : List ℕ) × Consumes old new octets × (length octets ≤ most)

-- the result if a file could not be opened or read (profile)
abbrev pub answer_to : ErrorKind → Result Found StoreFault
answer_to NotFound = Ok Gone
answer_to NotADirectory = Ok Gone
answer_to IsADirectory = Ok Gone
answer_to OutOfMemory = Err NoMemory
answer_to _ = Err Disk
