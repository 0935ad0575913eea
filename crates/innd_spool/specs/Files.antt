-- What the system's answers mean.
use Rattle.std.specs.Prelude.{◌≡◌, ◌≢◌, ◌<◌, ◌==◌, ◌≤◌, ◌||◌, ℕ, Bool, false, true, not, nat_lt, List, []}
use Rattle.std.specs.Prelude.{get_or, length, take}
use Rattle.std.specs.List.{list_any}
use Rattle.std.specs.declared.io.ErrorKind.{ErrorKind}
use Rattle.std.specs.declared.io.ErrorKind.TheVariants.{NotFound, NotADirectory, OutOfMemory}
use Rattle.article_store.specs.declared.store.StoreFault.{StoreFault}
use Rattle.article_store.specs.declared.store.StoreFault.TheVariants.{Disk, NoMemory}
use Rattle.innd_spool.specs.declared.files.AtPath.{AtPath}
use Rattle.innd_spool.specs.declared.files.AtPath.TheVariants.{Nothing, Directory, File}

-- the errors of the system that say that nothing lies at a path
abbrev pub is_absence : ErrorKind → Bool
is_absence NotFound = true
is_absence NotADirectory = true
is_absence _ = false

-- what a fetch returns after an error
abbrev pub fault_of : ErrorKind → StoreFault
fault_of OutOfMemory = NoMemory
fault_of _ = Disk

-- a name in a directory that is neither empty nor `.` or `..`
abbrev pub is_entry : List ℕ → Bool
is_entry name = nat_lt 2 (length name) || list_any (λ octet. not (octet == 46)) name

-- the path of the directory in which a file lies: the file's own path before its last slash, if it has one
pub data IsParentOf (path directory : List ℕ) : Type 0 where
  before_slash : (at : ℕ) → at < length path → get_or path at 0 ≡ 47
      → ((later : ℕ) → at < later → later < length path → get_or path later 0 ≢ 47)
      → directory ≡ take at path → IsParentOf path directory
  no_slash : ((at : ℕ) → at < length path → get_or path at 0 ≢ 47) → directory ≡ [] → IsParentOf path directory

-- An article that has a file of its own is gone: a look saw nothing at its path, and one saw its directory. innd and
-- its expire remove files and no directory, so without the directory the file system of the articles is not mounted.
abbrev pub IsGoneFrom : (List ℕ → Type 0) → (List ℕ → Type 0) → List ℕ → Type 0
IsGoneFrom is_absent is_directory path =
    is_absent path × ((directory : List ℕ) × IsParentOf path directory × is_directory directory)

-- the octets of a file that were read are at the front of the room
abbrev pub IsRead : List ℕ → AtPath → Type 0
IsRead room Nothing = Unit {0}
IsRead room Directory = Unit {0}
IsRead room (File count) = count ≤ length room
