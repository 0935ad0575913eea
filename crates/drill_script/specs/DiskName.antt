-- The name of a disk of a tape, as a script's `tape` line has it (docs/FORMATS.md).
use Rattle.std.specs.Prelude.{◌≡◌, ◌&&◌, ℕ, Bool, true, false, List, ◌++◌, Option, None, Some, IsTrue, codes}
use Rattle.std.specs.Str.{bytes_eq}
use Rattle.funnel.specs.Names.{is_peer_name}
use Rattle.drill_script.specs.declared.disk_name.DiskName.{DiskName}
use Rattle.drill_script.specs.declared.disk_name.TapeDisk.{TapeDisk}
use Rattle.drill_script.specs.declared.disk_name.TapeDisk.TheVariants.{First, Second}

-- the word for a tape: the name of its peer, or `~intake`
abbrev pub tape_word : Option (List ℕ) → List ℕ
tape_word None = codes "~intake"
tape_word (Some name) = name

-- it is the intake's, or that of a peer with a peer's name
abbrev pub IsNamed : Option (List ℕ) → Type 0
IsNamed None = Unit {0}
IsNamed (Some name) = IsTrue (is_peer_name name)

-- a word names a tape
abbrev pub NamesTape : (word : List ℕ) → Option (List ℕ) → Type 0
NamesTape word peer = (word ≡ tape_word peer) × IsNamed peer

-- the word for a disk of a tape: for the first that of the tape, for the second the same and `~b`
abbrev pub word_of : Option (List ℕ) → TapeDisk → List ℕ
word_of peer First = tape_word peer
word_of peer Second = tape_word peer ++ codes "~b"

-- a word names a disk
abbrev pub Names : (word : List ℕ) → DiskName → Type 0
Names word name = (word ≡ word_of name.peer name.disk) × IsNamed name.peer

-- whether two names are of the same disk
abbrev pub same_tape : Option (List ℕ) → Option (List ℕ) → Bool
same_tape None None = true
same_tape None (Some other) = false
same_tape (Some one) None = false
same_tape (Some one) (Some other) = bytes_eq one other

abbrev pub same_side : TapeDisk → TapeDisk → Bool
same_side First First = true
same_side First Second = false
same_side Second First = false
same_side Second Second = true

abbrev pub is_same : DiskName → DiskName → Bool
is_same one other = same_tape one.peer other.peer && same_side one.disk other.disk
