-- The lines that report how a feed ended (docs/MANUAL.md).
use Rattle.std.specs.Prelude.{ℕ, List, [], ◌∷◌, ◌++◌, codes, decimal, flat_map, string_bytes}
use Rattle.recovery.specs.Faults.{tape_fault_name}
use Rattle.recovery.specs.declared.fault.TapeFault.{TapeFault}
use Rattle.feed_ends.specs.declared.feed_end.FeedEnd.{FeedEnd}
use Rattle.feed_ends.specs.declared.feed_end.FileError.{FileError}
use Rattle.feed_ends.specs.declared.feed_end.FileError.TheVariants.{Unread, Unwritten, Unremoved, Output}
use Rattle.feed_ends.specs.declared.feed_end.Owing.{Owing}
use Rattle.feed_ends.specs.declared.feed_end.TapeError.{TapeError}
use Rattle.feed_ends.specs.declared.feed_end.TapeError.TheVariants.{Taken, Foreign, Failed}

-- the tape of this name is refused, or failed
abbrev pub failed_text : List ℕ → TapeFault → List ℕ
failed_text name fault = codes "tape " ++ name ++ codes ": " ++ tape_fault_name fault ++ 10 ∷ []

-- what is wrong with a tape
abbrev pub tape_text : TapeError → List ℕ
tape_text (Taken directory) = codes "another innfeed works on " ++ string_bytes directory ++ 10 ∷ []
tape_text (Foreign directory) = codes "run this as the owner of " ++ string_bytes directory ++ 10 ∷ []
tape_text (Failed name fault) = failed_text name.items fault

-- what is wrong with another file
abbrev pub file_text : FileError → List ℕ
file_text (Unread path) = codes "cannot read " ++ path.items ++ 10 ∷ []
file_text (Unwritten path) = codes "cannot write " ++ path.items ++ 10 ∷ []
file_text (Unremoved path) = codes "cannot remove " ++ path.items ++ 10 ∷ []
file_text (Output reason) = codes "innfeed: cannot write standard output: " ++ string_bytes reason ++ 10 ∷ []

-- how much a peer is owed
abbrev pub owing_text : Owing → List ℕ
owing_text peer = peer.name.items ++ codes " owes " ++ decimal peer.owed ++ 10 ∷ []

-- a line for each error of a tape, for each of another file, and for each peer that is owed something
abbrev pub end_text : FeedEnd → List ℕ
end_text end = flat_map tape_text end.tapes.items ++ flat_map file_text end.files.items
    ++ flat_map owing_text end.owing.items
