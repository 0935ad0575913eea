use Rattle.std.proofs.Common.{ℕ, List, map, take}
use Rattle.std.specs.Prelude.{◌↔◌, Contains}
use Rattle.std.specs.Vec.{vec_items}
use Rattle.owed_list.specs.Names.{names_in}
use Rattle.owed_list.proofs.Files.{IsOfSome}
use Rattle.owed_list.proofs.strangers.strangers_of.Given as goal

-- the strangers of the files so far are in the set
abbrev pub invariant-loop-file : goal.invariant-loop-file
invariant-loop-file l = (name : List ℕ) → Contains (names_in l.names) name
    ↔ IsOfSome (names_in l.known) (map vec_items (take l.file-index l.files)) name
