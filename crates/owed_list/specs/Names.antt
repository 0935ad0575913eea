-- The names of files in the backlog directory, and whose articles wait there (docs/FORMATS.md).
use Rattle.std.specs.Prelude.{◌≡◌, ◌-◌, ◌&&◌, ◌↔◌, if◌then◌else◌, ℕ, List, Option, None, Some, Contains, codes, drop}
use Rattle.std.specs.Prelude.{length, map, take}
use Rattle.std.specs.BTreeSet.{BTreeSet}
use Rattle.std.specs.Str.{bytes_eq}
use Rattle.std.specs.Vec.{vec_items}
use Rattle.std.specs.declared.alloc.Global.{Global}
use Rattle.std.specs.declared.vec.Vec.{Vec}
use Rattle.funnel.specs.Names.{is_peer_name}

-- the name of a peer that a file name has before this ending
abbrev pub name_before : (ending file : List ℕ) → Option (List ℕ)
name_before ending file =
    if bytes_eq (drop (length file - length ending) file) ending
    && is_peer_name (take (length file - length ending) file)
    then Some (take (length file - length ending) file) else None

-- the first of two, if it is there, and otherwise the second
abbrev pub or_else : Option (List ℕ) → Option (List ℕ) → Option (List ℕ)
or_else None second = second
or_else (Some name) second = Some name

-- The peer NAME of a file `NAME~a` or `NAME~b`, which are a tape, or `NAME~kept`.
abbrev pub peer_of : List ℕ → Option (List ℕ)
peer_of file =
    or_else (name_before (codes "~a") file)
    (or_else (name_before (codes "~b") file) (name_before (codes "~kept") file))

-- the file is of a peer of this name, which is not known
abbrev pub IsOfOne : (known : List (List ℕ)) → (file name : List ℕ) → Type 0
IsOfOne known file name = (peer_of file ≡ Some name) × (Contains known name → ⊥)

-- A stranger: one of these files is of a peer of this name, and the settings do not have it.
abbrev pub IsStranger : (files peers : List (List ℕ)) → List ℕ → Type 0
IsStranger files peers name = ((file : List ℕ) × Contains files file × (peer_of file ≡ Some name))
    × (Contains peers name → ⊥)

-- the octets that a set has
abbrev pub names_in : BTreeSet (Vec ℕ Global) → List (List ℕ)
names_in set = map vec_items set.keys

-- the set has these names, and no others
abbrev pub AreNames : List (List ℕ) → BTreeSet (Vec ℕ Global) → Type 0
AreNames names set = (name : List ℕ) → Contains (names_in set) name ↔ Contains names name
