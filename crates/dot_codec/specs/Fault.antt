-- Why octets do not begin with a read form.
use Rattle.std.specs.Prelude.{◌≡◌, ◌≢◌, ◌⊎◌, ℕ, List, [], ◌∷◌, ◌++◌}
use Rattle.dot_codec.specs.Lines.{IsLine}
use Rattle.dot_codec.specs.Block.{HasForms}
use Rattle.dot_codec.specs.declared.fault.BlockFault.{BlockFault}
use Rattle.dot_codec.specs.declared.fault.BlockFault.TheVariants.{Unfinished, BareCr, BareLf, Nul, NoMemory}

-- what follows the octets of a line at the fault
abbrev pub IsFaultAt : BlockFault → List ℕ → Type 0
IsFaultAt Unfinished octets = (octets ≡ []) ⊎ (octets ≡ 13 ∷ [])
IsFaultAt BareCr octets = (octet : ℕ) × (rest : List ℕ) × (octets ≡ 13 ∷ octet ∷ rest) × (octet ≢ 10)
IsFaultAt BareLf octets = (rest : List ℕ) × (octets ≡ 10 ∷ rest)
IsFaultAt Nul octets = (rest : List ℕ) × (octets ≡ 0 ∷ rest)
IsFaultAt NoMemory octets = ⊥

-- the fault is in the first line of these octets
abbrev pub IsFaultyLine : BlockFault → List ℕ → Type 0
IsFaultyLine fault octets = (body rest : List ℕ) × (octets ≡ body ++ rest) × IsLine body × IsFaultAt fault rest

-- The first fault in reading order: only whole forms of lines come before it, none of them the end of a block.
abbrev pub HasBlockFault : List ℕ → BlockFault → Type 0
HasBlockFault octets fault = (lines : List (List ℕ)) × (rest : List ℕ) × HasForms lines octets rest × IsFaultyLine fault rest
