-- The lines of a file, as it is read in pieces (profile).
use Rattle.std.specs.Prelude.{◌≡◌, ℕ, false, List, Option}
use Rattle.std.specs.declared.io.traits.Read.{Ghosts}
use Rattle.funnel.specs.Stream.{StandsFor}
use Rattle.funnel_files.specs.Rest.{leaves_rest}
use Rattle.funnel_files.specs.declared.line_file.LineFile.{LineFile}

module _ {R : Type 0} {g : Ghosts R} where
  -- what it is read from
  abbrev pub reader_of : LineFile R g → R
  reader_of file = file.reader

  -- the octets that are still to be read, if they are known
  abbrev pub left_of : LineFile R g → Option (List ℕ)
  left_of file = g.remaining file.reader

  -- These octets may have been read so far, and these lines of them given.
  pub record HasGiven (file : LineFile R g) (octets : List ℕ) (lines : List (List ℕ)) : Type 0 where
    pub stands : StandsFor file.cutter octets lines
    pub rest : file.has_rest ≡ leaves_rest false octets
