-- The first lines of a funnel.
use Rattle.std.specs.Prelude.{◌≡◌, ◌==◌, ◌+◌, ◌<◌, ◌⊎◌, ℕ, List, [], ◌∷◌, ◌++◌, Option, if◌then◌else◌}
use Rattle.std.specs.Io.KnownBytes.{Consumes}
use Rattle.funnel.specs.Stream.{Held, StandsFor}

-- how many lines end in these octets
abbrev pub ends_in : List ℕ → ℕ
ends_in [] = 0
ends_in (octet ∷ octets) = (if octet == 10 then 1 else 0) + ends_in octets

-- The octets are this many lines, each with its LF, and nothing after them.
pub record AreLines (count : ℕ) (octets : List ℕ) : Type 0 where
  pub ends : ends_in octets ≡ count
  pub whole : (octets ≡ []) ⊎ ((body : List ℕ) × (octets ≡ body ++ 10 ∷ []))

-- The octets are this many lines and then this rest.
pub record IsBehind (count : ℕ) (octets rest : List ℕ) : Type 0 where
  pub lines : List ℕ
  pub are : AreLines count lines
  pub parts : octets ≡ lines ++ rest

-- This many lines were read, if what was left to read is known, and what was read after them was fed to the cutter.
pub record PassesLines (count : ℕ) (old new : Option (List ℕ)) (cutter : Held) : Type 0 where
  pub octets : List ℕ
  pub rest : List ℕ
  pub behind : IsBehind count octets rest
  pub read : Consumes old new octets
  pub fed : StandsFor cutter rest []

-- This many of the lines are still to be skipped, and all that was read comes before the end of the last of them.
pub record IsPassing (lines left : ℕ) (old now : Option (List ℕ)) : Type 0 where
  pub octets : List ℕ
  pub read : Consumes old now octets
  pub counted : ends_in octets + left ≡ lines
  pub within : (octets ≡ []) ⊎ (0 < left)
