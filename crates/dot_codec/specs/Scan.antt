-- The first run of octets that a line may have, and what ends it.
use Rattle.std.specs.Prelude.{◌≡◌, ◌≢◌, ◌==◌, ◌&&◌, ℕ, Bool, false, true, List, [], ◌∷◌, ◌++◌}
use Rattle.dot_codec.specs.Lines.{is_line_octet, IsLine}
use Rattle.dot_codec.specs.declared.scan.RunEnd.{RunEnd}
use Rattle.dot_codec.specs.declared.scan.RunEnd.TheVariants.{End, Nul, Lf, CrLf, Cr}

-- the octets at the end of a run: the stop, and the rest after it
abbrev pub IsStop : RunEnd → List ℕ → List ℕ → Type 0
IsStop End octets rest = (octets ≡ []) × (rest ≡ [])
IsStop Nul octets rest = octets ≡ 0 ∷ rest
IsStop Lf octets rest = octets ≡ 10 ∷ rest
IsStop CrLf octets rest = octets ≡ 13 ∷ 10 ∷ rest
IsStop Cr octets rest = (octets ≡ 13 ∷ rest) × ((behind : List ℕ) → rest ≢ 10 ∷ behind)

-- whether a run that the stop ends is a line of a text
abbrev pub ends_line : RunEnd → Bool
ends_line End = true
ends_line Nul = false
ends_line Lf = true
ends_line CrLf = true
ends_line Cr = false

-- the octets begin with this run, which the stop ends, and this is the rest after that
abbrev pub IsRun : List ℕ → List ℕ → RunEnd → List ℕ → Type 0
IsRun octets run stop rest = (tail : List ℕ) × (octets ≡ run ++ tail) × IsLine run × IsStop stop tail rest

-- a run ends here: at the end of the octets, or before an octet that no line has
abbrev pub EndsRun : List ℕ → Type 0
EndsRun [] = Unit {0}
EndsRun (octet ∷ rest) = is_line_octet octet ≡ false

abbrev pub begins_with_crlf : List ℕ → Bool
begins_with_crlf [] = false
begins_with_crlf (octet ∷ []) = false
begins_with_crlf (octet ∷ other ∷ rest) = octet == 13 && other == 10
