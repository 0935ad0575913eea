-- The lines of a stream of octets, and what a cutter of lines stands for: what it was fed, and the lines that it
-- returned (profile).
use Rattle.std.specs.Prelude.{◌≡◌, ◌≢◌, ◌+◌, ℕ, List, [], ◌∷◌, ◌++◌, map, take}
use Rattle.std.specs.List.{All, flat_map}
use Rattle.funnel.specs.Line.{longest_line}

-- no octet is an LF
abbrev pub IsUnended : List ℕ → Type 0
IsUnended octets = All (λ octet. octet ≢ 10) octets

-- these lines, each with its LF
abbrev pub ended : List (List ℕ) → List ℕ
ended lines = flat_map (λ line. line ++ 10 ∷ []) lines

-- The octets fed are these lines, in order and each with its LF, followed by a rest that has no LF yet.
pub record Splits (fed : List ℕ) (lines : List (List ℕ)) (rest : List ℕ) : Type 0 where
  pub whole : fed ≡ ended lines ++ rest
  pub each : All IsUnended lines
  pub last : IsUnended rest

-- what is kept of a line: one octet more than a good line may have, so that it is still read as too long
abbrev pub clipped : List ℕ → List ℕ
clipped line = take (longest_line + 1) line

-- what a cutter holds: whole lines, oldest first, and the rest that has no LF yet
pub record Held : Type 0 where
  pub lines : List (List ℕ)
  pub rest : List ℕ

-- The cutter may have been fed these octets and have returned these lines: it holds, clipped, the lines after those, in
-- order, and the rest.
pub record StandsFor (cutter : Held) (fed : List ℕ) (given : List (List ℕ)) : Type 0 where
  pub lines : List (List ℕ)
  pub rest : List ℕ
  pub splits : Splits fed (given ++ lines) rest
  pub holds_lines : cutter.lines ≡ map clipped lines
  pub holds_rest : cutter.rest ≡ clipped rest

-- the octets begin with this line, and the others follow its LF
abbrev pub BeginsWithLine : List ℕ → List ℕ → List ℕ → Type 0
BeginsWithLine octets line behind = (octets ≡ line ++ 10 ∷ behind) × IsUnended line
