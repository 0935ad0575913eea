-- How many lines fit into the room that is left.
use Rattle.std.specs.Prelude.{◌≡◌, ◌<◌, ◌≤◌, ◌++◌, ◌∷◌, [], ℕ, Bool, true, false, List, length}
use Rattle.kept_lines.specs.Texts.{unknown_text}
use Rattle.kept_lines.specs.declared.read_line.ReadLine.{ReadLine}

-- what is left over: nothing if the text is whole, and otherwise lines the first of which does not fit
abbrev pub LeftOver : List (List ℕ) → List ReadLine → ℕ → List ReadLine → Bool → Type 0
LeftOver left_out some room rest true = rest ≡ []
LeftOver left_out some room rest false =
    (line : ReadLine) × (more : List ReadLine) × (rest ≡ line ∷ more)
    × room < length (unknown_text left_out (some ++ line ∷ []))

-- The text is that of the first lines, as many as fit.
pub record Fits (left_out : List (List ℕ)) (lines : List ReadLine) (room : ℕ) (text : List ℕ) (whole : Bool)
    : Type 0 where
  pub some : List ReadLine
  pub rest : List ReadLine
  pub parts : lines ≡ some ++ rest
  pub written : text ≡ unknown_text left_out some
  pub short : length text ≤ room
  pub left : LeftOver left_out some room rest whole
