-- Lines of the funnel, and what they name besides the peers of a run.
use Rattle.std.specs.Prelude.{◌≡◌, ◌≢◌, ◌||◌, ◌++◌, ◌∷◌, [], ℕ, List, if◌then◌else◌}
use Rattle.funnel.specs.Line.{HasFault, IsFunnelLine}
use Rattle.funnel.specs.declared.line.FunnelLine.{FunnelLine}
use Rattle.funnel.specs.declared.line.LineFault.TheVariants.{NoMemory}
use Rattle.kept_lines.specs.Names.{AreRising, is_named}
use Rattle.kept_lines.specs.declared.read_line.ReadLine.{ReadLine}
use Rattle.kept_lines.specs.declared.read_line.Reading.{Reading}
use Rattle.kept_lines.specs.declared.read_line.Reading.TheVariants.{Good, Malformed}

-- Those of these peers that have none of the names, in order, each once: after these, which were found before.
abbrev pub others_of : List (List ℕ) → List (List ℕ) → List (List ℕ) → List (List ℕ)
others_of names found [] = found
others_of names found (peer ∷ peers) =
    if is_named names peer || is_named found peer then others_of names found peers else others_of names
    (found ++ peer ∷ []) peers

-- what a good line says in a run whose peers have these names, in byte order
abbrev pub IsGood : List (List ℕ) → FunnelLine → Reading → Type 0
IsGood names line (Good token id others) =
    (token ≡ line.token) × (id ≡ line.id) × (AreRising names → others.items ≡ others_of names [] line.peers.items)
IsGood names line (Malformed fault) = ⊥

-- what a line says in a run whose peers have these names, in byte order
abbrev pub IsReading : List (List ℕ) → List ℕ → Reading → Type 0
IsReading names text (Good token id others) =
    (peers : List (List ℕ)) × IsFunnelLine text token id peers
    × (AreRising names → others.items ≡ others_of names [] peers)
IsReading names text (Malformed fault) = HasFault text fault × (fault ≢ NoMemory)

-- a line that was read from these octets
pub record IsReadAs (names : List (List ℕ)) (text : List ℕ) (line : ReadLine) : Type 0 where
  pub octets : line.text.items ≡ text
  pub reading : IsReading names text line.reading
