-- What a good line says.
use Rattle.std.proofs.Common.{◌≡◌, ℕ, List, sym, subst}
use Rattle.std.specs.Prelude.{IfOk, Result, Ok, Err}
use Rattle.funnel.specs.Line.{IsFunnelLine}
use Rattle.funnel.specs.declared.line.FunnelLine.{FunnelLine}
use Rattle.kept_lines.specs.Lines.{IsGood, IsReading}
use Rattle.kept_lines.specs.declared.read_line.Reading.{Reading}
use Rattle.kept_lines.specs.declared.read_line.Reading.TheVariants.{Good, Malformed}

pub is_reading : (names : List (List ℕ)) (text : List ℕ) (line : FunnelLine) (reading : Reading)
    → IsFunnelLine text line.token line.id line.peers.items → IsGood names line reading → IsReading names text reading
is_reading names text line (Good token id others) is (same_token, same_id, found) = (
  line.peers.items,
  subst (λ (t : List ℕ). IsFunnelLine text t id line.peers.items) (sym same_token)
      (subst (λ (i : List ℕ). IsFunnelLine text line.token i line.peers.items) (sym same_id) is),
  found,
)
is_reading names text line (Malformed fault) is none = absurd none

-- the same of an answer
pub are_readings : {E : Type 0} (names : List (List ℕ)) (text : List ℕ) (line : FunnelLine) (answer : Result Reading E)
    → IsFunnelLine text line.token line.id line.peers.items → IfOk answer (IsGood names line)
    → IfOk answer (IsReading names text)
are_readings names text line (Ok reading) is good = is_reading names text line reading is good
are_readings names text line (Err error) is good = tt
