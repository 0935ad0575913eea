use Rattle.std.proofs.Common.{◌≡◌, ℕ, List, ◌++◌, length}
use Rattle.drill_script.specs.Action.{IsWritten}
use Rattle.drill_script.proofs.action.unescape.Given as goal

abbrev pub invariant-loop-rest : goal.invariant-loop-rest
invariant-loop-rest l = record {
  from : (text : List ℕ) → IsWritten l.rest text → IsWritten l.written (l.text.items ++ text);
  to : (text : List ℕ) → IsWritten l.written text →
      (behind : List ℕ) × (text ≡ l.text.items ++ behind) × IsWritten l.rest behind;
}

abbrev pub decreases-loop-rest : goal.decreases-loop-rest
decreases-loop-rest l = length l.rest
