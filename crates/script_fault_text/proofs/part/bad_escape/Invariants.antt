use Rattle.std.proofs.Common.{◌≡◌, ◌+◌, length}
use Rattle.script_fault_text.specs.Parts.{bad_escape}
use Rattle.script_fault_text.proofs.part.bad_escape.Given as goal

-- the first bad one of all is the first of what is left
abbrev pub invariant-loop-rest : goal.invariant-loop-rest
invariant-loop-rest l = record {
  at : l.place + length l.rest ≡ length l.text;
  same : bad_escape l.place l.rest ≡ bad_escape 0 l.text;
}

abbrev pub decreases-loop-rest : goal.decreases-loop-rest
decreases-loop-rest l = length l.rest
