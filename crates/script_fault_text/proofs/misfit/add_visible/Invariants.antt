use Rattle.std.proofs.Common.{◌≡◌, ◌++◌, map, take}
use Rattle.script_fault_text.specs.FaultText.{visible}
use Rattle.script_fault_text.proofs.misfit.add_visible.Given as goal

-- the octets so far were added
abbrev pub invariant-loop-octet : goal.invariant-loop-octet
invariant-loop-octet l = l.out.items ≡ l.initial.out.items ++ map visible (take l.octet-index l.word)
