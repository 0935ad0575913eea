-- The words for the faults of a line in messages and scripts (profile).
use Rattle.std.specs.Prelude.{ℕ, List, codes}
use Rattle.funnel.specs.declared.line.LineFault.{LineFault}
use Rattle.funnel.specs.declared.line.LineFault.TheVariants.{NoToken, BadToken, BadId, TooLong, NoMemory}

-- the word for a fault
abbrev pub line_fault_name : LineFault → List ℕ
line_fault_name NoToken = codes "NoToken"
line_fault_name BadToken = codes "BadToken"
line_fault_name BadId = codes "BadId"
line_fault_name TooLong = codes "TooLong"
line_fault_name NoMemory = codes "NoMemory"
