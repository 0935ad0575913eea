-- The words in messages for a line that breaks the rules of a script (docs/MANUAL.md).
use Rattle.std.specs.Prelude.{ℕ, List, codes}
use Rattle.drill_script.specs.declared.fault.BrokenRule.{BrokenRule}
use Rattle.drill_script.specs.declared.fault.BrokenRule.TheVariants.{NoStep, NoPeer, PeerBehindStep, DeclaredTwice}
use Rattle.drill_script.specs.declared.fault.BrokenRule.TheVariants.{NoTape, TapeBehindStep, NoPeerOfTape, TapeTwice}
use Rattle.drill_script.specs.declared.fault.BrokenRule.TheVariants.{Unended}

abbrev pub reason_words : BrokenRule → List ℕ
reason_words NoStep = codes "unknown or malformed step"
reason_words NoPeer = codes "malformed settings of a peer"
reason_words PeerBehindStep = codes "a peer line after the first step"
reason_words DeclaredTwice = codes "peer declared twice"
reason_words NoTape = codes "malformed tape line"
reason_words TapeBehindStep = codes "a tape line after the first step"
reason_words NoPeerOfTape = codes "no earlier line declares the peer of this tape"
reason_words TapeTwice = codes "tape given twice"
reason_words Unended = codes "no newline at end of file"
