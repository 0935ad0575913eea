-- The exit statuses (docs/MANUAL.md).
use Rattle.std.specs.Prelude.{ℕ}
use Rattle.drill.specs.declared.ending.Ending.{Ending}
use Rattle.drill.specs.declared.ending.Ending.TheVariants.{Done as DrillDone, Refused as DrillRefused}
use Rattle.drill.specs.declared.ending.Ending.TheVariants.{NoTape, NoMemory as DrillNoMemory}
use Rattle.cli.specs.declared.exit.Exit.{Exit}
use Rattle.cli.specs.declared.exit.Exit.TheVariants.{Done, Refused, Usage, Tape, Unreadable, NoMemory}

abbrev pub status_of : Exit → ℕ
status_of Done = 0
status_of Refused = 1
status_of Usage = 2
status_of Tape = 3
status_of Unreadable = 4
status_of NoMemory = 5

-- how the program ends after a drill
abbrev pub exit_of : Ending → Exit
exit_of DrillDone = Done
exit_of (DrillRefused refusal) = Refused
exit_of (NoTape refusal) = Tape
exit_of DrillNoMemory = NoMemory
