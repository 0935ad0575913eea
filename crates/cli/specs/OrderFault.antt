-- Why an order did not end well, or how a feed ended.
use Rattle.std.specs.Prelude.{◌≡◌, ◌≢◌, ◌⊎◌, ◌++◌, ◌+◌, ◌-◌, ◌^◌, ℕ, List, Option, None, Some, Result, Ok, Err}
use Rattle.std.specs.Prelude.{length, min, string_bytes}
use Rattle.std.specs.IoError.{error_kind}
use Rattle.std.specs.declared.io.Error.{Error}
use Rattle.std.specs.declared.io.ErrorKind.TheVariants.{OutOfMemory}
use Rattle.cli.specs.declared.exit.Exit.{Exit}
use Rattle.cli.specs.declared.exit.Exit.TheVariants.{Done, Refused, Tape, Usage, Unreadable}
use Rattle.cli.specs.declared.exit.Exit.TheVariants.{NoMemory as ExitNoMemory}
use Rattle.cli.specs.declared.fault.OrderFault.{OrderFault}
use Rattle.cli.specs.declared.fault.OrderFault.TheVariants.{NoMemory, Config, Checked, Refused as ScriptRefused, NoTape}
use Rattle.cli.specs.declared.fault.OrderFault.TheVariants.{Unread, Input, Output, Mistake, Stranger}
use Rattle.cli.specs.declared.fault.OrderFault.TheVariants.{Fed}
use Rattle.cli.specs.Feed.{exit_of_end}
use Rattle.cli.specs.FeedLines.{end_text}
use Rattle.cli.specs.Lines.{config_text, refusal_text, no_tape_text, unread_lines, input_text, output_text}
use Rattle.cli.specs.Lines.{mistake_text, stranger_text}

-- the status of a fault
abbrev pub exit_of_fault : OrderFault → Exit
exit_of_fault NoMemory = ExitNoMemory
exit_of_fault (Config fault more) = Refused
exit_of_fault (Checked lines) = Done
exit_of_fault (ScriptRefused source refusal more) = Refused
exit_of_fault (NoTape refusal) = Tape
exit_of_fault (Unread path error) = Unreadable
exit_of_fault (Input error) = Unreadable
exit_of_fault (Output error) = Unreadable
exit_of_fault (Mistake what) = Usage
exit_of_fault (Stranger name path) = Usage
exit_of_fault (Fed end) = exit_of_end end

-- How many of the lines that report it, the first ones, report faults, and no information: of a feed's lines those on
-- tapes and other files. The greatest number if all lines do.
abbrev pub fault_count : OrderFault → ℕ
fault_count NoMemory = 2 ^ 64 - 1
fault_count (Config fault more) = 2 ^ 64 - 1
fault_count (Checked lines) = 0
fault_count (ScriptRefused source refusal more) = 2 ^ 64 - 1
fault_count (NoTape refusal) = 2 ^ 64 - 1
fault_count (Unread path error) = 2 ^ 64 - 1
fault_count (Input error) = 2 ^ 64 - 1
fault_count (Output error) = 2 ^ 64 - 1
fault_count (Mistake what) = 2 ^ 64 - 1
fault_count (Stranger name path) = 2 ^ 64 - 1
fault_count (Fed end) = min (length end.tapes.items + length end.files.items) (2 ^ 64 - 1)

-- the lines that report it; none if memory was refused; the text for why a file or a stream failed is the system's
abbrev pub IsLineOf : OrderFault → Option (List ℕ) → Type 0
IsLineOf NoMemory line = line ≡ None
IsLineOf (Config fault more) line = line ≡ Some (config_text fault ++ more.items)
IsLineOf (Checked lines) line = line ≡ Some lines.items
IsLineOf (ScriptRefused source refusal more) line = line ≡ Some (refusal_text source.now refusal ++ more.items)
IsLineOf (NoTape refusal) line = line ≡ Some (no_tape_text refusal)
IsLineOf (Unread path error) line = (reason : List ℕ) × (line ≡ Some (unread_lines path.now reason))
IsLineOf (Input error) line = (reason : List ℕ) × (line ≡ Some (input_text reason))
IsLineOf (Output error) line = (reason : List ℕ) × (line ≡ Some (output_text reason))
IsLineOf (Mistake what) line = line ≡ Some (mistake_text (string_bytes what))
IsLineOf (Stranger name path) line = line ≡ Some (stranger_text name.now path.now)
IsLineOf (Fed end) line = line ≡ Some (end_text end)

-- an error that is reported as this fault, but as NoMemory if memory was refused
abbrev pub IsFaultOf : Error → OrderFault → OrderFault → Type 0
IsFaultOf error given fault =
    ((error_kind error ≡ OutOfMemory) × (fault ≡ NoMemory)) ⊎ ((error_kind error ≢ OutOfMemory) × (fault ≡ given))

-- what an order may come to if it ended with a fault
abbrev pub ComesBy : (Exit → Option (List ℕ) → Type 0) → OrderFault → Type 0
ComesBy does fault = (line : Option (List ℕ)) → IsLineOf fault line → does (exit_of_fault fault) line

-- what an order may come to, by its status and its line, if it ended well or with a fault
abbrev pub Comes : (Exit → Option (List ℕ) → Type 0) → Result Exit OrderFault → Type 0
Comes does (Ok exit) = does exit None
Comes does (Err fault) = ComesBy does fault
