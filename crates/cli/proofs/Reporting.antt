-- The line that reports a fault, written or not.
use Rattle.std.proofs.Common.{◌++◌, ℕ, List, [], Option, None, Some, Result, Ok, Err, refl}
use Rattle.std.proofs.KnownBytes.{Keeps-refl}
use Rattle.std.specs.declared.io.Error.{Error}
use Rattle.std.specs.Prelude.{string_bytes}
use Rattle.cli.specs.Ends.{Reports}
use Rattle.cli.specs.OrderFault.{Comes, IsLineOf, exit_of_fault}
use Rattle.cli.specs.FeedLines.{end_text}
use Rattle.cli.specs.Lines.{config_text, refusal_text, no_tape_text, unread_lines, input_text, output_text}
use Rattle.cli.specs.Lines.{mistake_text, stranger_text}
use Rattle.cli.specs.declared.exit.Exit.{Exit}
use Rattle.cli.specs.declared.fault.OrderFault.{OrderFault}
use Rattle.cli.specs.declared.fault.OrderFault.TheVariants.{NoMemory, Config, Checked, Refused, NoTape, Unread, Input}
use Rattle.cli.specs.declared.fault.OrderFault.TheVariants.{Output, Mistake, Stranger, Fed}

-- each fault has a line, or none
pub has_line : (fault : OrderFault) → (line : Option (List ℕ)) × IsLineOf fault line
has_line NoMemory = (None, refl)
has_line (Config fault more) = (Some (config_text fault ++ more.items), refl)
has_line (Checked lines) = (Some lines.items, refl)
has_line (Refused source refusal more) = (Some (refusal_text source.now refusal ++ more.items), refl)
has_line (NoTape refusal) = (Some (no_tape_text refusal), refl)
has_line (Unread path error) = (Some (unread_lines path.now []), ([], refl))
has_line (Input error) = (Some (input_text []), ([], refl))
has_line (Output error) = (Some (output_text []), ([], refl))
has_line (Mistake what) = (Some (mistake_text (string_bytes what)), refl)
has_line (Stranger name path) = (Some (stranger_text name.now path.now), refl)
has_line (Fed end) = (Some (end_text end), refl)

-- a line that was not written
pub line_is_lost : (held : Option (List ℕ)) (error : Error) (line : Option (List ℕ)) → Reports held held (Err error) line
line_is_lost held error None = Keeps-refl held
line_is_lost held error (Some line) = tt

-- what an order comes to, stated in weaker words
pub comes_as : (a b : Exit → Option (List ℕ) → Type 0)
    → ((exit : Exit) (line : Option (List ℕ)) → a exit line → b exit line)
    → (result : Result Exit OrderFault) → Comes a result → Comes b result
comes_as a b weaker (Ok exit) comes = weaker exit None comes
comes_as a b weaker (Err fault) comes = λ line is. weaker (exit_of_fault fault) line (comes line is)
