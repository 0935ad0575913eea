-- What each order comes to: its exit status, what is on standard output, and the line on standard error, if any
-- (docs/MANUAL.md).
use Rattle.std.specs.Prelude.{◌≡◌, ◌⊎◌, ◌++◌, ℕ, Bool, List, [], Option, None, Some, Result, Ok, Err, OnOk, IfSome}
use Rattle.std.specs.Prelude.{codes, string_bytes}
use Rattle.std.specs.Io.KnownBytes.{Appends, Keeps}
use Rattle.std.specs.declared.io.Error.{Error}
use Rattle.drill.specs.Drill.{Drills}
use Rattle.drill.specs.declared.ending.Ending.{Ending}
use Rattle.drill.specs.declared.ending.Ending.TheVariants.{Done as AllTaken, Refused as LineRefused}
use Rattle.drill.specs.declared.ending.Ending.TheVariants.{NoTape as TapeRefused, NoMemory as WantsMemory}
use Rattle.drill.specs.declared.ending.Refusal.{Refusal}
use Rattle.drill.specs.declared.ending.Why.{Why}
use Rattle.drill.specs.declared.ending.Why.TheVariants.{Script, Step}
use Rattle.feed_conf.specs.Reading.{HaveLexemes, lines_of}
use Rattle.feed_conf.specs.Settings.{Outcome, meaning}
use Rattle.feed_conf.specs.Lexemes.{Lexeme}
use Rattle.feed_conf.specs.declared.fault.ConfFault.{ConfFault}
use Rattle.feed_ends.specs.Source.{source_view}
use Rattle.cli.specs.Check.{advice_line, check_text, more_text}
use Rattle.cli.specs.Exit.{exit_of}
use Rattle.cli.specs.Feed.{exit_of_end}
use Rattle.cli.specs.Feeding.{Feeding}
use Rattle.cli.specs.FeedLines.{end_text}
use Rattle.cli.specs.Lines.{config_text, refusal_text, no_tape_text, unread_lines, input_text, output_text}
use Rattle.cli.specs.Lines.{mistake_text, stranger_text}
use Rattle.cli.specs.Strangers.{stranger_of}
use Rattle.conf_text.specs.ConfText.{conf_text}
use Rattle.script_fault_text.specs.FaultText.{AreOn, line_at}
use Rattle.cli.specs.declared.exit.Exit.{Exit}
use Rattle.cli.specs.declared.exit.Exit.TheVariants.{Done, Refused, Usage, Unreadable, NoMemory}
use Rattle.feed_ends.specs.declared.feed_end.FeedEnd.{FeedEnd}
use Rattle.cli.specs.declared.order.Order.{Order}
use Rattle.cli.specs.declared.order.Order.TheVariants.{DrillFromInput, Drill, Check, PrintConf, Owed, Feed}
use Rattle.cli.specs.declared.order.Order.TheVariants.{Print, Mistake}

-- what a configuration's text means: its settings, or its first fault
abbrev pub Means : List ℕ → Result Outcome ConfFault → Type 0
Means text meant = (lines : List (List Lexeme)) → HaveLexemes (lines_of text) lines → meaning lines ≡ meant

-- memory was refused, and nothing is printed
abbrev pub LacksMemory : Exit → Option (List ℕ) → Type 0
LacksMemory exit line = (exit ≡ NoMemory) × (line ≡ None)

-- standard output could not be written
abbrev pub LosesOutput : Exit → Option (List ℕ) → Type 0
LosesOutput exit line = (exit ≡ Unreadable) × ((reason : List ℕ) × (line ≡ Some (output_text reason)))

-- standard input could not be read
abbrev pub LosesInput : Exit → Option (List ℕ) → Type 0
LosesInput exit line = (exit ≡ Unreadable) × ((reason : List ℕ) × (line ≡ Some (input_text reason)))

-- the file at a path cannot be read
abbrev pub MissesFile : (Option (List ℕ) → Type 0) → List ℕ → Exit → Option (List ℕ) → Type 0
MissesFile says path exit line = says None × (exit ≡ Unreadable)
    × ((reason : List ℕ) × (line ≡ Some (unread_lines path reason)))

-- a text was printed, and this on standard error; or it could not be printed
abbrev pub PrintsBeside : (said : Option (List ℕ)) → List ℕ →
    Option (List ℕ) → Option (List ℕ) → Exit → Option (List ℕ) → Type 0
PrintsBeside said text old new exit line =
    ((exit ≡ Done) × (line ≡ said) × Appends old new text)
    ⊎ LosesOutput exit line
    ⊎ LacksMemory exit line

-- a text was printed, or could not be
abbrev pub Prints : List ℕ → Option (List ℕ) → Option (List ℕ) → Exit → Option (List ℕ) → Type 0
Prints = PrintsBeside None

-- the lines that explain why a line of a script was refused: none if it is the step that was
abbrev pub AreOnWhy : (source script : List ℕ) → (number : ℕ) → Why → (lines : List ℕ) → Type 0
AreOnWhy source script number (Script reason) lines = AreOn source number (line_at script number) reason lines
AreOnWhy source script number (Step fault) lines = lines ≡ []

abbrev pub AreOnRefusal : (source script : List ℕ) → Refusal → (lines : List ℕ) → Type 0
AreOnRefusal source script refusal lines = AreOnWhy source script refusal.line refusal.why lines

-- the lines that report the ending of a drill whose script has this source: which line or which peer's tape was
-- refused, and why, with the explanation
abbrev pub ReportsEnding : (source script : List ℕ) → Ending → Option (List ℕ) → Type 0
ReportsEnding source script AllTaken line = line ≡ None
ReportsEnding source script (LineRefused refusal) line =
    (more : List ℕ) × AreOnRefusal source script refusal more × (line ≡ Some (refusal_text source refusal ++ more))
ReportsEnding source script (TapeRefused refusal) line = line ≡ Some (no_tape_text refusal)
ReportsEnding source script WantsMemory line = line ≡ None

-- The script was run: standard output gets what it prints, and the status and the line report its ending; or standard
-- output could not be written.
abbrev pub Runs : (text source : List ℕ) → Option (List ℕ) → Option (List ℕ) → Exit → Option (List ℕ) → Type 0
Runs text source old new exit line =
    ((ending : Ending) × Drills (Some text) old new ending × (exit ≡ exit_of ending)
    × ReportsEnding source text ending line)
    ⊎ LosesOutput exit line
    ⊎ LacksMemory exit line

-- What is printed of a configuration's settings: a text on standard output, and perhaps lines on standard error.
pub record Shown : Type 0 where
  pub on_output : Outcome → List ℕ
  pub on_error : Outcome → Option (List ℕ)

-- their report, and with -v what that means for the feed
abbrev pub reported : (verbose : Bool) → (path : List ℕ) → Shown
reported verbose path = record { on_output = check_text; on_error = λ outcome. advice_line verbose path outcome }

-- the settings in force
abbrev pub in_force : Shown
in_force = record { on_output = conf_text; on_error = λ outcome. None }

-- A configuration has settings, and this is printed of them.
abbrev pub Passes : Shown → (text : List ℕ) → Option (List ℕ) → Option (List ℕ) → Exit → Option (List ℕ) → Type 0
Passes shown text old new exit line =
    (outcome : Outcome) × Means text (Ok outcome)
    × PrintsBeside (shown.on_error outcome) (shown.on_output outcome) old new exit line

-- A configuration has a fault, which is the line on standard error; with -v it is explained there.
abbrev pub Refuses : (verbose : Bool) → (path text : List ℕ) → Exit → Option (List ℕ) → Type 0
Refuses verbose path text exit line =
    (fault : ConfFault) × Means text (Err fault) × (exit ≡ Refused)
    × (line ≡ Some (config_text fault ++ more_text verbose path text fault))

-- The configuration in a file is read, and this is printed of its settings.
abbrev pub Checks : (Option (List ℕ) → Type 0) → Shown → List ℕ → (verbose : Bool) →
    Option (List ℕ) → Option (List ℕ) → Exit → Option (List ℕ) → Type 0
Checks says shown path verbose old new exit line =
    ((text : List ℕ) × says (Some text) × Passes shown text old new exit line)
    ⊎ ((text : List ℕ) × says (Some text) × Refuses verbose path text exit line × Keeps old new)
    ⊎ (MissesFile says path exit line × Keeps old new)
    ⊎ LacksMemory exit line

-- what feeds was asked, did this by these settings, and ended like this: the status and the lines report that end
abbrev pub EndsFeed : (Outcome → FeedEnd → Type 0) → Outcome → Exit → Option (List ℕ) → Type 0
EndsFeed did outcome exit line =
    (end : FeedEnd) × did outcome end × (exit ≡ exit_of_end end) × (line ≡ Some (end_text end))

-- With these settings, what feeds was asked and did this; or a name is no peer of theirs, and it was not asked.
abbrev pub WorksOn : (stranger : Outcome → Option (List ℕ)) → (did : Outcome → FeedEnd → Type 0) → (unasked : Type 0) →
    List ℕ → Option (List ℕ) → Option (List ℕ) → Outcome → Exit → Option (List ℕ) → Type 0
WorksOn stranger did unasked path old new outcome exit line =
    ((stranger outcome ≡ None) × EndsFeed did outcome exit line)
    ⊎ ((name : List ℕ) × (stranger outcome ≡ Some name) × (exit ≡ Usage)
    × (line ≡ Some (stranger_text name path)) × Keeps old new × unasked)

-- The same, or memory was refused before.
abbrev pub TriesOn : (stranger : Outcome → Option (List ℕ)) → (did : Outcome → FeedEnd → Type 0) → (unasked : Type 0) →
    List ℕ → Option (List ℕ) → Option (List ℕ) → Outcome → Exit → Option (List ℕ) → Type 0
TriesOn stranger did unasked path old new outcome exit line =
    WorksOn stranger did unasked path old new outcome exit line
    ⊎ (LacksMemory exit line × Keeps old new × unasked)

-- Something that what feeds does with the settings in a file; it is not asked if there are none.
abbrev pub Works : (Option (List ℕ) → Type 0) → (stranger : Outcome → Option (List ℕ)) →
    (did : Outcome → FeedEnd → Type 0) → (unasked : Type 0) → List ℕ → (verbose : Bool) →
    Option (List ℕ) → Option (List ℕ) → Exit → Option (List ℕ) → Type 0
Works says stranger did unasked path verbose old new exit line =
    ((text : List ℕ) × (outcome : Outcome) × says (Some text) × Means text (Ok outcome)
    × WorksOn stranger did unasked path old new outcome exit line)
    ⊎ ((text : List ℕ) × says (Some text) × Refuses verbose path text exit line × Keeps old new × unasked)
    ⊎ (MissesFile says path exit line × Keeps old new × unasked)
    ⊎ (LacksMemory exit line × Keeps old new × unasked)

-- A drill from standard input, which holds this, if that is known.
abbrev pub DrillsInput : Option (List ℕ) →
    Option (List ℕ) → Option (List ℕ) → Exit → Option (List ℕ) → Type 0
DrillsInput holds old new exit line =
    ((text : List ℕ) × IfSome holds (λ octets. text ≡ octets) × Runs text (codes "standard input") old new exit line)
    ⊎ ((LosesInput exit line ⊎ LacksMemory exit line) × Keeps old new)

-- A drill from a file.
abbrev pub DrillsFile : (Option (List ℕ) → Type 0) → List ℕ →
    Option (List ℕ) → Option (List ℕ) → Exit → Option (List ℕ) → Type 0
DrillsFile says path old new exit line =
    ((text : List ℕ) × says (Some text) × Runs text path old new exit line)
    ⊎ (MissesFile says path exit line × Keeps old new)
    ⊎ LacksMemory exit line

-- What an order comes to, if this is known of the files and of what feeds, if standard input holds this, and if
-- standard output had and has these octets.
abbrev pub Does : (List ℕ → Option (List ℕ) → Type 0) → Feeding →
    Option (List ℕ) → Option (List ℕ) → Option (List ℕ) → Order → Exit → Option (List ℕ) → Type 0
Does says feeds holds old new DrillFromInput exit line = DrillsInput holds old new exit line
Does says feeds holds old new (Drill path) exit line = DrillsFile (says path.now) path.now old new exit line
Does says feeds holds old new (Check path verbose) exit line =
    Checks (says path.now) (reported verbose path.now) path.now verbose old new exit line
Does says feeds holds old new (PrintConf path verbose) exit line =
    Checks (says path.now) in_force path.now verbose old new exit line
Does says feeds holds old new (Owed path listing verbose) exit line =
    Works (says path.now) (λ conf. stranger_of listing conf) (λ conf end. feeds.listed conf listing verbose end)
    feeds.unasked path.now verbose old new exit line
Does says feeds holds old new (Feed path source drops_missing verbose) exit line =
    Works (says path.now) (λ conf. None) (λ conf end. feeds.fed conf (source_view source) drops_missing verbose end)
    feeds.unasked path.now verbose old new exit line
Does says feeds holds old new (Print text) exit line = Prints (string_bytes text) old new exit line
Does says feeds holds old new (Mistake what) exit line =
    (exit ≡ Usage) × (line ≡ Some (mistake_text (string_bytes what))) × Keeps old new

-- What a line, a feed's lines or nothing makes of standard error, which had and has these octets; nothing is known of
-- a line that could not be written.
abbrev pub Reports : Option (List ℕ) → Option (List ℕ) → Result Unit Error → Option (List ℕ) → Type 0
Reports old new reported None = Keeps old new
Reports old new reported (Some line) = OnOk reported (Appends old new line)
