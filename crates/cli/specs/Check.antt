-- The report of settings (docs/MANUAL.md).
use Rattle.std.specs.Prelude.{ℕ, Bool, true, false, List, [], ◌∷◌, ◌++◌, Option, None, Some, length, codes, decimal}
use Rattle.std.specs.Prelude.{flat_map}
use Rattle.feed_conf.specs.Advice.{advice}
use Rattle.feed_conf.specs.Explanation.{explanation}
use Rattle.feed_conf.specs.Reading.{Report}
use Rattle.feed_conf.specs.Settings.{Outcome}
use Rattle.feed_conf.specs.declared.fault.ConfFault.{ConfFault}

-- what became of a use that is reported
abbrev pub ending : Bool → List ℕ
ending true = codes " limited"
ending false = codes " ignored"

-- the line of a report
abbrev pub report_text : Report → List ℕ
report_text report =
    codes "line " ++ decimal report.line ++ codes ": " ++ report.key ++ ending report.limited ++ 10 ∷ []

-- the line on how many peers there are
abbrev pub count_text : ℕ → List ℕ
count_text count = codes "peers " ++ decimal count ++ 10 ∷ []

-- The advice on settings on standard error: with -v, what their reports mean for the feed.
abbrev pub advice_line : (verbose : Bool) → (path : List ℕ) → Outcome → Option (List ℕ)
advice_line true path outcome = Some (advice path outcome)
advice_line false path outcome = None

-- The explanation of a fault of the configuration with this text, with -v.
abbrev pub more_text : (verbose : Bool) → (path text : List ℕ) → ConfFault → List ℕ
more_text true path text fault = explanation path text fault
more_text false path text fault = []

-- a line for each report, in reading order, and the count of the peers
abbrev pub check_text : Outcome → List ℕ
check_text outcome = flat_map report_text outcome.reports ++ count_text (length outcome.peers)
