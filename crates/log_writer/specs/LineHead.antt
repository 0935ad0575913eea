-- What a line on standard error begins with (profile): its level, as sd-daemon(3) has it, and the time, as RFC 3339 has
-- it, with the process.
use Rattle.std.specs.Prelude.{◌≡◌, ◌⊎◌, ◌++◌, ◌<◌, ◌*ℤ◌, ◌+ℤ◌, ℕ, pos, Bool, true, false, List, [], Option, None, Some}
use Rattle.std.specs.Prelude.{codes, decimal}
use Rattle.jiff.specs.Words.{civil_nanos, iso_datetime_text, nanos_of_seconds}
use Rattle.jiff_core.specs.declared.civil.datetime.DateTime.{DateTime}
use Rattle.log.specs.declared.level.Level.{Level}
use Rattle.log.specs.declared.level.Level.TheVariants.{Error, Warn, Info, Debug, Trace}
use Rattle.log_writer.specs.declared.line_head.LineHead.{LineHead}

-- the prefix of a line of this level
abbrev pub mark_text : Level → List ℕ
mark_text Error = codes "<3>"
mark_text Warn = codes "<4>"
mark_text Info = codes "<6>"
mark_text Debug = codes "<7>"
mark_text Trace = codes "<7>"

-- the prefix, if lines have one
abbrev pub mark_if : Bool → Level → List ℕ
mark_if true level = mark_text level
mark_if false level = []

-- These octets show so many seconds since 1970: the date and the time in UTC; `-` after 9999.
abbrev pub IsTimeText : ℕ → List ℕ → Type 0
IsTimeText seconds text =
    ((253402207200 < seconds) × (text ≡ codes "-"))
    ⊎ ((shown : DateTime) × (civil_nanos shown ≡ pos seconds *ℤ pos 1000000000 +ℤ nanos_of_seconds (pos 0))
    × (text ≡ iso_datetime_text shown ++ codes "Z"))

-- the time of some moment, or `-`, and this process
abbrev pub IsStamp : ℕ → List ℕ → Type 0
IsStamp process text = (time : List ℕ)
    × ((time ≡ codes "-") ⊎ ((seconds : ℕ) × IsTimeText seconds time))
    × (text ≡ time ++ (codes " innfeed[" ++ (decimal process ++ codes "]: ")))

-- the same, if lines have it
abbrev pub IsStampIf : Option ℕ → List ℕ → Type 0
IsStampIf None text = text ≡ []
IsStampIf (Some process) text = IsStamp process text

-- what a line of this level begins with
abbrev pub IsHead : LineHead → Level → List ℕ → Type 0
IsHead head level text =
    (stamp : List ℕ) × IsStampIf head.process stamp × (text ≡ mark_if head.has_level level ++ stamp)
