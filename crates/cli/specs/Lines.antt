-- The lines on standard error (docs/MANUAL.md).
use Rattle.std.specs.Prelude.{ℕ, List, [], ◌∷◌, ◌++◌, codes, decimal}
use Rattle.drill.specs.Words.{why_words}
use Rattle.drill.specs.declared.ending.Refusal.{Refusal}
use Rattle.drill.specs.declared.ending.TapeRefusal.{TapeRefusal}
use Rattle.drill_script.specs.DiskName.{tape_word}
use Rattle.feed_conf.specs.Faults.{conf_fault_name}
use Rattle.feed_conf.specs.declared.fault.ConfFault.{ConfFault}
use Rattle.cli.specs.FeedLines.{failed_text}

-- a configuration's fault
abbrev pub config_text : ConfFault → List ℕ
config_text fault = codes "config line " ++ decimal fault.line ++ codes ": " ++ conf_fault_name fault.kind ++ 10 ∷ []

-- the line of a script that was refused, of a file or of standard input
abbrev pub refusal_text : List ℕ → Refusal → List ℕ
refusal_text source refusal =
    source ++ codes ": line " ++ decimal refusal.line ++ codes ": " ++ why_words refusal.why ++ 10 ∷ []

-- the tape of a peer of a script that was refused, or of its intake
abbrev pub no_tape_text : TapeRefusal → List ℕ
no_tape_text refusal = failed_text (tape_word refusal.peer) refusal.fault

-- a file that cannot be read
abbrev pub unread_text : List ℕ → List ℕ
unread_text path = codes "cannot read " ++ path ++ 10 ∷ []

-- the same, after the reason in the system's words
abbrev pub unread_lines : (path reason : List ℕ) → List ℕ
unread_lines path reason = path ++ (codes ": " ++ reason ++ 10 ∷ []) ++ unread_text path

-- standard input that cannot be read, for this reason
abbrev pub input_text : List ℕ → List ℕ
input_text reason = codes "innfeed: cannot read standard input: " ++ reason ++ 10 ∷ []

-- standard output that cannot be written, for this reason
abbrev pub output_text : List ℕ → List ℕ
output_text reason = codes "innfeed: cannot write standard output: " ++ reason ++ 10 ∷ []

-- a mistake in the arguments, and the usage
abbrev pub mistake_text : List ℕ → List ℕ
mistake_text what =
    codes "innfeed: " ++ what
    ++ codes "; usage: innfeed -c FILE [-C] [-x] [-v] [--log-time] [--owed [--all] [--peer NAME ..] [--summary]] "
    ++ codes "[--follow] [--tidy] [--expired] [FUNNEL] | innfeed -c FILE --print-conf | innfeed --drill FILE"
    ++ codes " | innfeed < SCRIPT" ++ 10 ∷ []

-- that something is no peer of the configuration in the file at this path, and what to do
abbrev pub no_peer_of : (path : List ℕ) → List ℕ
no_peer_of path =
    codes " is no peer of " ++ path ++ codes "; name one of its peers, or add --all for a name that is none\n"

-- a name that is no peer
abbrev pub stranger_text : (name path : List ℕ) → List ℕ
stranger_text name path = codes "innfeed: " ++ name ++ no_peer_of path
