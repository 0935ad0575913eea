-- What steps report, as the lines of the script's format (docs/FORMATS.md), each with its LF.
use Rattle.std.specs.Prelude.{ℕ, List, [], ◌∷◌, ◌++◌, codes, decimal, flat_map}
use Rattle.funnel.specs.Faults.{line_fault_name}
use Rattle.ledger_core.specs.Codes.{cause_name, code_number}
use Rattle.ledger_core.specs.Keys.{key_text}
use Rattle.reply_reader.specs.Faults.{reply_fault_name}
use Rattle.conn_core.specs.declared.reason.Reason.{Reason}
use Rattle.conn_core.specs.declared.reason.Reason.TheVariants.{Greeting, Reader, Unmatched, Ended, Timeout, Broken}
use Rattle.conn_core.specs.declared.reason.Reason.TheVariants.{Quit}
use Rattle.peer_queue.specs.declared.limits.Owed.{Owed as Answer}
use Rattle.peer_queue.specs.declared.limits.Owed.TheVariants.{New, Already}
use Rattle.peer_queue.specs.declared.settled.Settled.{Settled as Settling}
use Rattle.peer_queue.specs.declared.settled.Settled.TheVariants.{Answered, Dropped, Later, Ready}
use Rattle.world_core.specs.Output.{Bad, Closed, Connected, Handed, Imported, Mark, Need, SentLine, Owed, Rotated, View}
use Rattle.world_core.specs.Output.{Settled, Shed, Stopped, Taken}
use Rattle.world_core.specs.declared.output.Handed.{Handed as Handover}
use Rattle.world_core.specs.declared.output.Handed.TheVariants.{Busy, Closed as HasClosed, Debt, Nothing}

-- a peer that a line names
abbrev pub owed_text : List ℕ × Answer → List ℕ
owed_text (name, New) = 32 ∷ name ++ codes " new"
owed_text (name, Already) = 32 ∷ name ++ codes " already"

-- what became of the debt of this key
abbrev pub settled_text : ℕ → Settling → List ℕ
settled_text key (Answered code) = codes " final " ++ key_text key ++ 32 ∷ decimal (code_number code)
settled_text key (Later moment) = codes " later " ++ key_text key ++ 32 ∷ decimal moment
settled_text key (Dropped cause) = codes " drop " ++ key_text key ++ 32 ∷ cause_name cause
settled_text key Ready = codes " back " ++ key_text key

-- what became of the candidate that was to be handed over
abbrev pub handed_text : Handover → List ℕ
handed_text (Debt key) = codes " hand " ++ key_text key
handed_text Nothing = codes " none"
handed_text Busy = codes " busy"
handed_text HasClosed = codes " closed"

-- why a connection closed
abbrev pub reason_text : Reason → List ℕ
reason_text (Greeting code) = codes "Greeting " ++ decimal code
reason_text (Reader fault) = codes "Reader " ++ reply_fault_name fault
reason_text Unmatched = codes "Unmatched"
reason_text (Ended code) = codes "Ended " ++ decimal code
reason_text Timeout = codes "Timeout"
reason_text Broken = codes "Broken"
reason_text Quit = codes "Quit"

-- a space and each key, or ` -` if there is none
abbrev pub keys_text : List ℕ → List ℕ
keys_text [] = codes " -"
keys_text (key ∷ rest) = flat_map (λ (k : ℕ). 32 ∷ key_text k) (key ∷ rest)

-- what is reported, without its LF; a connection is written as `c` and its number
abbrev pub output_text : View → List ℕ
output_text (Owed number peers) = decimal number ++ flat_map owed_text peers
output_text (Bad number fault) = decimal number ++ codes " bad " ++ line_fault_name fault
output_text (Taken mark) = codes "taken " ++ decimal mark
output_text (Connected connection name) = 99 ∷ decimal connection ++ 32 ∷ name
output_text (Handed connection handed) = 99 ∷ decimal connection ++ handed_text handed
output_text (Settled connection key settled) = 99 ∷ decimal connection ++ settled_text key settled
output_text (SentLine connection line) = 99 ∷ decimal connection ++ 62 ∷ line
output_text (Need connection key) = 99 ∷ decimal connection ++ codes " need " ++ key_text key
output_text (Closed connection reason) = 99 ∷ decimal connection ++ codes " closed " ++ reason_text reason
output_text (Shed name keys) = name ++ codes " shed" ++ keys_text keys
output_text (Rotated name generation) = name ++ codes " rotated " ++ decimal generation
output_text (Imported name source new) = name ++ codes " imported " ++ decimal source ++ 32 ∷ decimal new
output_text Stopped = codes "stopped"
output_text (Mark name mark owes) = name ++ codes " mark " ++ decimal mark ++ codes " owes" ++ keys_text owes

-- the line of what is reported
abbrev pub line_text : View → List ℕ
line_text said = output_text said ++ 10 ∷ []
