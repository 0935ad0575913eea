-- What passes through the queue (profile): what was sent is what was received, followed by what the queue holds. At
-- most one pass may push, and it has the list of what was sent; at most one may pop, and it has the list of what was
-- received. Both know the ledger onto which the notes go.
use Rattle.std.specs.Prelude.{◌≡◌, ℕ, Bool, true, false, List, [], ◌∷◌, ◌++◌, Option}
use mathlib.Core.Option.{some}
use lib.ListN.{get_elem?}
use Rattle.crossbeam_queue.specs.Fifo.{Held, Pops, Pushes}
use Rattle.crossbeam_queue.specs.Passes.{Pass}
use Rattle.crossbeam_queue.specs.declared.array_queue.Doing.{Doing}
use Rattle.crossbeam_queue.specs.declared.array_queue.Slotted.{Slotted}
use Rattle.ledger_core.specs.declared.note.Note.{Note}
use Rattle.ledger_core.specs.State.{State, start}
use Rattle.note_queue.specs.declared.rule.PassLog.{PassLog}

abbrev pub pass_log : (pushes pops : Bool) → (sent_on got_on : State) → (sent got : List Note) → PassLog
pass_log pushes pops sent_on got_on sent got =
    record { pushes = pushes; pops = pops; sent_on = sent_on; got_on = got_on; sent = sent; got = got }

-- the pass of a new queue, which may do both
abbrev pub begun : PassLog
begun = pass_log true true start start [] []

-- a pass that may push, and has sent these notes onto this ledger
abbrev pub may_push : State → List Note → PassLog
may_push ledger sent = pass_log true false ledger start sent []

-- a pass that may pop, and has received these
abbrev pub may_pop : State → List Note → PassLog
may_pop ledger got = pass_log false true start ledger [] got

-- a pass that may do nothing more
abbrev pub idle : PassLog
idle = pass_log false false start start [] []

-- The pass at this port knows what was sent if it may push, and then it is the writer; and what was received if it may
-- pop, and then it is the reader.
abbrev pub Knows : (writer reader : ℕ) → State → (sent got : List Note) → ℕ → PassLog → Type 0
Knows writer reader base sent got port log =
    (log.pushes ≡ true → (port ≡ writer) × (log.sent_on ≡ base) × (log.sent ≡ sent))
    × (log.pops ≡ true → (port ≡ reader) × (log.got_on ≡ base) × (log.got ≡ got))

abbrev pub Relayed : List Note → List PassLog → Type 0
Relayed items logs =
    (writer : ℕ) × (reader : ℕ) × (base : State) × (sent : List Note) × (got : List Note) × (sent ≡ got ++ items)
    × ((port : ℕ) (log : PassLog) → get_elem? logs port ≡ some log → Knows writer reader base sent got port log)

-- what a pass knows when it has sent a note
abbrev pub with_sent : PassLog → Note → PassLog
with_sent log note = record log { sent = log.sent ++ note ∷ [] }

-- and when it has received one
abbrev pub with_got : PassLog → Note → PassLog
with_got log note = record log { got = log.got ++ note ∷ [] }

-- under this rule a pass that may push puts its note after all others, and has then sent it
abbrev pub AllowsPushes : (List Note → List PassLog → Type 0) → Type 0
AllowsPushes holds =
    (room port : ℕ) (log : PassLog) (note : Note) → log.pushes ≡ true
    → Pushes holds room port log note (λ later. later ≡ with_sent log note)

-- under this rule a pass that may pop takes the oldest note, and has then received it
abbrev pub AllowsPops : (List Note → List PassLog → Type 0) → Type 0
AllowsPops holds =
    (port : ℕ) (log : PassLog) → log.pops ≡ true → Pops holds port log (λ note later. later ≡ with_got log note)

-- the rule holds of a queue of these items, one of whose passes knows this
abbrev pub HoldsWith : (List Note → List PassLog → Type 0) → PassLog → List Note → Type 0
HoldsWith holds log items = (logs : List PassLog) × (port : ℕ) × holds items logs × (get_elem? logs port ≡ some log)

-- at one moment the queue held `count` notes, and one of its passes knew this
abbrev pub WasSeen : (List Note → List PassLog → Type 0) → ℕ → PassLog → Type 0
WasSeen holds count log = Held count (HoldsWith holds log)

-- the pass is of this queue
abbrev pub IsAt : {Q A : Type 0} → Slotted (Option Note) (Doing Note PassLog) Q A → Pass Note PassLog → Type 0
IsAt queue pass = pass.table_id ≡ queue.table.shared.table_id
