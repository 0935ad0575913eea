use Rattle.std.specs.Prelude.{◌≡◌, ℕ, List, [], Some}
use Rattle.funnel_files.specs.Lines.{HasGiven, left_of}
use Rattle.peer_queue.specs.Words.{ledger_of}
use Rattle.backlog_files.proofs.Reach.{Reaches}
use Rattle.backlog_files.proofs.import.take_in.Given as goal

-- what was given so far was taken in, and the source is still open
abbrev pub invariant-loop : goal.invariant-loop
invariant-loop g l = ((octets : List ℕ) → HasGiven l.initial.lines [] [] → left_of l.initial.lines ≡ Some octets
    → Reaches octets (ledger_of l.initial.peer.station) (ledger_of l.peer.station) l.import.number l.import.report l.lines)
    × (l.peer.name ≡ l.initial.peer.name)
    × ((ledger_of l.peer.station).closed ≡ (ledger_of l.initial.peer.station).closed)
