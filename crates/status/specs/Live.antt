-- What is said of a peer in a live report (profile).
use Rattle.std.specs.Prelude.{ℕ, ◌-◌, List, codes, Option, Some, None}
use Rattle.peer_counts.specs.declared.figures.PeerPhase.{PeerPhase}
use Rattle.peer_counts.specs.declared.figures.PeerPhase.TheVariants.{Idle, Up, Waiting, Failed}

-- the word for how a peer does
abbrev pub phase_word : PeerPhase → List ℕ
phase_word Idle = codes "idle"
phase_word Up = codes "up"
phase_word Waiting = codes "waiting"
phase_word Failed = codes "failed"

-- in how many seconds a peer is tried again; 0 if it is not, or at once
abbrev pub retry_in : (uptime : ℕ) → Option ℕ → ℕ
retry_in uptime (Some retry) = retry - uptime
retry_in uptime None = 0
