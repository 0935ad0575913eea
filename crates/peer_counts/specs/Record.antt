-- What is known of a peer (profile).
use Rattle.std.specs.Prelude.{ℕ, Bool, true, false, if◌then◌else◌}
use Rattle.peer_counts.specs.Figures.{figures_of, phase_of}
use Rattle.peer_counts.specs.declared.figures.PeerFigures.{PeerFigures}
use Rattle.peer_counts.specs.declared.figures.PeerPhase.{PeerPhase}
use Rattle.peer_counts.specs.declared.figures.PeerPhase.TheVariants.{Idle, Up, Waiting, Failed}
use Rattle.peer_counts.specs.declared.record.PeerRecord.{PeerRecord}

abbrev pub is_same : PeerPhase → PeerPhase → Bool
is_same Idle Idle = true
is_same Up Up = true
is_same Waiting Waiting = true
is_same Failed Failed = true
is_same Idle Up = false
is_same Idle Waiting = false
is_same Idle Failed = false
is_same Up Idle = false
is_same Up Waiting = false
is_same Up Failed = false
is_same Waiting Idle = false
is_same Waiting Up = false
is_same Waiting Failed = false
is_same Failed Idle = false
is_same Failed Up = false
is_same Failed Waiting = false

abbrev pub phase_in : PeerRecord → PeerPhase
phase_in peer = phase_of peer.first peer.second

-- what both feeders have, by what each has published last
abbrev pub figures_in : PeerRecord → PeerFigures
figures_in peer = figures_of peer.first peer.second peer.since

-- since when it is in its phase: since now if it was in another one
abbrev pub since_after : (old new : PeerRecord) → (now : ℕ) → ℕ
since_after old new now = if is_same (phase_in new) (phase_in old) then old.since else now
