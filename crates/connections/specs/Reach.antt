-- Whether a peer is down, over the connections of all feeders to it (profile).
use Rattle.std.specs.Prelude.{◌-◌, ◌&&◌, ℕ, Bool, false, not, nat_le, Option, Some, None}
use Rattle.connections.specs.declared.peer_reach.PeerReach.{PeerReach}
use Rattle.connections.specs.declared.peer_reach.PeerReach.TheVariants.{Up, Down}

-- how many of its connections have agreed to a mode
abbrev pub connections_of : PeerReach → ℕ
connections_of (Up connections) = connections
connections_of (Down since is_told) = 0

-- since when it is down
abbrev pub down_since : PeerReach → Option ℕ
down_since (Up connections) = None
down_since (Down since is_told) = Some since

-- whether it is down, and that was told
abbrev pub was_told : PeerReach → Bool
was_told (Up connections) = false
was_told (Down since is_told) = is_told

-- whether it is down for 2 seconds now, and that was not told
abbrev pub is_telling_due : PeerReach → (now : ℕ) → Bool
is_telling_due (Up connections) now = false
is_telling_due (Down since is_told) now = not is_told && nat_le 2 (now - since)
