-- What events keep of every peer.
use Rattle.std.specs.Prelude.{◌≡◌}
use Rattle.std.specs.List.{AllZip}
use Rattle.sections.specs.Tapes.{StaysAcknowledged}
use Rattle.world_core.specs.Past.{Past, PeerPast}

-- a peer has the same settings, and its acknowledged notes are still acknowledged
abbrev pub PeerStays : PeerPast → PeerPast → Type 0
PeerStays was now = (now.conf ≡ was.conf) × StaysAcknowledged was.tape now.tape

-- the same of each peer
abbrev pub PeersStay : Past → Past → Type 0
PeersStay was now = AllZip PeerStays was.peers now.peers
