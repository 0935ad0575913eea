-- The live report as a JSON object (RFC 8259; docs/FORMATS.md).
use Rattle.std.specs.Prelude.{ℕ, ◌-◌, List, [], ◌∷◌, ◌++◌, codes, decimal, flat_map}
use Rattle.status.specs.Live.{phase_word, retry_in}
use Rattle.status.specs.Pieces.{escaped}
use Rattle.status.specs.declared.live.LiveReport.{LiveReport}
use Rattle.status.specs.declared.live.LiveStatus.{LiveStatus}

-- a member of an object that is a number, after another member
abbrev pub number : (name : List ℕ) → ℕ → List ℕ → List ℕ
number name value rest = 44 ∷ 34 ∷ name ++ (34 ∷ 58 ∷ decimal value ++ rest)

-- a member of an object that is a string, after another member
abbrev pub string : (name text : List ℕ) → List ℕ → List ℕ
string name text rest = 44 ∷ 34 ∷ name ++ (34 ∷ 58 ∷ 34 ∷ text ++ (34 ∷ rest))

-- the object of a peer, of which this is the name and the state, since when it has that, and when it is tried again
abbrev pub row_text : (name state : List ℕ) → (since retry : ℕ) → LiveStatus → List ℕ
row_text name state since retry peer =
    let counts = peer.figures.counts in
    codes "{\"name\":\"" ++ (escaped name ++ (34
    ∷ string (codes "state") state (
    number (codes "since") since (
    number (codes "retry_in") retry (
    string (codes "reason") (escaped peer.reason.now) (
    number (codes "connections") peer.figures.connections (
    number (codes "in_flight") peer.figures.in_flight (
    number (codes "made") counts.made (
    number (codes "offered") counts.offered (
    number (codes "accepted") counts.accepted (
    number (codes "refused") counts.refused (
    number (codes "rejected") counts.rejected (
    number (codes "deferred") counts.deferred (
    number (codes "missing") counts.missing (
    number (codes "unsendable") counts.unsendable (
    number (codes "sent_octets") counts.sent_octets (
    number (codes "taken") peer.totals.taken (
    number (codes "answered") peer.totals.answered (
    number (codes "dropped") peer.totals.dropped (
    number (codes "queued") peer.totals.owed (
    number (codes "queued_octets") peer.totals.owed_bytes (
    codes "}"))))))))))))))))))))))

-- the object of a peer in this second of the run
abbrev pub peer_text : (uptime : ℕ) → LiveStatus → List ℕ
peer_text uptime peer =
    row_text peer.name.now (phase_word peer.figures.phase) (uptime - peer.figures.since)
    (retry_in uptime peer.figures.retry) peer

-- the object of a peer after that of another, on a line of its own
abbrev pub next_text : (uptime : ℕ) → LiveStatus → List ℕ
next_text uptime peer = 44 ∷ 10 ∷ peer_text uptime peer

-- the objects of all peers, each on a line of its own
abbrev pub peers_text : (uptime : ℕ) → List LiveStatus → List ℕ
peers_text uptime [] = []
peers_text uptime (peer ∷ peers) = (10 ∷ peer_text uptime peer) ++ flat_map (next_text uptime) peers

-- what comes before the peers
abbrev pub head_text : LiveReport → List ℕ
head_text report =
    codes "{\"version\":1"
    ++ number (codes "written") report.written (
    number (codes "started") report.started (
    number (codes "uptime") report.uptime (
    number (codes "acknowledged") report.acknowledged (
    codes ",\"peers\":["))))

-- the whole object, and a line end
abbrev pub json_text : LiveReport → List ℕ
json_text report = head_text report ++ (peers_text report.uptime report.peers.now ++ (10 ∷ 93 ∷ 125 ∷ 10 ∷ []))
