-- The status report (docs/FORMATS.md).
use Rattle.std.specs.Prelude.{ℕ, ◌+◌, ◌-◌, List, [], ◌∷◌, ◌++◌, length, replicate, codes, decimal, flat_map}
use Rattle.status.specs.declared.lines.PeerStatus.{PeerStatus}

abbrev pub spaces : ℕ → List ℕ
spaces count = replicate count 32

-- a text at the left of a column; a wider one pushes the rest
abbrev pub left : ℕ → List ℕ → List ℕ
left width text = text ++ spaces (width - length text)

-- a number at the right of a column, after one space
abbrev pub number : ℕ → ℕ → List ℕ
number width value = spaces (width - length (decimal value) + 1) ++ decimal value

-- the line of a peer
abbrev pub peer_text : PeerStatus → List ℕ
peer_text peer =
    left 20 peer.name.now
    ++ (number 10 peer.totals.taken
    ++ (number 10 peer.totals.answered
    ++ (number 10 peer.totals.dropped
    ++ (number 10 peer.totals.owed
    ++ (number 12 peer.totals.owed_bytes
    ++ 10 ∷ [])))))

-- the first line, which names the columns
abbrev pub header : List ℕ
header = codes "peer                      taken   answered    dropped       owed        bytes" ++ 10 ∷ []

-- the header, and a line for each peer in this order
abbrev pub report_text : List PeerStatus → List ℕ
report_text peers = header ++ flat_map peer_text peers
