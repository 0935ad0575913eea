-- The families of samples that a live report has of each peer (profile).
use Rattle.std.specs.Prelude.{ℕ, Bool, true, false, List, [], ◌∷◌, codes, if◌then◌else◌}
use Rattle.peer_counts.specs.declared.figures.PeerPhase.{PeerPhase}
use Rattle.peer_counts.specs.declared.figures.PeerPhase.TheVariants as phases
use Rattle.status.specs.declared.family.Family.{Family}
use Rattle.status.specs.declared.family.Family.TheVariants.{Made, Offered, Accepted, Refused, Rejected, Deferred}
use Rattle.status.specs.declared.family.Family.TheVariants.{Missing, Unsendable, SentBytes, Taken, Answered, Dropped}
use Rattle.status.specs.declared.family.Family.TheVariants.{Queued, QueuedBytes, Connections, InFlight, Up, Failed}
use Rattle.status.specs.declared.live.LiveStatus.{LiveStatus}

-- its name, without the prefix that all have
abbrev pub name_of : Family → List ℕ
name_of Made = codes "connections_made_total"
name_of Offered = codes "offered_total"
name_of Accepted = codes "accepted_total"
name_of Refused = codes "refused_total"
name_of Rejected = codes "rejected_total"
name_of Deferred = codes "deferred_total"
name_of Missing = codes "missing_total"
name_of Unsendable = codes "unsendable_total"
name_of SentBytes = codes "sent_bytes_total"
name_of Taken = codes "taken_total"
name_of Answered = codes "answered_total"
name_of Dropped = codes "dropped_total"
name_of Queued = codes "queued"
name_of QueuedBytes = codes "queued_bytes"
name_of Connections = codes "connections"
name_of InFlight = codes "in_flight"
name_of Up = codes "up"
name_of Failed = codes "failed"

-- whether its samples only grow
abbrev pub kind_of : Family → List ℕ
kind_of Made = codes "counter"
kind_of Offered = codes "counter"
kind_of Accepted = codes "counter"
kind_of Refused = codes "counter"
kind_of Rejected = codes "counter"
kind_of Deferred = codes "counter"
kind_of Missing = codes "counter"
kind_of Unsendable = codes "counter"
kind_of SentBytes = codes "counter"
kind_of Taken = codes "counter"
kind_of Answered = codes "counter"
kind_of Dropped = codes "counter"
kind_of Queued = codes "gauge"
kind_of QueuedBytes = codes "gauge"
kind_of Connections = codes "gauge"
kind_of InFlight = codes "gauge"
kind_of Up = codes "gauge"
kind_of Failed = codes "gauge"

-- what its samples are
abbrev pub help_of : Family → List ℕ
help_of Made = codes "Connections on which the peer agreed to a mode."
help_of Offered = codes "Articles offered on a connection, each time that they were."
help_of Accepted = codes "Articles that the peer took (235, 239)."
help_of Refused = codes "Articles that the peer did not want (435, 438)."
help_of Rejected = codes "Articles that the peer rejected (437, 439)."
help_of Deferred = codes "Answers that an article is to be offered later (431, 436)."
help_of Missing = codes "Articles that were not in the spool, each time that they were wanted."
help_of Unsendable = codes "Articles that are in the spool and cannot be sent."
help_of SentBytes = codes "Octets of the articles that were sent, as the spool has them."
help_of Taken = codes "Articles that the peer was ever to get, by its tape."
help_of Answered = codes "Articles that the peer answered for good, by its tape."
help_of Dropped = codes "Articles that were dropped, by its tape."
help_of Queued = codes "Articles that the peer is owed."
help_of QueuedBytes = codes "Octets of tokens and message-ids that the peer is owed."
help_of Connections = codes "Connections on which the peer has agreed to a mode."
help_of InFlight = codes "Articles that are offered and not answered."
help_of Up = codes "Whether the peer has agreed to a mode on a connection that is open."
help_of Failed = codes "Whether the peer's tape failed."

-- whether a peer has agreed to a mode on a connection that is open
abbrev pub is_up : PeerPhase → Bool
is_up phases.Up = true
is_up phases.Idle = false
is_up phases.Waiting = false
is_up phases.Failed = false

-- whether its tape failed
abbrev pub is_failed : PeerPhase → Bool
is_failed phases.Failed = true
is_failed phases.Idle = false
is_failed phases.Up = false
is_failed phases.Waiting = false

-- the value of its sample of a peer
abbrev pub value_of : Family → LiveStatus → ℕ
value_of Made peer = peer.figures.counts.made
value_of Offered peer = peer.figures.counts.offered
value_of Accepted peer = peer.figures.counts.accepted
value_of Refused peer = peer.figures.counts.refused
value_of Rejected peer = peer.figures.counts.rejected
value_of Deferred peer = peer.figures.counts.deferred
value_of Missing peer = peer.figures.counts.missing
value_of Unsendable peer = peer.figures.counts.unsendable
value_of SentBytes peer = peer.figures.counts.sent_octets
value_of Taken peer = peer.totals.taken
value_of Answered peer = peer.totals.answered
value_of Dropped peer = peer.totals.dropped
value_of Queued peer = peer.totals.owed
value_of QueuedBytes peer = peer.totals.owed_bytes
value_of Connections peer = peer.figures.connections
value_of InFlight peer = peer.figures.in_flight
value_of Up peer = (if is_up peer.figures.phase then 1 else 0)
value_of Failed peer = (if is_failed peer.figures.phase then 1 else 0)

-- all families, in the order in which they are written
abbrev pub all_families : List Family
all_families =
    Made ∷ Offered ∷ Accepted ∷ Refused ∷ Rejected ∷ Deferred
    ∷ Missing ∷ Unsendable ∷ SentBytes ∷ Taken ∷ Answered ∷ Dropped
    ∷ Queued ∷ QueuedBytes ∷ Connections ∷ InFlight ∷ Up ∷ Failed ∷ []
