-- What a connection counts (profile).
use Rattle.std.specs.Prelude.{List, Option, Some, None, length}
use Rattle.article_store.specs.declared.store.Found.{Found}
use Rattle.article_store.specs.declared.store.Found.TheVariants.{Article, Gone, Unsendable}
use Rattle.conn_core.specs.declared.outcome.Outcome.{Outcome}
use Rattle.conn_core.specs.declared.outcome.Outcome.TheVariants.{Final, Deferred, Lost, Back}
use Rattle.ledger_core.specs.declared.note.Cause.{Cause}
use Rattle.ledger_core.specs.declared.note.Cause.TheVariants as causes
use Rattle.ledger_core.specs.declared.note.FinalCode.{FinalCode}
use Rattle.ledger_core.specs.declared.note.FinalCode.TheVariants.{IhaveReceived, TakethisReceived, IhaveNotWanted}
use Rattle.ledger_core.specs.declared.note.FinalCode.TheVariants.{IhaveRejected, CheckNotWanted, TakethisRejected}
use Rattle.peer_counts.specs.Counts.{no_counts, sum_of}
use Rattle.peer_counts.specs.declared.counts.PeerCounts.{PeerCounts}

-- an answer that ends a debt: the article was taken (235, 239), not wanted (435, 438) or rejected (437, 439)
abbrev pub count_of_code : FinalCode → PeerCounts
count_of_code IhaveReceived = record no_counts { accepted = 1 }
count_of_code TakethisReceived = record no_counts { accepted = 1 }
count_of_code IhaveNotWanted = record no_counts { refused = 1 }
count_of_code CheckNotWanted = record no_counts { refused = 1 }
count_of_code IhaveRejected = record no_counts { rejected = 1 }
count_of_code TakethisRejected = record no_counts { rejected = 1 }

-- a debt that was lost, by its cause
abbrev pub count_of_cause : Cause → PeerCounts
count_of_cause causes.Missing = record no_counts { missing = 1 }
count_of_cause causes.Unsendable = record no_counts { unsendable = 1 }
count_of_cause causes.Limit = no_counts
count_of_cause causes.Deferred = no_counts

-- what became of a debt; one that goes back is not counted
abbrev pub count_of : Outcome → PeerCounts
count_of (Final verdict) = count_of_code verdict.code
count_of (Deferred deferral) = record no_counts { deferred = 1 }
count_of (Lost debt cause) = count_of_cause cause
count_of (Back debt) = no_counts

-- one debt was offered
abbrev pub offered_once : PeerCounts
offered_once = record no_counts { offered = 1 }

-- the peer agreed to a mode on one connection
abbrev pub made_once : PeerCounts
made_once = record no_counts { made = 1 }

-- the octets of an article that can be sent
abbrev pub sent_with : Found → PeerCounts
sent_with (Article text) = record no_counts { sent_octets = length text }
sent_with Gone = no_counts
sent_with Unsendable = no_counts

-- The counts after the next outcome was taken: one that was kept was counted before.
abbrev pub counts_after : (kept given : Option Outcome) → PeerCounts → PeerCounts
counts_after (Some kept) given counts = counts
counts_after None None counts = counts
counts_after None (Some outcome) counts = sum_of counts (count_of outcome)
