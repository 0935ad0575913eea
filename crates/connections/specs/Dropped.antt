-- Articles that were dropped, counted (profile).
use Rattle.std.specs.Prelude.{◌≡◌, ◌-◌, ◌^◌, Bool, true, false, List, ◌∷◌, [], Option, Some, None, length, min}
use Rattle.std.specs.Prelude.{if◌then◌else◌}
use Rattle.ledger_core.specs.declared.note.Cause.{Cause}
use Rattle.ledger_core.specs.declared.note.Cause.TheVariants.{Limit, Deferred, Missing, Unsendable}
use Rattle.connections.specs.declared.drop_count.DroppedArticle.{DroppedArticle}
use Rattle.connections.specs.declared.drop_count.DropCount.{DropCount}
use Rattle.connections.specs.declared.drop_count.PeerDrops.{PeerDrops}

-- the earlier of two, if its words are known
abbrev pub earlier_of : Option DroppedArticle → Option DroppedArticle → Option DroppedArticle
earlier_of (Some article) later = Some article
earlier_of None later = later

-- the first of these whose words are known, if they are given newest first
abbrev pub first_known : List (Option DroppedArticle) → Option DroppedArticle
first_known [] = None
first_known (article ∷ h) = earlier_of (first_known h) article

-- these were dropped, newest first
abbrev pub CountsAs : List (Option DroppedArticle) → DropCount → Type 0
CountsAs h count = (count.count ≡ min (length h) (2 ^ 64 - 1)) × (count.first ≡ first_known h)

abbrev pub is_missing : Cause → Bool
is_missing Limit = false
is_missing Deferred = false
is_missing Missing = true
is_missing Unsendable = false

abbrev pub is_unsendable : Cause → Bool
is_unsendable Limit = false
is_unsendable Deferred = false
is_unsendable Missing = false
is_unsendable Unsendable = true

-- those of these articles that were dropped for a cause of this kind
abbrev pub for_cause : (Cause → Bool) → List (Cause × Option DroppedArticle) → List (Option DroppedArticle)
for_cause kind [] = []
for_cause kind ((cause, article) ∷ h) = if kind cause then article ∷ for_cause kind h else for_cause kind h

-- these were dropped for a peer and why, newest first
abbrev pub Holds : List (Cause × Option DroppedArticle) → PeerDrops → Type 0
Holds h drops = CountsAs (for_cause is_missing h) drops.missing × CountsAs (for_cause is_unsendable h) drops.unsendable
