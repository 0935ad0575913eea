-- The oldest texts are dropped.
use Rattle.std.proofs.Common.{◌≡◌, length}
use Rattle.connections.specs.Kept.{by_token, first_within, octets_in}
use Rattle.connections.proofs.kept_texts.drop_oldest.Given as goal

abbrev pub invariant-loop-octets : goal.invariant-loop-octets
invariant-loop-octets l =
    (l.octets ≡ octets_in l.texts.entries)
    × ((first_within 4194304 (by_token l.texts.entries) ≡ first_within 4194304 (by_token l.initial.texts.entries))
    × (l.texts.cap ≡ l.initial.texts.cap))

abbrev pub decreases-loop-octets : goal.decreases-loop-octets
decreases-loop-octets l = length l.texts.entries
