-- Lines of the funnel that go nowhere, as they are counted.
use Rattle.std.specs.Prelude.{◌≡◌, ◌⊎◌, ◌<◌, ℕ, Bool, List, ◌∷◌, [], ◌++◌, map, length, All}
use Rattle.std.specs.Prelude.{IsTrue, if◌then◌else◌}
use Rattle.std.specs.List.{list_all, list_any}
use Rattle.std.specs.Str.{bytes_eq}
use Rattle.funnel.specs.Malformed.{one_more}
use Rattle.kept_lines.specs.Names.{is_named}
use Rattle.intake.specs.declared.nowhere.UnknownPeer.{UnknownPeer}
use Rattle.intake.specs.declared.nowhere.UnknownPeers.{UnknownPeers}

-- whether a peer of this name is among these
abbrev pub has_name : List UnknownPeer → List ℕ → Bool
has_name named name = list_any (λ peer. bytes_eq peer.name name) named

-- a peer after a line that names these is counted
abbrev pub counted : List (List ℕ) → UnknownPeer → UnknownPeer
counted names peer = if is_named names peer.name then record peer { lines = one_more peer.lines } else peer

-- whether peers of all these names are among those
abbrev pub has_all : List UnknownPeer → List (List ℕ) → Bool
has_all named names = list_all (has_name named) names

-- Nothing changes if the peer is logged by name already, or there is no room; otherwise it is from now on, with no
-- line counted yet.
abbrev pub KeepsOne : List ℕ → UnknownPeers → UnknownPeers → Type 0
KeepsOne name old new =
    ((new ≡ old) × (length old.named.items < 16 → IsTrue (has_name old.named.items name)))
    ⊎ ((peer : UnknownPeer) × (length old.named.items < 16) × (peer.name ≡ name) × (peer.lines ≡ 0)
    × (new.named.items ≡ old.named.items ++ peer ∷ []) × (new.others ≡ old.others))

-- Some of these peers are logged by name from now on, after the others, with no line counted yet; all of them, unless
-- 16 are.
pub record KeepsAll (names : List (List ℕ)) (old new : UnknownPeers) : Type 0 where
  pub fresh : List UnknownPeer
  pub named : new.named.items ≡ old.named.items ++ fresh
  pub no_line : All (λ peer. peer.lines ≡ 0) fresh
  pub others : new.others ≡ old.others
  pub room : length new.named.items < 16 → IsTrue (has_all new.named.items names)

-- A line that names these unknown peers is counted: once at each of them that is logged by name, and once among the
-- others if it names a further one. Peers are logged by name from their first line on, until 16 are.
pub record AddsLine (names : List (List ℕ)) (old new : UnknownPeers) : Type 0 where
  pub fresh : List UnknownPeer
  pub no_line : All (λ peer. peer.lines ≡ 0) fresh
  pub named : new.named.items ≡ map (counted names) (old.named.items ++ fresh)
  pub others : new.others ≡ (if has_all new.named.items names then old.others else one_more old.others)
  pub room : length new.named.items < 16 → IsTrue (has_all new.named.items names)
