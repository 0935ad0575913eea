-- What taking a line does to the marks of the stations.
use Rattle.std.specs.Prelude.{◌≡◌, ◌<◌, ◌+◌, ◌⊎◌, ℕ, List, [], ◌∷◌, length, max, nat_lt, slice_index, slice_index_or}
use Rattle.std.specs.Prelude.{slice_set, if◌then◌else◌, take, Contains, ◌≤◌}
use Rattle.funnel.specs.Line.{IsFunnelLine}
use Rattle.flusher.specs.Faults.{IsLineFault, IsNamedBy}
use Rattle.flusher.specs.declared.fault.PostFault.{PostFault}

-- If the peer of this name is named, and its mark is below the number, the mark is raised to it; otherwise it stays.
abbrev pub IsRaisedAt : ℕ → List (List ℕ) → List ℕ → ℕ → ℕ → Type 0
IsRaisedAt number named name old new = (Contains named name → new ≡ max old number)
    × ((Contains named name → ⊥) → new ≡ old)

-- the same at each of these peers
abbrev pub IsRaisedBy : ℕ → List (List ℕ) → List (List ℕ) → List ℕ → List ℕ → Type 0
IsRaisedBy number named names old new =
    (peer : ℕ) → peer < length names
    → IsRaisedAt number named (slice_index_or names peer []) (slice_index old peer) (slice_index new peer)

-- The marks of the peers that a valid line names are raised to its number if they are below it, and no others. A
-- malformed line raises none.
abbrev pub IsRaised : ℕ → List ℕ → List (List ℕ) → List ℕ → List ℕ → Type 0
IsRaised number line names old new =
    ((token id : List ℕ) (named : List (List ℕ)) → IsFunnelLine line token id named
    → IsRaisedBy number named names old new)
    × (((token id : List ℕ) (named : List (List ℕ)) → IsFunnelLine line token id named → ⊥) → new ≡ old)

-- A line of this number is refused: the first N peers, for some N, have taken it, as far as it names them, and none
-- after them. A station's fault, or Stranger, is that of the peer that comes next, which the valid line names.
pub record RefusesLine (number : ℕ) (line : List ℕ) (names : List (List ℕ)) (fault : PostFault) (old new : List ℕ) :
    Type 0 where
  pub reached : ℕ
  pub raised : IsRaised number line (take reached names) old new
  pub behind : (peer : ℕ) → reached ≤ peer → slice_index new peer ≡ slice_index old peer
  pub kinds : IsLineFault (λ at. (at ≡ reached) × IsNamedBy line names at) fault

-- The same of a valid line, which names these peers: it names the peer that comes next, whatever the fault is.
pub record RefusesGood (number : ℕ) (named names : List (List ℕ)) (fault : PostFault) (old new : List ℕ) : Type 0 where
  pub reached : ℕ
  pub raised : IsRaisedBy number named (take reached names) old new
  pub behind : (peer : ℕ) → reached ≤ peer → slice_index new peer ≡ slice_index old peer
  pub within : reached < length names
  pub names_it : Contains named (slice_index_or names reached [])
  pub kinds : IsLineFault (λ at. at ≡ reached) fault

-- how many of them were raised
abbrev pub rises : List ℕ → List ℕ → ℕ
rises [] new = 0
rises (m ∷ ms) [] = 0
rises (m ∷ ms) (n ∷ ns) = (if nat_lt m n then 1 else 0) + rises ms ns

-- One station, the k-th, of a peer of this name, took a line of this number, which names these peers: the marks, and
-- what was counted, before and after.
abbrev pub IsTakenAt : ℕ → List (List ℕ) → List ℕ → ℕ → List ℕ → List ℕ → ℕ → ℕ → Type 0
IsTakenAt number named name k old new a b =
    (Contains named name × (new ≡ slice_set old k (max (slice_index old k) number))
    × (b ≡ a + (if nat_lt (slice_index old k) number then 1 else 0)))
    ⊎ ((Contains named name → ⊥) × (new ≡ old) × (b ≡ a))
