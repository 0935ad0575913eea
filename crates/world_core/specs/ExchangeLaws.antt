-- What steps on connections (specs/Exchange.antt) make of all tapes, event by event, and when they change nothing.
use Rattle.std.specs.Prelude.{◌≡◌, ◌⊎◌, ℕ, Some, List, [], ◌∷◌, map, slice_get}
use Rattle.conn_core.specs.History.{Event as Happening}
use Rattle.conn_core.specs.declared.outcome.Outcome.{Outcome}
use Rattle.sections.specs.Tapes.{TapePast, IsReadTape}
use Rattle.world_core.specs.Past.{ConnPast, Life, Past, PeerPast, with_peer, with_tape}
use Rattle.world_core.specs.Safe.{IsSafe}
use Rattle.world_core.specs.Events.{AllDo, Claims, Event, Fails, Refuses, RefusesEnd, Returns, Settles, settling}
use Rattle.world_core.specs.Exchange.{AllSettleAt, FailsToOffer, HandsOver, IsConn, with_pair}
use Rattle.world_core.specs.Sound.{AreTied}
use Rattle.world_core.specs.declared.fault.Fault.{Fault}
use Rattle.world_core.specs.declared.output.Handed.{Handed as Handover}

-- each outcome goes to the peer at this rank
abbrev pub settle_events : (rank id now : ℕ) → List Outcome → List Event
settle_events rank id now outcomes = map (λ (outcome : Outcome). Settles rank id now outcome) outcomes

-- Outcomes that go to a peer in a step, taken or refused, are events of the tapes, one after another, and all tapes are
-- safe after each. An outcome that is refused is a refused event.
pub record OutcomesAreEvents : Type 0 where
  pub settled : (past : Past) (rank id now : ℕ) (peer later : PeerPast) (outcomes : List Outcome)
      → IsSafe past → slice_get past.peers rank ≡ Some peer → AllSettleAt id now peer outcomes later
      → AllDo past (settle_events rank id now outcomes) (with_peer past rank later)
  pub refused : (past : Past) (rank id now : ℕ) (peer : PeerPast) (outcome : Outcome) (fault : Fault)
      → slice_get past.peers rank ≡ Some peer → RefusesEnd (settling peer now outcome) peer.tape fault
      → Refuses (Settles rank id now outcome) past fault past

-- the least candidate is claimed, or claimed and given back; or there is none, and the tape may have been read
abbrev pub HandsByEvents : (rank id now : ℕ) → PeerPast → Past → Past → Type 0
HandsByEvents rank id now peer past later =
    AllDo past (Claims rank id now ∷ []) later
    ⊎ ((number : ℕ) × AllDo past (Claims rank id now ∷ Returns rank id number ∷ []) later)
    ⊎ ((tape : TapePast) × IsReadTape peer.tape tape × (later ≡ with_peer past rank (with_tape peer tape)))

-- the same of a debt that is handed over, or is not: either by such events, or because the claim, an event, is refused
pub record HandingIsEvents : Type 0 where
  pub handed : (past : Past) (id now : ℕ) (conn : ConnPast) (peer later : PeerPast) (handed : Handover)
      (transcript : List Happening)
      → IsSafe past → slice_get past.peers conn.rank ≡ Some peer → HandsOver id now conn peer handed transcript later
      → HandsByEvents conn.rank id now peer past (with_peer past conn.rank later)
  pub refused : (past : Past) (id now : ℕ) (conn : ConnPast) (peer later : PeerPast) (fault : Fault)
      → IsSafe past → slice_get past.peers conn.rank ≡ Some peer → FailsToOffer id now conn peer fault later
      → Fails past (Claims conn.rank id now ∷ []) fault (with_peer past conn.rank later)
      ⊎ HandsByEvents conn.rank id now peer past (with_peer past conn.rank later)

-- if a connection and its peer are put back as they were, then the world is as it was
abbrev pub PutBackIsSame : Type 0
PutBackIsSame = (life : Life) (id : ℕ) (conn : ConnPast) (peer : PeerPast) → AreTied life → IsConn id life conn peer
    → with_pair life id conn.rank conn peer ≡ life
