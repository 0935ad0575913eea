-- A connection and its peer in the code: what they stand for, and what the steps on connections make of them.
use Rattle.std.specs.Prelude.{◌≡◌, ◌↔◌, ◌==◌, ◌+◌, ◌++◌, ℕ, Bool, true, false, None, Some, option_to_list, List, []}
use Rattle.std.specs.Prelude.{◌∷◌, map, slice_get, Contains, Option}
use Rattle.std.specs.List.{IsDistinct}
use Rattle.disk_model.specs.declared.Disk.{Ghosts}
use Rattle.conn_core.specs.History.{Event as Happening, outcomes, taken}
use Rattle.conn_core.specs.Stands.{StandsFor as ConnStands}
use Rattle.conn_core.specs.State.{untold_at}
use Rattle.conn_core.specs.declared.options.Options.{Options}
use Rattle.conn_core.specs.declared.outcome.Outcome.{Outcome}
use Rattle.peer_queue.specs.DebtPlace.{IsHeldBy}
use Rattle.peer_queue.specs.Settled.{key_in}
use Rattle.world_core.specs.Past.{ConnPast, PeerPast, options_of}
use Rattle.world_core.specs.Events.{settling}
use Rattle.world_core.specs.Exchange.{AllSettleAt, FailsToOffer, Follows, FollowsNot, HandsOver, SettlesAt, StopsAt}
use Rattle.world_core.specs.Exchange.{all_out, one_out, out_to, unsettled, with_transcript}
use Rattle.world_core.specs.Sound.{numbers_at}
use Rattle.world_core.specs.Stands.{HoldsTranscript, PeerStands, WaitsWith}
use Rattle.world_core.specs.Output.{View, Settled, view_of}
use Rattle.world_core.specs.declared.connection.Connection.{Connection}
use Rattle.world_core.specs.declared.fault.Fault.{Fault}
use Rattle.world_core.specs.declared.peer.Peer.{Peer}
use Rattle.world_core.specs.declared.output.Handed.{Handed as Handover}
use Rattle.world_core.specs.declared.output.Output.{Output}

-- what is reported of an outcome
abbrev pub settled_view : ℕ → ℕ → PeerPast → Outcome → View
settled_view id now peer outcome = Settled id (key_in outcome) (settling peer now outcome)

-- The connection holds at its peer exactly the numbers that it has, and it has none twice.
pub record IsTied (id : ℕ) (conn : ConnPast) (peer : PeerPast) : Type 0 where
  pub held : (number : ℕ) → IsHeldBy peer.places id number
      ↔ Contains (numbers_at (options_of peer.conf) conn) number
  pub once : IsDistinct (λ one other. one == other) (numbers_at (options_of peer.conf) conn)

-- the outcomes that a connection has still to give, the one that waits first
abbrev pub left_at : Connection → List Outcome
left_at connection = option_to_list connection.waiting ++ untold_at connection.conn

-- the outcome that waits, or the next, was taken from the connection; or there was none
abbrev pub TakesNext : Options → ConnPast → Option Outcome → Connection → Type 0
TakesNext options past None connection =
    (unsettled options past ≡ []) × (past.settled ≡ taken past.transcript)
    × ConnStands options connection.conn past.unread past.transcript
TakesNext options past (Some outcome) connection =
    (slice_get (outcomes options past.transcript) past.settled ≡ Some outcome)
    × (past.settled + 1 ≡ taken (out_to (past.settled + 1) past.transcript))
    × ConnStands options connection.conn past.unread (out_to (past.settled + 1) past.transcript)

-- these are added to what was reported
abbrev pub Reports : List Output → List View → List Output → Type 0
Reports was said outputs = map view_of outputs ≡ map view_of was ++ said

module _ {D : Type 0} {g : Ghosts D} where
  -- a connection of this number and its peer stand for these, and are tied
  pub record PairStands (id : ℕ) (conn : ConnPast) (past : PeerPast) (connection : Connection) (peer : Peer D g) :
      Type 0 where
    pub id_is : connection.conn.id.0 ≡ id
    pub rank : connection.rank ≡ conn.rank
    pub holds : HoldsTranscript past.conf conn connection
    pub waits : WaitsWith past.conf conn connection.waiting
    pub stands : PeerStands past peer
    pub tied : IsTied id conn past

  -- a step made this of the connection and its peer, and was reported
  pub record PairMade (T : List View → ConnPast → PeerPast → Type 0) (id : ℕ) (before : List Output)
      (connection : Connection) (peer : Peer D g) (outputs : List Output) : Type 0 where
    pub said : List View
    pub later_conn : ConnPast
    pub later : PeerPast
    pub makes : T said later_conn later
    pub outputs_are : Reports before said outputs
    pub stand : PairStands id later_conn later connection peer

  -- a step was refused, and left this of them
  pub record PairRefused (R : ConnPast → PeerPast → Type 0) (id : ℕ) (connection : Connection) (peer : Peer D g) :
      Type 0 where
    pub later_conn : ConnPast
    pub later : PeerPast
    pub refuses : R later_conn later
    pub stand : PairStands id later_conn later connection peer

  -- the next outcome went to the peer, and was reported
  pub record SettledOne (id now : ℕ) (conn : ConnPast) (past : PeerPast) (was : List Output) (connection : Connection)
      (peer : Peer D g) (outputs : List Output) : Type 0 where
    pub outcome : Outcome
    pub next : unsettled (options_of past.conf) conn
        ≡ outcome ∷ unsettled (options_of past.conf) (one_out conn)
    pub later : PeerPast
    pub settles : SettlesAt id now outcome past later
    pub outputs_are : Reports was (settled_view id now past outcome ∷ []) outputs
    pub stand : PairStands id (one_out conn) later connection peer

  -- there was none
  pub record SettledNone (id : ℕ) (conn : ConnPast) (past : PeerPast) (was : List Output) (connection : Connection)
      (peer : Peer D g) (outputs : List Output) : Type 0 where
    pub none : unsettled (options_of past.conf) conn ≡ []
    pub outputs_are : Reports was [] outputs
    pub stand : PairStands id conn past connection peer

  abbrev pub SettledNext : (more : Bool) → (id now : ℕ) → ConnPast → PeerPast → List Output → Connection → Peer D g
      → List Output → Type 0
  SettledNext true id now conn past was connection peer outputs = SettledOne id now conn past was connection peer
      outputs
  SettledNext false id now conn past was connection peer outputs = SettledNone id conn past was connection peer outputs

  -- the next outcome was refused
  pub record SettledNot (id now : ℕ) (conn : ConnPast) (past : PeerPast) (fault : Fault) (connection : Connection)
      (peer : Peer D g) : Type 0 where
    pub later_conn : ConnPast
    pub why : StopsAt now (unsettled (options_of past.conf) conn) past fault conn later_conn
    pub stand : PairStands id later_conn past connection peer

  -- this many outcomes, from the first on, went to the peer and were reported
  pub record SettledSome (id now : ℕ) (conn : ConnPast) (past : PeerPast) (was : List Output) (done : List Outcome)
      (later : PeerPast)
      (connection : Connection) (peer : Peer D g) (outputs : List Output) : Type 0 where
    pub split : unsettled (options_of past.conf) conn ≡ done ++ unsettled (options_of past.conf) (all_out done conn)
    pub settles : AllSettleAt id now past done later
    pub same_conf : later.conf ≡ past.conf
    pub outputs_are : Reports was (map (settled_view id now past) done) outputs
    pub stand : PairStands id (all_out done conn) later connection peer

  -- all outcomes did, and none waits
  pub record SettledAll (id now : ℕ) (conn : ConnPast) (past : PeerPast) (was : List Output) (connection : Connection)
      (peer : Peer D g) (outputs : List Output) : Type 0 where
    pub later : PeerPast
    pub some : SettledSome id now conn past was (unsettled (options_of past.conf) conn) later connection peer outputs

  -- what follows has come about, and was reported
  abbrev pub Followed : (id now : ℕ) → List Happening → ConnPast → PeerPast → List Output → Connection → Peer D g
      → List Output → Type 0
  Followed id now was conn past before connection peer outputs =
      PairMade (Follows id now was conn past) id before connection peer outputs

  -- what follows was refused
  abbrev pub FollowedNot : (id now : ℕ) → ConnPast → PeerPast → Fault → Connection → Peer D g → Type 0
  FollowedNot id now conn past fault connection peer =
      PairRefused (FollowsNot id now conn past fault) id connection peer

  -- ---- a debt is handed over

  pub record HandedOver (id now : ℕ) (conn : ConnPast) (past : PeerPast) (handed : Handover) (connection : Connection)
      (peer : Peer D g) : Type 0 where
    pub transcript : List Happening
    pub later : PeerPast
    pub hands : HandsOver id now conn past handed transcript later
    pub stand : PairStands id (with_transcript conn transcript) later connection peer

  pub record HandedNot (id now : ℕ) (conn : ConnPast) (past : PeerPast) (fault : Fault) (connection : Connection)
      (peer : Peer D g) : Type 0 where
    pub later : PeerPast
    pub why : FailsToOffer id now conn past fault later
    pub stand : PairStands id conn later connection peer
