-- The steps on connections (docs/FORMATS.md): each puts something into a transcript. Then the outcomes go to the peer's
-- station, oldest first; the output counts as sent; and the wanted article, and the reason of a close, are reported.
-- Each step is stated of the connection and its peer alone, and puts both back into the world (`OnPair`). What this
-- makes of all tapes, event by event, is a law (specs/ExchangeLaws.antt).
use Rattle.std.specs.Prelude.{◌≡◌, ◌⊎◌, ◌+◌, ◌<◌, ◌^◌, ℕ, false, None, Some, List, [], ◌∷◌, ◌++◌, length, drop}
use Rattle.std.specs.Prelude.{if◌then◌else◌, map, nat_lt, slice_get}
use Rattle.ledger_core.specs.State.{Owing}
use Rattle.article_store.specs.declared.store.Found.{Found}
use Rattle.conn_core.specs.Commands.{Handing}
use Rattle.conn_core.specs.History.{Event as Happening, Broke, Handed as HandedIn, Offered, Sent, Taken, Tick, after}
use Rattle.conn_core.specs.History.{need, noted, outcomes, output, outside, reason, taken}
use Rattle.conn_core.specs.Receipt.{IsHandedAs, Receives, ReceivesSome}
use Rattle.conn_core.specs.Stands.{left_behind, ready_of}
use Rattle.conn_core.specs.declared.options.Options.{Options}
use Rattle.conn_core.specs.declared.outcome.Outcome.{Outcome}
use Rattle.conn_core.specs.declared.ready.Ready.TheVariants.{Busy as NoRoom, Shut, Yes}
use Rattle.peer_queue.specs.DebtPlace.{IsHeldBy, Ready, least_candidate, moved}
use Rattle.peer_queue.specs.Settled.{IsEnded, key_in, settled_by}
use Rattle.peer_queue.specs.declared.limits.Limits.{Limits}
use Rattle.sections.specs.Tapes.{TapePast, IsReadTape}
use Rattle.world_core.specs.Past.{ConnPast, Life, PeerPast, conn_at, limits_of, options_of, rank_of}
use Rattle.world_core.specs.Past.{with_conn, with_past, with_peer, with_places, with_tape}
use Rattle.world_core.specs.Events.{IsCandidate, RefusesClaim, RefusesEnd, claimed_peer, settled, settling}
use Rattle.world_core.specs.Tapes.{HasRoom}
use Rattle.world_core.specs.Output.{Connected, Handed, SentLine, View, Settled, closed_view, lines_in, need_view}
use Rattle.world_core.specs.declared.fault.Fault.{Fault}
use Rattle.world_core.specs.declared.fault.Fault.TheVariants.{CountFull, NoConnection, NoMemory, NoPeer, NotNeeded}
use Rattle.world_core.specs.declared.output.Handed.{Handed as Handover}
use Rattle.world_core.specs.declared.output.Handed.TheVariants.{Busy, Closed, Debt, Nothing}

-- ---- what follows a step on a connection

-- the outcomes that have not gone to its peer yet
abbrev pub unsettled : Options → ConnPast → List Outcome
unsettled options conn = drop conn.settled (outcomes options conn.transcript)

-- one more outcome is taken from a connection, unless this many are taken already
abbrev pub out_to : ℕ → List Happening → List Happening
out_to count h = if nat_lt (taken h) count then Taken ∷ h else h

-- the next outcome goes to the peer, and is taken, unless it was taken before
abbrev pub one_out : ConnPast → ConnPast
one_out conn =
    record conn { transcript = out_to (conn.settled + 1) conn.transcript; settled = conn.settled + 1 }

-- all these do, one after another
abbrev pub all_out : List Outcome → ConnPast → ConnPast
all_out [] conn = conn
all_out (outcome ∷ rest) conn = all_out rest (one_out conn)

-- the next is taken, unless it was before, and waits, since its peer refuses it
abbrev pub waiting : ConnPast → ConnPast
waiting conn = record conn { transcript = out_to (conn.settled + 1) conn.transcript }

-- the connection once all have gone to the peer
abbrev pub settled_out : Options → ConnPast → ConnPast
settled_out options conn = all_out (unsettled options conn) conn

-- a connection with this transcript
abbrev pub with_transcript : ConnPast → List Happening → ConnPast
with_transcript conn h = record conn { transcript = h }

-- its output counts as sent, and once closed it holds no octets back
abbrev pub sent_all : Options → ConnPast → ConnPast
sent_all options conn = record conn {
  unread = left_behind options conn.unread conn.transcript;
  transcript = noted options conn.transcript (Sent (length (output options conn.transcript)));
}

-- what is left of the connection then
abbrev pub followed_up : Options → ConnPast → ConnPast
followed_up options conn = sent_all options (settled_out options conn)

-- an outcome of the connection of this number goes to its peer
pub record SettlesAt (id now : ℕ) (outcome : Outcome) (peer later : PeerPast) : Type 0 where
  pub works : peer.tape.broken ≡ false
  pub held : IsHeldBy peer.places id (key_in outcome)
  pub room : IsEnded (settling peer now outcome) → HasRoom peer.tape
  pub changed : later ≡ settled now outcome peer

-- these outcomes go to the peer, one after another
pub data AllSettleAt (id now : ℕ) (begun : PeerPast) : List Outcome → PeerPast → Type 0 where
  None_settled : AllSettleAt id now begun [] begun
  One_settled : (outcomes : List Outcome) (outcome : Outcome) (peer later : PeerPast)
      → AllSettleAt id now begun outcomes peer → SettlesAt id now outcome peer later
      → AllSettleAt id now begun (outcomes ++ outcome ∷ []) later

-- what is reported then, if the connection's transcript was this before the step
abbrev pub exchange_views : Limits → Options → (id now : ℕ) → (was : List Happening) → ConnPast → List View
exchange_views limits options id now was conn =
    map (λ (outcome : Outcome). Settled id (key_in outcome) (settled_by limits now outcome)) (unsettled options conn)
    ++ (map (SentLine id) (lines_in (output options (settled_out options conn).transcript))
    ++ (need_view id (need options (settled_out options conn).transcript)
    ++ closed_view id (reason options was) (reason options (settled_out options conn).transcript)))

-- The connection is this now, and had that transcript before the step: what follows has come about, and is reported.
pub record Follows (id now : ℕ) (was : List Happening) (conn : ConnPast) (peer : PeerPast) (said : List View)
    (later_conn : ConnPast) (later : PeerPast) : Type 0 where
  pub settles : AllSettleAt id now peer (unsettled (options_of peer.conf) conn) later
  pub outputs_are : said ≡ exchange_views (limits_of peer.conf) (options_of peer.conf) id now was conn
  pub changed : later_conn ≡ followed_up (options_of peer.conf) conn

-- Why no further outcome of these goes to the peer, and what becomes of the connection: memory for the report is
-- refused; or the first of these outcomes is refused, and waits.
abbrev pub StopsAt : (now : ℕ) → List Outcome → PeerPast → Fault → (conn later : ConnPast) → Type 0
StopsAt now outcomes peer fault conn later =
    ((fault ≡ NoMemory) × (later ≡ conn))
    ⊎ ((outcome : Outcome) × (rest : List Outcome) × (outcomes ≡ outcome ∷ rest)
    × RefusesEnd (settling peer now outcome) peer.tape fault × (later ≡ waiting conn))

-- Only a prefix of the outcomes went to the peer; the others have not gone yet, and no octet counts as sent.
pub record FollowsNot (id now : ℕ) (conn : ConnPast) (peer : PeerPast) (fault : Fault) (later_conn : ConnPast)
    (later : PeerPast) : Type 0 where
  pub done : List Outcome
  pub left : List Outcome
  pub split : unsettled (options_of peer.conf) conn ≡ done ++ left
  pub settles : AllSettleAt id now peer done later
  pub why : StopsAt now left later fault (all_out done conn) later_conn

-- What a step on a connection makes of it and its peer, by the connection's number and the moment, and what it reports,
-- or the fault for which it is refused.
abbrev pub PairStep : Type 0 → Type 1
PairStep A = (id now : ℕ) → ConnPast → PeerPast → A → ConnPast → PeerPast → Type 0

-- ---- a connection is made

-- a connection at its start
abbrev pub fresh_conn : ℕ → ConnPast
fresh_conn rank = record { rank = rank; unread = []; transcript = []; settled = 0 }

pub record TakesConnect (name : List ℕ) (life : Life) (outputs : List View) (later : Life) : Type 0 where
  pub rank : ℕ
  pub here : rank_of life.past name ≡ Some rank
  pub fits : life.connected + 1 < 2 ^ 64
  pub outputs_are : outputs ≡ Connected (life.connected + 1) name ∷ []
  pub changed : later ≡ record life {
    conns = life.conns ++ (life.connected + 1, fresh_conn rank) ∷ [];
    connected = life.connected + 1;
  }

-- a refused connect takes no number: the next connection gets it
abbrev pub RefusesConnect : List ℕ → Life → Fault → Life → Type 0
RefusesConnect name life fault later =
    (((fault ≡ NoPeer) × (rank_of life.past name ≡ None))
    ⊎ (((rank : ℕ) × (rank_of life.past name ≡ Some rank))
    × (((fault ≡ CountFull) × (life.connected + 1 ≡ 2 ^ 64)) ⊎ ((fault ≡ NoMemory) × (life.connected + 1 < 2 ^ 64)))))
    × (later ≡ life)

-- ---- the least candidate is handed over

-- the least candidate, which no connection holds, is claimed, and its texts are read from the tape
pub record ClaimsAt (id now : ℕ) (debt : Owing) (peer later : PeerPast) : Type 0 where
  pub tape : TapePast
  pub works : peer.tape.broken ≡ false
  pub candidate : IsCandidate now peer debt
  pub free : (other : ℕ) → IsHeldBy peer.places other debt.0 → ⊥
  pub reads : IsReadTape peer.tape tape
  pub changed : later ≡ claimed_peer id debt.0 tape peer

-- it is given back
pub record ReturnsAt (id number : ℕ) (peer later : PeerPast) : Type 0 where
  pub works : peer.tape.broken ≡ false
  pub held : IsHeldBy peer.places id number
  pub changed : later ≡ with_places peer (moved peer.places number Ready)

-- it is claimed and given back
pub record GivesBackAt (id now : ℕ) (debt : Owing) (peer later : PeerPast) : Type 0 where
  pub mid : PeerPast
  pub claims : ClaimsAt id now debt peer mid
  pub returns : ReturnsAt id debt.0 mid later

-- What became of it. If there is no candidate, there is none to hand over; the tape may have been read. Otherwise the
-- least is claimed, and offered, or given back if the connection has no room or is closed. Then the connection has this
-- transcript, and the peer is this.
pub data HandsOver (id now : ℕ) (conn : ConnPast) (peer : PeerPast) : Handover → List Happening → PeerPast
    → Type 0 where
  None_there : (tape : TapePast) → peer.tape.broken ≡ false → least_candidate now peer.places ≡ None
      → IsReadTape peer.tape tape
      → HandsOver id now conn peer Nothing conn.transcript (with_tape peer tape)
  Taken_over : (debt : Owing) (later : PeerPast) → ready_of (options_of peer.conf) conn.transcript ≡ Yes
      → ClaimsAt id now debt peer later
      → HandsOver id now conn peer (Debt debt.0) (after (options_of peer.conf) conn.transcript (Offered debt)) later
  Has_no_room : (debt : Owing) (later : PeerPast) → ready_of (options_of peer.conf) conn.transcript ≡ NoRoom
      → GivesBackAt id now debt peer later
      → HandsOver id now conn peer Busy conn.transcript later
  Is_shut : (debt : Owing) (later : PeerPast) → ready_of (options_of peer.conf) conn.transcript ≡ Shut
      → GivesBackAt id now debt peer later
      → HandsOver id now conn peer Closed conn.transcript later

-- the claim was refused; or the offer was refused memory, and the debt is given back
abbrev pub FailsToOffer : (id now : ℕ) → ConnPast → PeerPast → Fault → PeerPast → Type 0
FailsToOffer id now conn peer fault later =
    ((tape : TapePast) × RefusesClaim now peer fault tape × (later ≡ with_tape peer tape))
    ⊎ ((fault ≡ NoMemory) × (ready_of (options_of peer.conf) conn.transcript ≡ Yes)
    × ((debt : Owing) × GivesBackAt id now debt peer later))

pub record TakesHand (id now : ℕ) (conn : ConnPast) (peer : PeerPast) (outputs : List View) (later_conn : ConnPast)
    (later : PeerPast) : Type 0 where
  pub handed : Handover
  pub transcript : List Happening
  pub mid : PeerPast
  pub hands : HandsOver id now conn peer handed transcript mid
  pub behind : List View
  pub follows : Follows id now conn.transcript (with_transcript conn transcript) mid behind later_conn later
  pub outputs_are : outputs ≡ Handed id handed ∷ behind

-- memory was refused for the report; or nothing was handed over; or what follows was refused
abbrev pub FailsToHand : PairStep Fault
FailsToHand id now conn peer fault later_conn later =
    ((fault ≡ NoMemory) × (later_conn ≡ conn) × (later ≡ peer))
    ⊎ (FailsToOffer id now conn peer fault later × (later_conn ≡ conn))
    ⊎ ((handed : Handover) × (transcript : List Happening) × (mid : PeerPast)
    × HandsOver id now conn peer handed transcript mid
    × FollowsNot id now (with_transcript conn transcript) mid fault later_conn later)

-- ---- octets come in

pub record TakesBytes (octets : List ℕ) (id now : ℕ) (conn : ConnPast) (peer : PeerPast) (outputs : List View)
    (later_conn : ConnPast) (later : PeerPast) : Type 0 where
  pub transcript : List Happening
  pub left : List ℕ
  pub receives : Receives (options_of peer.conf) (conn.unread ++ octets) conn.transcript transcript left
  pub follows : Follows id now conn.transcript (record conn { unread = left; transcript = transcript }) peer outputs
      later_conn later

-- Memory was refused to the reader: some of the whole replies were taken, and the connection is broken, with no outcome
-- taken; or what follows was refused.
abbrev pub FailsToRead : List ℕ → PairStep Fault
FailsToRead octets id now conn peer fault later_conn later =
    ((fault ≡ NoMemory) × ((mid : List Happening)
    × ReceivesSome (options_of peer.conf) (conn.unread ++ octets) conn.transcript mid
    × (later_conn ≡ record conn { unread = []; transcript = after (options_of peer.conf) mid Broke })
    × (later ≡ peer)))
    ⊎ ((transcript : List Happening) × (left : List ℕ)
    × Receives (options_of peer.conf) (conn.unread ++ octets) conn.transcript transcript left
    × FollowsNot id now (record conn { unread = left; transcript = transcript }) peer fault later_conn later)

-- ---- an article is handed in

-- the connection once this is handed in for the article of this number
abbrev pub handed_in : PeerPast → ConnPast → ℕ → Handing → ConnPast
handed_in peer conn number handing =
    with_transcript conn (after (options_of peer.conf) conn.transcript (HandedIn number handing))

pub record TakesArticle (found : Found) (id now : ℕ) (conn : ConnPast) (peer : PeerPast) (outputs : List View)
    (later_conn : ConnPast) (later : PeerPast) : Type 0 where
  pub number : ℕ
  pub handing : Handing
  pub wanted : need (options_of peer.conf) conn.transcript ≡ Some number
  pub handed : IsHandedAs found handing
  pub follows : Follows id now conn.transcript (handed_in peer conn number handing) peer outputs later_conn later

-- no article is wanted; or memory is refused; or what follows was refused
abbrev pub FailsToSupply : Found → PairStep Fault
FailsToSupply found id now conn peer fault later_conn later =
    ((fault ≡ NotNeeded) × (need (options_of peer.conf) conn.transcript ≡ None) × (later_conn ≡ conn)
    × (later ≡ peer))
    ⊎ ((number : ℕ) × (need (options_of peer.conf) conn.transcript ≡ Some number)
    × (((fault ≡ NoMemory) × (later_conn ≡ conn) × (later ≡ peer))
    ⊎ ((handing : Handing) × IsHandedAs found handing
    × FollowsNot id now (handed_in peer conn number handing) peer fault later_conn later)))

-- ---- a connection breaks, or its moment is set

-- it broke, and holds no octets back
abbrev pub broken_off : PeerPast → ConnPast → ConnPast
broken_off peer conn =
    record conn { unread = []; transcript = outside (options_of peer.conf) conn.transcript Broke }

abbrev pub TakesBreak : PairStep (List View)
TakesBreak id now conn peer = Follows id now conn.transcript (broken_off peer conn) peer

abbrev pub FailsToBreak : PairStep Fault
FailsToBreak id now conn peer = FollowsNot id now (broken_off peer conn) peer

-- a connection once this is its moment
abbrev pub ticked : ℕ → PeerPast → ConnPast → ConnPast
ticked now peer conn = record conn {
  unread = left_behind (options_of peer.conf) conn.unread
      (outside (options_of peer.conf) conn.transcript (Tick now));
  transcript = outside (options_of peer.conf) conn.transcript (Tick now);
}

abbrev pub TakesMoment : PairStep (List View)
TakesMoment id now conn peer = Follows id now conn.transcript (ticked now peer conn) peer

abbrev pub FailsToTick : PairStep Fault
FailsToTick id now conn peer = FollowsNot id now (ticked now peer conn) peer

-- ---- in the world

-- the connection of this number, and its peer
pub record IsConn (id : ℕ) (life : Life) (conn : ConnPast) (peer : PeerPast) : Type 0 where
  pub conn_is : conn_at life.conns id ≡ Some conn
  pub peer_is : slice_get life.past.peers conn.rank ≡ Some peer

-- the connection of this number is replaced, and the peer at this rank
abbrev pub with_pair : Life → (id rank : ℕ) → ConnPast → PeerPast → Life
with_pair life id rank conn peer = with_conn (with_past life (with_peer life.past rank peer)) id conn

-- A step on the connection of this number makes this of it and its peer, and reports this or is refused for this fault.
-- Both are put back into the world, and all else stays.
pub record OnPair {A : Type 0} (T : PairStep A) (id : ℕ) (life : Life) (reports : A) (later : Life) : Type 0 where
  pub conn : ConnPast
  pub peer : PeerPast
  pub is : IsConn id life conn peer
  pub later_conn : ConnPast
  pub later_peer : PeerPast
  pub makes : T id life.now conn peer reports later_conn later_peer
  pub changed : later ≡ with_pair life id conn.rank later_conn later_peer

-- a step on a connection that is not there is refused; one on any other, as this says
abbrev pub RefusesOn : PairStep Fault → ℕ → Life → Fault → Life → Type 0
RefusesOn R id life fault later =
    ((fault ≡ NoConnection) × (conn_at life.conns id ≡ None) × (later ≡ life)) ⊎ OnPair R id life fault later

-- the moment was set of the connection at this index
abbrev pub TicksOne : ℕ → Life → List View → Life → Type 0
TicksOne index life outputs later =
    (id : ℕ) × ((conn : ConnPast) × (slice_get life.conns index ≡ Some (id, conn)))
    × OnPair TakesMoment id life outputs later

-- what follows of it was refused
abbrev pub TicksOneNot : ℕ → Life → Fault → Life → Type 0
TicksOneNot index life fault later =
    (id : ℕ) × ((conn : ConnPast) × (slice_get life.conns index ≡ Some (id, conn)))
    × OnPair FailsToTick id life fault later

-- the moment was set of this many connections, in the order of their numbers, and what follows has come about for each
-- in turn
pub data TicksEach (begun : Life) : ℕ → List View → Life → Type 0 where
  Start : TicksEach begun 0 [] begun
  Next : (count : ℕ) (outputs more : List View) (mid later : Life) → TicksEach begun count outputs mid
      → TicksOne count mid more later
      → TicksEach begun (count + 1) (outputs ++ more) later

abbrev pub TicksSome : ℕ → Life → List View → Life → Type 0
TicksSome count life outputs later = TicksEach life count outputs later

-- the moment was set of this many, and what follows was refused for the next
pub record TicksNot (life : Life) (fault : Fault) (later : Life) : Type 0 where
  pub count : ℕ
  pub outputs : List View
  pub mid : Life
  pub prefix : TicksEach life count outputs mid
  pub fails : TicksOneNot count mid fault later

-- the world's moment is this from the start of the step
abbrev pub at_moment : ℕ → Life → Life
at_moment now life = record life { now = now }

abbrev pub TakesTick : ℕ → Life → List View → Life → Type 0
TakesTick now life outputs later = TicksSome (length life.conns) (at_moment now life) outputs later

abbrev pub RefusesTick : ℕ → Life → Fault → Life → Type 0
RefusesTick now life fault later = TicksNot (at_moment now life) fault later
