-- What each step on a connection, taken or refused, makes of the connection and its peer.
use Rattle.std.proofs.Common.{◌≡◌, ◌⊎◌, ℕ, List, [], ◌++◌, refl, sym, ap, ◌∙◌, subst, inl, inr, append-nil}
use Rattle.article_store.specs.declared.store.Found.{Found}
use Rattle.feed_conf.specs.declared.conf.PeerConf.{PeerConf}
use Rattle.ledger_core.specs.State.{Owing}
use Rattle.conn_core.specs.Commands.{Handing}
use Rattle.conn_core.specs.History.{Broke, Event as Happening, Handed, Offered, Tick as Ticked, after}
use Rattle.conn_core.specs.Receipt.{Receives}
use Rattle.conn_core.specs.declared.outcome.Outcome.{Outcome}
use Rattle.sections.specs.Tapes.{TapePast}
use Rattle.world_core.specs.Past.{ConnPast, Life, PeerPast, options_of}
use Rattle.world_core.specs.Events.{IsCandidate}
use Rattle.world_core.specs.Exchange.{AllSettleAt, ClaimsAt, FailsToBreak, FailsToHand, FailsToOffer, FailsToRead}
use Rattle.world_core.specs.Exchange.{FailsToSupply, FailsToTick, Follows, FollowsNot, GivesBackAt, HandsOver}
use Rattle.world_core.specs.Exchange.{Has_no_room, Is_shut, None_settled, None_there, OnPair, PairStep, TakesArticle}
use Rattle.world_core.specs.Exchange.{TakesBreak, TakesBytes, TakesHand, TakesMoment, Taken_over, broken_off, handed_in}
use Rattle.world_core.specs.Exchange.{ticked, unsettled, with_transcript}
use Rattle.world_core.specs.Output.{View}
use Rattle.world_core.specs.declared.fault.Fault.{Fault}
use Rattle.world_core.specs.declared.output.Handed.{Handed as Handover}
use Rattle.world_core.specs.declared.step.Step.{Step}
use Rattle.world_core.specs.declared.step.Step.TheVariants.{Hand}
use Rattle.world_core.proofs.HeldNumbers.{out_rank}
use Rattle.world_core.proofs.PeerInWorld.{KeepsPair, PeerKeeps, keeps_all, keeps_offer, keeps_over, keeps_same}
use Rattle.world_core.proofs.PeerInWorld.{keeps_then}
use Rattle.world_core.proofs.TranscriptsGrow.{Grew, grew_broken, grew_by, grew_outside, grew_received, grew_same}
use Rattle.world_core.proofs.TranscriptsGrow.{grew_sent, grew_stopped}

-- What came in: the connection is the new one, and its peer may have been claimed from. The connection accepted no
-- debt, or, if the step is a `hand`, the peer's least candidate.
pub record CameIn (step : Step) (id now : ℕ) (conn : ConnPast) (peer : PeerPast) (new : ConnPast) (mid : PeerPast) :
    Type 0 where
  pub rank : new.rank ≡ conn.rank
  pub keeps : PeerKeeps id peer mid
  pub history : mid.tape.history ≡ peer.tape.history
  pub accepts : Grew conn.transcript new.transcript
      ⊎ ((step ≡ Hand id) × ((debt : Owing) × IsCandidate now peer debt
      × (new.transcript ≡ after (options_of peer.conf) conn.transcript (Offered debt))))

-- Then some of the outcomes, from the first on, went to the peer, and no further debt was accepted.
pub record PairWent (step : Step) (id now : ℕ) (conn : ConnPast) (peer : PeerPast) (next : ConnPast)
    (later : PeerPast) : Type 0 where
  pub new : ConnPast
  pub mid : PeerPast
  pub came : CameIn step id now conn peer new mid
  pub done : List Outcome
  pub left : List Outcome
  pub split : unsettled (options_of peer.conf) new ≡ done ++ left
  pub settles : AllSettleAt id now mid done later
  pub rank : next.rank ≡ conn.rank
  pub grew : Grew new.transcript next.transcript

-- the same as what a step makes of a connection and its peer
abbrev pub Went : Step → PairStep (Unit {0})
Went step id now conn peer none next later = PairWent step id now conn peer next later

-- each step of this kind goes on so
abbrev pub Goes : {A : Type 0} → Step → ℕ → PairStep A → Type 0
Goes {A} step id T = (now : ℕ) (conn : ConnPast) (peer : PeerPast) (reports : A) (next : ConnPast) (later : PeerPast)
    → T id now conn peer reports next later → PairWent step id now conn peer next later

pub went_on : {A : Type 0} (T : PairStep A) (step : Step) (id : ℕ) → Goes step id T
    → (life : Life) (reports : A) (later : Life) → OnPair T id life reports later → OnPair (Went step) id life tt later
went_on T step id goes life reports later t = record {
  conn = t.conn;
  peer = t.peer;
  is = t.is;
  later_conn = t.later_conn;
  later_peer = t.later_peer;
  makes = goes life.now t.conn t.peer reports t.later_conn t.later_peer t.makes;
  changed = t.changed;
}

pub keeps_pair : (step : Step) (id now : ℕ) (conn : ConnPast) (peer : PeerPast) (next : ConnPast) (later : PeerPast)
    → PairWent step id now conn peer next later → KeepsPair id conn peer next later
keeps_pair step id now conn peer next later went = (
  keeps_then id peer went.mid later went.came.keeps (keeps_all id now went.mid went.done later went.settles),
  went.rank,
)

-- ---- what follows

module _ (step : Step) (id now : ℕ) (conn : ConnPast) (peer : PeerPast) (new : ConnPast) (mid : PeerPast)
    (came : CameIn step id now conn peer new mid) (next : ConnPast) (later : PeerPast) where
  same_options : unsettled (options_of peer.conf) new ≡ unsettled (options_of mid.conf) new
  same_options = ap (λ (conf : PeerConf). unsettled (options_of conf) new) (sym came.keeps.conf)

  followed : (was : List Happening) (said : List View) → Follows id now was new mid said next later
      → PairWent step id now conn peer next later
  followed was said f =
      let options = options_of mid.conf in
      record {
        new = new;
        mid = mid;
        came = came;
        done = unsettled options new;
        left = [];
        split = same_options ∙ sym (append-nil (unsettled options new));
        settles = f.settles;
        rank = ap (λ (c : ConnPast). c.rank) f.changed ∙ (out_rank (unsettled options new) new ∙ came.rank);
        grew = subst (λ (c : ConnPast). Grew new.transcript c.transcript) (sym f.changed) (grew_sent options new);
      }

  not_followed : (fault : Fault) → FollowsNot id now new mid fault next later
      → PairWent step id now conn peer next later
  not_followed fault f =
      let grew = grew_stopped now f.done f.left later fault new next f.why in
      record {
        new = new;
        mid = mid;
        came = came;
        done = f.done;
        left = f.left;
        split = same_options ∙ f.split;
        settles = f.settles;
        rank = grew.0 ∙ came.rank;
        grew = grew.1;
      }

  -- no outcome went to the peer
  rested : next ≡ new → later ≡ mid → PairWent step id now conn peer next later
  rested is same = record {
    new = new;
    mid = mid;
    came = came;
    done = [];
    left = unsettled (options_of peer.conf) new;
    split = refl;
    settles = subst (AllSettleAt id now mid []) (sym same) None_settled;
    rank = ap (λ (c : ConnPast). c.rank) is ∙ came.rank;
    grew = subst (λ (c : ConnPast). Grew new.transcript c.transcript) (sym is) (grew_same new.transcript);
  }

-- ---- a debt is handed over

history_of : (one other : TapePast) → one ≡ other → one.history ≡ other.history
history_of one other same = ap (λ (t : TapePast). t.history) same

claimed_history : (id now : ℕ) (debt : Owing) (peer mid : PeerPast) → ClaimsAt id now debt peer mid
    → mid.tape.history ≡ peer.tape.history
claimed_history id now debt peer mid is =
    ap (λ (p : PeerPast). p.tape.history) is.changed ∙ history_of is.tape _ is.reads.all

given_history : (id now : ℕ) (debt : Owing) (peer mid : PeerPast) → GivesBackAt id now debt peer mid
    → mid.tape.history ≡ peer.tape.history
given_history id now debt peer mid is =
    ap (λ (p : PeerPast). p.tape.history) is.returns.changed ∙ claimed_history id now debt peer is.mid is.claims

module _ (id now : ℕ) (conn : ConnPast) (peer : PeerPast) where
  offered : (handed : Handover) (h : List Happening) (mid : PeerPast) → HandsOver id now conn peer handed h mid
      → CameIn (Hand id) id now conn peer (with_transcript conn h) mid
  offered handed h mid over = record {
    rank = refl;
    keeps = keeps_over id now conn peer handed h mid over;
    history = same_history handed h mid over;
    accepts = accepts_so handed h mid over;
  }
    where
      same_history : (handed : Handover) (h : List Happening) (mid : PeerPast)
          → HandsOver id now conn peer handed h mid → mid.tape.history ≡ peer.tape.history
      same_history _ _ _ (None_there tape works none reads) = history_of tape _ reads.all
      same_history _ _ _ (Taken_over debt later ready claims) = claimed_history id now debt peer later claims
      same_history _ _ _ (Has_no_room debt later ready gives) = given_history id now debt peer later gives
      same_history _ _ _ (Is_shut debt later ready gives) = given_history id now debt peer later gives

      accepts_so : (handed : Handover) (h : List Happening) (mid : PeerPast)
          → HandsOver id now conn peer handed h mid
          → Grew conn.transcript h ⊎ ((Hand id ≡ Hand id) × ((debt : Owing) × IsCandidate now peer debt
          × (h ≡ after (options_of peer.conf) conn.transcript (Offered debt))))
      accepts_so _ _ _ (None_there tape works none reads) = inl (grew_same conn.transcript)
      accepts_so _ _ _ (Taken_over debt later ready claims) = inr (refl, (debt, claims.candidate, refl))
      accepts_so _ _ _ (Has_no_room debt later ready gives) = inl (grew_same conn.transcript)
      accepts_so _ _ _ (Is_shut debt later ready gives) = inl (grew_same conn.transcript)

  not_offered : (fault : Fault) (mid : PeerPast) → FailsToOffer id now conn peer fault mid
      → CameIn (Hand id) id now conn peer conn mid
  not_offered fault mid fails = record {
    rank = refl;
    keeps = keeps_offer id now conn peer fault mid fails;
    history = same fails;
    accepts = inl (grew_same conn.transcript);
  }
    where
      same : FailsToOffer id now conn peer fault mid → mid.tape.history ≡ peer.tape.history
      same (inl (tape, refused, changed)) =
          ap (λ (p : PeerPast). p.tape.history) changed ∙ history_of tape _ refused.1.all
      same (inr (memory, ready, (debt, gives))) = given_history id now debt peer mid gives

-- something else came in
grown : (step : Step) (id now : ℕ) (conn : ConnPast) (peer : PeerPast) (new : ConnPast) → new.rank ≡ conn.rank
    → Grew conn.transcript new.transcript → CameIn step id now conn peer new peer
grown step id now conn peer new rank grew =
    record { rank = rank; keeps = keeps_same id peer; history = refl; accepts = inl grew }

-- both are as they were
idle : (step : Step) (id now : ℕ) (conn : ConnPast) (peer : PeerPast) (next : ConnPast) (later : PeerPast)
    → next ≡ conn → later ≡ peer → PairWent step id now conn peer next later
idle step id now conn peer next later =
    rested step id now conn peer conn peer (grown step id now conn peer conn refl (grew_same conn.transcript)) next
    later

-- ---- each step

pub went_hand : (id : ℕ) → Goes (Hand id) id TakesHand
went_hand id now conn peer said next later is =
    followed (Hand id) id now conn peer (with_transcript conn is.transcript) is.mid
    (offered id now conn peer is.handed is.transcript is.mid is.hands) next later conn.transcript is.behind is.follows

pub went_unhanded : (id : ℕ) → Goes (Hand id) id FailsToHand
went_unhanded id now conn peer fault next later (inl (memory, is, same)) =
    idle (Hand id) id now conn peer next later is same
went_unhanded id now conn peer fault next later (inr (inl (offer, is))) =
    rested (Hand id) id now conn peer conn later (not_offered id now conn peer fault later offer) next later is refl
went_unhanded id now conn peer fault next later (inr (inr (handed, h, mid, over, follows))) =
    not_followed (Hand id) id now conn peer (with_transcript conn h) mid
    (offered id now conn peer handed h mid over) next later fault follows

received : (step : Step) (id now : ℕ) (conn : ConnPast) (peer : PeerPast) (octets left : List ℕ) (h : List Happening)
    → Receives (options_of peer.conf) (conn.unread ++ octets) conn.transcript h left
    → CameIn step id now conn peer (record conn { unread = left; transcript = h }) peer
received step id now conn peer octets left h came =
    grown step id now conn peer (record conn { unread = left; transcript = h }) refl
    (grew_received (options_of peer.conf) _ left conn.transcript h came)

pub went_bytes : (octets : List ℕ) (step : Step) (id : ℕ) → Goes step id (TakesBytes octets)
went_bytes octets step id now conn peer said next later is =
    followed step id now conn peer _ peer
    (received step id now conn peer octets is.left is.transcript is.receives) next later conn.transcript said is.follows

pub went_unread : (octets : List ℕ) (step : Step) (id : ℕ) → Goes step id (FailsToRead octets)
went_unread octets step id now conn peer fault next later (inl (memory, (mid, some, broke, same))) =
    rested step id now conn peer _ peer (grown step id now conn peer
    (record conn { unread = []; transcript = after (options_of peer.conf) mid Broke }) refl
    (grew_broken (options_of peer.conf) (conn.unread ++ octets) conn.transcript mid some)) next later broke same
went_unread octets step id now conn peer fault next later (inr (h, left, came, follows)) =
    not_followed step id now conn peer _ peer (received step id now conn peer octets left h came) next later fault
    follows

supplied : (step : Step) (id now : ℕ) (conn : ConnPast) (peer : PeerPast) (number : ℕ) (handing : Handing)
    → CameIn step id now conn peer (handed_in peer conn number handing) peer
supplied step id now conn peer number handing =
    grown step id now conn peer (handed_in peer conn number handing) refl
    (grew_by (options_of peer.conf) conn.transcript (Handed number handing) refl)

pub went_article : (found : Found) (step : Step) (id : ℕ) → Goes step id (TakesArticle found)
went_article found step id now conn peer said next later is =
    followed step id now conn peer _ peer (supplied step id now conn peer is.number is.handing) next later
    conn.transcript said is.follows

pub went_unsupplied : (found : Found) (step : Step) (id : ℕ) → Goes step id (FailsToSupply found)
went_unsupplied found step id now conn peer fault next later (inl (none, wanted, is, same)) =
    idle step id now conn peer next later is same
went_unsupplied found step id now conn peer fault next later (inr (number, wanted, inl (memory, is, same))) =
    idle step id now conn peer next later is same
went_unsupplied found step id now conn peer fault next later (inr (number, wanted, inr (handing, given, follows))) =
    not_followed step id now conn peer _ peer (supplied step id now conn peer number handing) next later fault follows

broke : (step : Step) (id now : ℕ) (conn : ConnPast) (peer : PeerPast)
    → CameIn step id now conn peer (broken_off peer conn) peer
broke step id now conn peer =
    grown step id now conn peer (broken_off peer conn) refl
    (grew_outside (options_of peer.conf) conn.transcript Broke refl)

pub went_break : (step : Step) (id : ℕ) → Goes step id TakesBreak
went_break step id now conn peer said next later =
    followed step id now conn peer _ peer (broke step id now conn peer) next later conn.transcript said

pub went_unbroken : (step : Step) (id : ℕ) → Goes step id FailsToBreak
went_unbroken step id now conn peer fault next later =
    not_followed step id now conn peer _ peer (broke step id now conn peer) next later fault

set_to : (step : Step) (id now : ℕ) (conn : ConnPast) (peer : PeerPast)
    → CameIn step id now conn peer (ticked now peer conn) peer
set_to step id now conn peer =
    grown step id now conn peer (ticked now peer conn) refl
    (grew_outside (options_of peer.conf) conn.transcript (Ticked now) refl)

pub went_moment : (step : Step) (id : ℕ) → Goes step id TakesMoment
went_moment step id now conn peer said next later =
    followed step id now conn peer _ peer (set_to step id now conn peer) next later conn.transcript said

pub went_unticked : (step : Step) (id : ℕ) → Goes step id FailsToTick
went_unticked step id now conn peer fault next later =
    not_followed step id now conn peer _ peer (set_to step id now conn peer) next later fault
