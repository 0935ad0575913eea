-- A connection that breaks.
use Rattle.std.proofs.Common.{◌≡◌, ℕ, Bool, true, false, Option, None, Some, List, [], refl, ap, ◌∙◌}
use Rattle.std.specs.Prelude.{is_none, is_some, not}
use Rattle.disk_model.specs.declared.Disk.{Ghosts}
use Rattle.conn_core.specs.History.{Broke, Event, Tick, outside, reason}
use Rattle.conn_core.specs.Stands.{StandsFor as ConnStands, left_behind}
use Rattle.conn_core.specs.declared.options.Options.{Options}
use Rattle.conn_core.specs.declared.reason.Reason.{Reason}
use Rattle.world_core.specs.Past.{ConnPast, PeerPast, options_of}
use Rattle.world_core.specs.Exchange.{broken_off, ticked}
use Rattle.world_core.specs.Pairs.{PairStands}
use Rattle.world_core.specs.Stands.{HoldsTranscript}
use Rattle.feed_conf.specs.declared.conf.PeerConf.{PeerConf}
use Rattle.world_core.specs.declared.connection.Connection.{Connection}
use Rattle.world_core.specs.declared.peer.Peer.{Peer}
use Rattle.world_core.proofs.HeldOrOutcome.{goes_outside}
use Rattle.world_core.proofs.PairTied.{pair_on}

pub says_none : (none : Bool) (r : Option Reason) → is_some r ≡ not none → none ≡ is_none r
says_none true None e = refl
says_none true (Some reason) e = cc
says_none false None e = cc
says_none false (Some reason) e = refl

-- it reports that it is open exactly if it is open by the world's transcript
pub open_said : (conf : PeerConf) (conn : ConnPast) (c : Connection) (none : Bool) (outputs : Option Reason)
    → HoldsTranscript conf conn c
    → ((o : Options) (unread : List ℕ) (h : List Event) → ConnStands o c.conn unread h → outputs ≡ reason o h)
    → is_some outputs ≡ not none → none ≡ is_none (reason (options_of conf) conn.transcript)
open_said conf conn c none outputs holds says is =
    says_none none outputs is ∙ ap is_none (says (options_of conf) conn.unread conn.transcript holds)

module _ {D : Type 0} {g : Ghosts D} where
  pub pair_broken : (id : ℕ) (conn : ConnPast) (past : PeerPast) (old new : Connection) (peer : Peer D g)
      → PairStands id conn past old peer
      → ((o : Options) (unread : List ℕ) (h : List Event) → ConnStands o old.conn unread h
      → ConnStands o new.conn [] (outside o h Broke))
      → new.waiting ≡ old.waiting → new.rank ≡ old.rank → new.conn.id ≡ old.conn.id
      → PairStands id (broken_off past conn) past new peer
  pair_broken id conn past old new peer pair breaks waits rank same_id =
      pair_on id conn (broken_off past conn) past old new peer pair refl refl
      (goes_outside (options_of past.conf) conn.transcript Broke tt)
      (breaks (options_of past.conf) conn.unread conn.transcript pair.holds) waits rank same_id

  -- the moment is set
  pub pair_ticked : (id now : ℕ) (conn : ConnPast) (past : PeerPast) (old new : Connection) (peer : Peer D g)
      → PairStands id conn past old peer
      → ((o : Options) (unread : List ℕ) (h : List Event) → ConnStands o old.conn unread h
      → ConnStands o new.conn (left_behind o unread (outside o h (Tick now))) (outside o h (Tick now)))
      → new.waiting ≡ old.waiting → new.rank ≡ old.rank → new.conn.id ≡ old.conn.id
      → PairStands id (ticked now past conn) past new peer
  pair_ticked id now conn past old new peer pair ticks waits rank same_id =
      pair_on id conn (ticked now past conn) past old new peer pair refl refl
      (goes_outside (options_of past.conf) conn.transcript (Tick now) tt)
      (ticks (options_of past.conf) conn.unread conn.transcript pair.holds) waits rank same_id
