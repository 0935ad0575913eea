-- The steps on one connection of a world: what they make of the connection and its peer, once these are put back, is
-- what they make of the world.
use Rattle.std.proofs.Common.{◌≡◌, ℕ, ◌<◌, Some, List, length, get_or, refl, sym, subst, inr}
use Rattle.std.specs.Prelude.{slice_get}
use Rattle.std.proofs.Math.ListN.{set}
use Rattle.disk_model.specs.declared.Disk.{Ghosts}
use Rattle.world_core.specs.Past.{ConnPast, Life, PeerPast}
use Rattle.world_core.specs.Exchange.{FailsToTick, IsConn, OnPair, PairStep, RefusesOn, TakesMoment, TicksOne}
use Rattle.world_core.specs.Exchange.{TicksOneNot, with_pair}
use Rattle.world_core.specs.Joined.{AreRunning, FoundConn, MadeOn, RefusedOn}
use Rattle.world_core.specs.Pairs.{PairMade, PairRefused, PairStands}
use Rattle.world_core.specs.Output.{View}
use Rattle.world_core.specs.declared.connection.Connection.{Connection}
use Rattle.world_core.specs.declared.fault.Fault.{Fault}
use Rattle.world_core.specs.declared.peer.Peer.{Peer}
use Rattle.world_core.specs.declared.step.Step.TheVariants.{Hand}
use Rattle.world_core.specs.declared.stations.Stations.{Stations}
use Rattle.world_core.specs.declared.output.Output.{Output}
use Rattle.world_core.proofs.PairInWorld.{conn_there, pair_there, put_back}
use Rattle.world_core.proofs.PairGoesOn.{Goes, PairWent, keeps_pair, went_moment, went_unticked}
use Rattle.world_core.proofs.StationCalls.{WithPeer}

module _ {D : Type 0} {g : Ghosts D} where
  -- the connection of this number and its peer were taken out, and others are put back in their places
  pub record IsPut (life : Life) (old new : Stations D g) (cs new_cs : List Connection) (id : ℕ) (conn : ConnPast)
      (peer : PeerPast)
      (c new_c : Connection) (was now : Peer D g) : Type 0 where
    pub index : ℕ
    pub next : slice_get life.conns index ≡ Some (id, conn)
    pub here : slice_get life.past.peers conn.rank ≡ Some peer
    pub c_at : c ≡ get_or cs index c
    pub in_cs : index < length cs
    pub was_at : was ≡ get_or old.peers.items conn.rank was
    pub in_peers : conn.rank < length old.peers.items
    pub same : WithPeer old new conn.rank now
    pub put_c : new_cs ≡ set cs index new_c

  abbrev pub put_from : (life : Life) (old new : Stations D g) (cs new_cs : List Connection) (id : ℕ)
      (conn : ConnPast) (peer : PeerPast)
      (c new_c : Connection) (was now : Peer D g) (index rank : ℕ) → slice_get life.conns index ≡ Some (id, conn)
      → conn.rank ≡ rank
      → slice_get life.past.peers rank ≡ Some peer → c ≡ get_or cs index c → index < length cs
      → was ≡ get_or old.peers.items rank was
      → rank < length old.peers.items → WithPeer old new rank now → new_cs ≡ set cs index new_c
      → IsPut life old new cs new_cs id conn peer c new_c was now
  put_from life old new cs new_cs id conn peer c new_c was now index rank next at here c_at in_cs was_at in_peers
      same put_c = record {
        index = index;
        next = next;
        here = subst (λ (p : ℕ). slice_get life.past.peers p ≡ Some peer) (sym at) here;
        c_at = c_at;
        in_cs = in_cs;
        was_at = subst (λ (p : ℕ). was ≡ get_or old.peers.items p was) (sym at) was_at;
        in_peers = subst (λ (p : ℕ). p < length old.peers.items) (sym at) in_peers;
        same = subst (λ (p : ℕ). WithPeer old new p now) (sym at) same;
        put_c = put_c;
      }

  -- the connection that was found, with its peer
  pub record IsFound (life : Life) (old new : Stations D g) (cs new_cs : List Connection) (id : ℕ)
      (c new_c : Connection) (was now : Peer D g) : Type 0 where
    pub conn : ConnPast
    pub peer : PeerPast
    pub put : IsPut life old new cs new_cs id conn peer c new_c was now
    pub pair : PairStands id conn peer c was

  abbrev pub found_put : (life : Life) (old new : Stations D g) (cs there new_cs : List Connection) (id index rank : ℕ)
      (c new_c : Connection) (was now : Peer D g) → AreRunning life old cs → there ≡ cs
      → (AreRunning life old there → FoundConn life id (Some (index, rank))) → index < length there
      → rank < length old.peers.items → c ≡ get_or cs index c → was ≡ get_or old.peers.items rank was
      → WithPeer old new rank now → new_cs ≡ set cs index new_c
      → IsFound life old new cs new_cs id c new_c was now
  found_put life old new cs there new_cs id index rank c new_c was now running same finds in_cs in_peers c_at was_at
      with_now put_c =
      let found = finds (subst (AreRunning life old) (sym same) running) in
      let inside = subst (λ (l : List Connection). index < length l) same in_cs in
      record {
        conn = found.0;
        peer = found.1;
        put = put_from life old new cs new_cs id found.0 found.1 c new_c was now index rank found.2 found.3 found.4 c_at
            inside was_at in_peers with_now put_c;
        pair = pair_there life old cs running index rank id found.0 found.1 found.2 found.3 found.4 c was c_at inside
            was_at in_peers;
      }

  module _ (life : Life) (old new : Stations D g) (cs new_cs : List Connection) (running : AreRunning life old cs)
      (id : ℕ)
      (conn : ConnPast) (peer : PeerPast) (c new_c : Connection) (was now : Peer D g)
      (put : IsPut life old new cs new_cs id conn peer c new_c was now) (moment : ℕ) (is_now : life.now ≡ moment) where
    is_conn : IsConn id life conn peer
    is_conn = record {
      conn_is = conn_there life.conns running.tied.rising put.index id conn put.next;
      peer_is =
          put.here;
    }

    -- the life with these put back
    back : (later_conn : ConnPast) (later : PeerPast) → PairStands id later_conn later new_c now
        → PairWent (Hand id) id moment conn peer later_conn later
        → AreRunning (with_pair life id conn.rank later_conn later) new new_cs
    back later_conn later pair went =
        let keeps = keeps_pair (Hand id) id moment conn peer later_conn later went in
        put_back life old cs running put.index conn.rank id conn peer put.next refl put.here new new_cs new_c now
        later_conn later pair put.same put.put_c keeps.0 keeps.1

    -- what is shown of a `hand`, which may accept a debt, holds of any step
    pub made_pair : (T : PairStep (List View)) → Goes (Hand id) id T → (before outputs : List Output)
        → PairMade (T id moment conn peer) id before new_c now outputs
        → MadeOn (OnPair T id) life.connected life before outputs new new_cs
    made_pair T goes before outputs made = record {
      later = with_pair life id conn.rank made.later_conn made.later;
      said = made.said;
      makes = record {
        conn = conn;
        peer = peer;
        is = is_conn;
        later_conn = made.later_conn;
        later_peer = made.later;
        makes = subst (λ (n : ℕ). T id n conn peer made.said made.later_conn made.later) (sym is_now) made.makes;
        changed = refl;
      };
      outputs_are = made.outputs_are;
      stand = back made.later_conn made.later made.stand
          (goes moment conn peer made.said made.later_conn made.later made.makes);
      armed = refl;
      connected_is = refl;
      now = refl;
    }

    unmade_pair : (R : PairStep Fault) → Goes (Hand id) id R → (fault : Fault)
        → PairRefused (R id moment conn peer fault) id new_c now → RefusedOn (OnPair R id) life fault new new_cs
    unmade_pair R goes fault refused = record {
      later = with_pair life id conn.rank refused.later_conn refused.later;
      refuses = record {
        conn = conn;
        peer = peer;
        is = is_conn;
        later_conn = refused.later_conn;
        later_peer = refused.later;
        makes = subst (λ (n : ℕ). R id n conn peer fault refused.later_conn refused.later) (sym is_now)
            refused.refuses;
        changed = refl;
      };
      stand = back refused.later_conn refused.later refused.stand
          (goes moment conn peer fault refused.later_conn refused.later refused.refuses);
      armed = refl;
      connected_is = refl;
      now = refl;
    }

    pub refused_pair : (R : PairStep Fault) → Goes (Hand id) id R → (fault : Fault)
        → PairRefused (R id moment conn peer fault) id new_c now → RefusedOn (RefusesOn R id) life fault new new_cs
    refused_pair R goes fault refused =
        let not = unmade_pair R goes fault refused in
        record {
          later = not.later;
          refuses = inr not.refuses;
          stand = not.stand;
          armed = not.armed;
          connected_is = not.connected_is;
          now = not.now;
        }

    -- ---- the moment

    pub ticked_one : (before outputs : List Output)
        → PairMade (TakesMoment id moment conn peer) id before new_c now outputs
        → MadeOn (TicksOne put.index) life.connected life before outputs new new_cs
    ticked_one before outputs is =
        let made = made_pair TakesMoment (went_moment (Hand id) id) before outputs is in
        record {
          later = made.later;
          said = made.said;
          makes = (id, (conn, put.next), made.makes);
          outputs_are = made.outputs_are;
          stand = made.stand;
          armed = made.armed;
          connected_is = made.connected_is;
          now = made.now;
        }

    pub ticked_one_not : (fault : Fault) → PairRefused (FailsToTick id moment conn peer fault) id new_c now
        → RefusedOn (TicksOneNot put.index) life fault new new_cs
    ticked_one_not fault is =
        let not = unmade_pair FailsToTick (went_unticked (Hand id) id) fault is in
        record {
          later = not.later;
          refuses = (id, (conn, put.next), not.refuses);
          stand = not.stand;
          armed = not.armed;
          connected_is = not.connected_is;
          now = not.now;
        }
