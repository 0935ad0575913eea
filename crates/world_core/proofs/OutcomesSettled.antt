-- The outcomes of a step on a connection go to the peer one after another, and are reported.
use Rattle.std.proofs.Common.{◌≡◌, ℕ, List, [], ◌∷◌, ◌++◌, map, refl, sym, ap, ◌∙◌, subst, append_assoc, append-nil}
use Rattle.std.proofs.lemmas.List.{map_push}
use Rattle.disk_model.specs.declared.Disk.{Ghosts}
use Rattle.feed_conf.specs.declared.conf.PeerConf.{PeerConf}
use Rattle.conn_core.specs.declared.outcome.Outcome.{Outcome}
use Rattle.world_core.specs.Past.{ConnPast, PeerPast, options_of}
use Rattle.world_core.specs.Exchange.{None_settled, One_settled, StopsAt, all_out, one_out, unsettled}
use Rattle.world_core.specs.Pairs.{FollowedNot, PairMade, PairRefused, PairStands, SettledAll, SettledNone, SettledNot}
use Rattle.world_core.specs.Pairs.{SettledOne, SettledSome, settled_view}
use Rattle.world_core.specs.Output.{View, view_of}
use Rattle.world_core.specs.declared.connection.Connection.{Connection}
use Rattle.world_core.specs.declared.fault.Fault.{Fault}
use Rattle.world_core.specs.declared.peer.Peer.{Peer}
use Rattle.world_core.specs.declared.output.Output.{Output}
use Rattle.world_core.proofs.OutcomeSettled.{conf_settled}

out_more : (done : List Outcome) (outcome : Outcome) (conn : ConnPast)
    → all_out (done ++ outcome ∷ []) conn ≡ one_out (all_out done conn)
out_more [] outcome conn = refl
out_more (o ∷ done) outcome conn = out_more done outcome (one_out conn)

-- what is reported of an outcome depends only on its peer's settings
said_same : (id now : ℕ) (one other : PeerPast) (outcome : Outcome) → one.conf ≡ other.conf
    → settled_view id now one outcome ≡ settled_view id now other outcome
said_same id now one other outcome same = ap (λ (c : PeerConf). said_at c) same
  where
    said_at : PeerConf → View
    said_at c = settled_view id now (record other { conf = c }) outcome

module _ {D : Type 0} {g : Ghosts D} where
  pub settled_start : (id now : ℕ) (conn : ConnPast) (past : PeerPast) (connection : Connection) (peer : Peer D g)
      (outputs : List Output)
      → PairStands id conn past connection peer → SettledSome id now conn past outputs [] past connection peer outputs
  settled_start id now conn past connection peer outputs pair = record {
    split = refl;
    settles = None_settled;
    same_conf = refl;
    outputs_are = sym (append-nil (map view_of outputs));
    stand = pair;
  }

  module _ (id now : ℕ) (conn : ConnPast) (past : PeerPast) (was : List Output) (done : List Outcome)
      (mid : PeerPast) where
    pub settled_more : (old_c new_c : Connection) (old new : Peer D g) (outputs more : List Output)
        → SettledSome id now conn past was done mid old_c old outputs
        → SettledOne id now (all_out done conn) mid outputs new_c new more
        → (done' : List Outcome) × (later : PeerPast) × SettledSome id now conn past was done' later new_c new more
    settled_more old_c new_c old new outputs more some one =
        let o = one.outcome in
        let one_more = out_more done o conn in
        let next = subst (λ (c : PeerConf). unsettled (options_of c) (all_out done conn)
        ≡ o ∷ unsettled (options_of c) (one_out (all_out done conn))) some.same_conf one.next in (
          done ++ o ∷ [],
          one.later,
          record {
            split = some.split ∙ (ap (λ l. done ++ l) next ∙ (sym (append_assoc done (o ∷ []) _)
                ∙ ap (λ (k : ConnPast). (done ++ o ∷ []) ++ unsettled (options_of past.conf) k) (sym one_more)));
            settles = One_settled done o mid one.later some.settles one.settles;
            same_conf = ap (λ (p : PeerPast). p.conf) one.settles.changed ∙ (conf_settled now o mid ∙ some.same_conf);
            outputs_are = one.outputs_are ∙ (ap (λ l. l ++ settled_view id now mid o ∷ []) some.outputs_are
                ∙ (append_assoc (map view_of was) _ _ ∙ ap (λ l. map view_of was ++ l)
                (ap (λ said. map (settled_view id now past) done ++ said ∷ [])
                (said_same id now mid past o some.same_conf)
                ∙ sym (map_push (settled_view id now past) done o))));
            stand = subst (λ (k : ConnPast). PairStands id k one.later new_c new) (sym one_more) one.stand;
          },
        )

    pub settled_all : (old_c new_c : Connection) (old new : Peer D g) (outputs more : List Output)
        → SettledSome id now conn past was done mid old_c old outputs
        → SettledNone id (all_out done conn) mid outputs new_c new more
        → SettledAll id now conn past was new_c new more
    settled_all old_c new_c old new outputs more some none =
        let left = subst (λ (c : PeerConf). unsettled (options_of c) (all_out done conn) ≡ [])
        some.same_conf none.none in
        let all : unsettled (options_of past.conf) conn ≡ done =
        some.split ∙ (ap (λ l. done ++ l) left ∙ append-nil done) in
        record {
          later = mid;
          some = subst (λ (os : List Outcome). SettledSome id now conn past was os mid new_c new more) (sym all)
              (record {
                split = some.split;
                settles = some.settles;
                same_conf = some.same_conf;
                outputs_are = none.outputs_are ∙ (append-nil (map view_of outputs) ∙ some.outputs_are);
                stand = none.stand;
              });
        }

    pub settled_refused : (old_c new_c : Connection) (old new : Peer D g) (outputs : List Output) (fault : Fault)
        → SettledSome id now conn past was done mid old_c old outputs
        → SettledNot id now (all_out done conn) mid fault new_c new
        → FollowedNot id now conn past fault new_c new
    settled_refused old_c new_c old new outputs fault some not = record {
      later_conn = not.later_conn;
      later = mid;
      refuses = record {
        done = done;
        left = unsettled (options_of past.conf) (all_out done conn);
        split = some.split;
        settles = some.settles;
        why = subst (λ (c : PeerConf).
            StopsAt now (unsettled (options_of c) (all_out done conn)) mid fault (all_out done conn) not.later_conn)
            some.same_conf not.why;
      };
      stand = not.stand;
    }

-- ---- what follows a step, as what the step makes

module _ {D : Type 0} {g : Ghosts D} where
  pub made_by : (T U : List View → ConnPast → PeerPast → Type 0) (id : ℕ) (before : List Output) (c : Connection)
      (peer : Peer D g) (outputs : List Output)
      → ((said : List View) (later_conn : ConnPast) (later : PeerPast) → T said later_conn later
      → U said later_conn later)
      → PairMade T id before c peer outputs → PairMade U id before c peer outputs
  made_by T U id before c peer outputs by made = record {
    said = made.said;
    later_conn = made.later_conn;
    later = made.later;
    makes = by made.said made.later_conn made.later made.makes;
    outputs_are = made.outputs_are;
    stand = made.stand;
  }

  pub refused_by : (R S : ConnPast → PeerPast → Type 0) (id : ℕ) (c : Connection) (peer : Peer D g)
      → ((later_conn : ConnPast) (later : PeerPast) → R later_conn later → S later_conn later)
      → PairRefused R id c peer → PairRefused S id c peer
  refused_by R S id c peer by refused = record {
    later_conn = refused.later_conn;
    later = refused.later;
    refuses = by refused.later_conn refused.later refused.refuses;
    stand = refused.stand;
  }
