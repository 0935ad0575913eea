-- What is reported after the outcomes of a step on a connection; and its output counts as sent.
use Rattle.std.proofs.Common.{◌≡◌, ℕ, Bool, true, false, Option, List, [], ◌++◌, length, map, refl, sym, ap, ◌∙◌, subst}
use Rattle.std.proofs.Common.{inl, append-nil}
use Rattle.std.specs.Prelude.{if◌then◌else◌, is_none, is_some}
use Rattle.disk_model.specs.declared.Disk.{Ghosts}
use Rattle.feed_conf.specs.declared.conf.PeerConf.{PeerConf}
use Rattle.conn_core.specs.History.{Event as Happening, Sent, need, noted, output, reason}
use Rattle.conn_core.specs.Stands.{HoldsBack, StandsFor as ConnStands, left_behind}
use Rattle.conn_core.specs.State.{Holding}
use Rattle.conn_core.specs.declared.options.Options.{Options}
use Rattle.conn_core.specs.declared.reason.Reason.{Reason}
use Rattle.world_core.specs.Past.{ConnPast, PeerPast, options_of}
use Rattle.world_core.specs.Exchange.{followed_up, settled_out, unsettled}
use Rattle.world_core.specs.Pairs.{Followed, FollowedNot, SettledAll, Reports, settled_view}
use Rattle.world_core.specs.Stands.{HoldsTranscript}
use Rattle.world_core.specs.Output.{SentLine, closed_view, lines_in, need_view}
use Rattle.world_core.specs.declared.connection.Connection.{Connection}
use Rattle.world_core.specs.declared.fault.Fault.{Fault}
use Rattle.world_core.specs.declared.fault.Fault.TheVariants.{NoMemory}
use Rattle.world_core.specs.declared.peer.Peer.{Peer}
use Rattle.world_core.specs.declared.output.Output.{Output}
use Rattle.world_core.proofs.HeldOrOutcome.{GoesOn, goes_noted}
use Rattle.world_core.proofs.OutputLines.{reports_both}
use Rattle.world_core.proofs.PairTied.{pair_on}

-- ---- octets that are held back

left_step : (closed : Bool) (conn : Holding) (unread : List ℕ) → HoldsBack closed conn.reader unread
    → (if closed then [] else unread) ≡ unread
left_step true conn unread none = sym none
left_step false conn unread short = refl

-- once closed, a connection holds none back
pub left_same : (options : Options) (conn : Holding) (unread : List ℕ) (h : List Happening)
    → ConnStands options conn unread h
    → left_behind options unread h ≡ unread
unfolding ConnStands
left_same options conn unread h stands = left_step (is_some (reason options h)) conn unread stands.1

module _ {D : Type 0} {g : Ghosts D} where
  module _ (id now : ℕ) (conn : ConnPast) (past : PeerPast) (before : List Output) (mid_c : Connection)
      (peer : Peer D g) (one : List Output)
      (all : SettledAll id now conn past before mid_c peer one) where
    abbrev out : ConnPast
    out = settled_out (options_of past.conf) conn

    -- the connection after its outcomes
    stands_out : ConnStands (options_of past.conf) mid_c.conn out.unread out.transcript
    stands_out = subst (λ (c : PeerConf). HoldsTranscript c out mid_c) all.some.same_conf all.some.stand.holds

    -- memory is refused after them
    pub as_refused : (fault : Fault) → fault ≡ NoMemory → FollowedNot id now conn past fault mid_c peer
    as_refused fault is = record {
      later_conn = out;
      later = all.later;
      refuses = record {
        done = unsettled (options_of past.conf) conn;
        left = [];
        split = sym (append-nil (unsettled (options_of past.conf) conn));
        settles = all.some.settles;
        why = inl (is, refl);
      };
      stand = all.some.stand;
    }

    pub followed : (was : List Happening) (new_c : Connection) (two three outputs : List Output) (cxn count : ℕ)
        (was_open : Bool)
        (sending : List ℕ) (wanted : Option ℕ) (closed : Option Reason) → cxn ≡ mid_c.conn.id.0
        → ((o : Options) (unread : List ℕ) (h : List Happening) → ConnStands o mid_c.conn unread h
        → sending ≡ output o h)
        → ((o : Options) (unread : List ℕ) (h : List Happening) → ConnStands o mid_c.conn unread h → wanted ≡ need o h)
        → ((o : Options) (unread : List ℕ) (h : List Happening) → ConnStands o mid_c.conn unread h
        → closed ≡ reason o h)
        → Reports one (map (SentLine cxn) (lines_in sending)) two → Reports two (need_view cxn wanted) three
        → ((w : Option Reason) → was_open ≡ is_none w → Reports three (closed_view cxn w closed) outputs)
        → was_open ≡ is_none (reason (options_of past.conf) was) → count ≡ length sending
        → new_c.rank ≡ mid_c.rank → new_c.waiting ≡ mid_c.waiting → new_c.conn.id ≡ mid_c.conn.id
        → ((o : Options) (unread : List ℕ) (h : List Happening) → ConnStands o mid_c.conn unread h
        → ConnStands o new_c.conn unread (noted o h (Sent count)))
        → Followed id now was conn past before new_c peer outputs
    followed was new_c two three outputs cxn count was_open sending wanted closed own sends needs closes sent_so needed
        says was_is count_is rank waits same_id sent =
        let o = options_of past.conf in
        let h = out.transcript in
        let own_id : cxn ≡ id = own ∙ all.some.stand.id_is in
        let sending_is : sending ≡ output o h = sends o out.unread h stands_out in
        let many : count ≡ length (output o h) = count_is ∙ ap length sending_is in
        let same : options_of all.later.conf ≡ o = ap options_of all.some.same_conf in
        let new_stands : ConnStands o new_c.conn (left_behind o out.unread h) (noted o h (Sent (length (output o h)))) =
        subst (λ (u : List ℕ). ConnStands o new_c.conn u (noted o h (Sent (length (output o h)))))
        (sym (left_same o mid_c.conn out.unread h stands_out))
        (subst (λ (n : ℕ). ConnStands o new_c.conn out.unread (noted o h (Sent n))) many
        (sent o out.unread h stands_out)) in
        record {
          said = map (settled_view id now past) (unsettled o conn)
              ++ (map (SentLine id) (lines_in (output o h))
              ++ (need_view id (need o h) ++ closed_view id (reason o was) (reason o h)));
          later_conn = followed_up o conn;
          later = all.later;
          makes = record { settles = all.some.settles; outputs_are = refl; changed = refl };
          outputs_are = reports_both before one outputs _ _ all.some.outputs_are (reports_both one two outputs _ _
              (subst (λ (l : List ℕ). Reports one (map (SentLine id) (lines_in l)) two) sending_is
              (subst (λ (n : ℕ). Reports one (map (SentLine n) (lines_in sending)) two) own_id sent_so))
              (reports_both two three outputs _ _
              (subst (λ (w : Option ℕ). Reports two (need_view id w) three) (needs o out.unread h stands_out)
              (subst (λ (n : ℕ). Reports two (need_view n wanted) three) own_id needed))
              (subst (λ (r : Option Reason). Reports three (closed_view id (reason o was) r) outputs)
              (closes o out.unread h stands_out)
              (subst (λ (n : ℕ). Reports three (closed_view n (reason o was) closed) outputs) own_id
              (says (reason o was) was_is)))));
          stand = pair_on id out (followed_up o conn) all.later mid_c new_c peer all.some.stand refl refl
              (subst (λ (x : Options). GoesOn x h (followed_up o conn).transcript) (sym same)
              (goes_noted o h (length (output o h))))
              (subst (λ (x : Options).
              ConnStands x new_c.conn (followed_up o conn).unread (followed_up o conn).transcript) (sym same)
              new_stands) waits rank same_id;
        }
