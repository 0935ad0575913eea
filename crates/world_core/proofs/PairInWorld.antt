-- A connection of a world and its peer, taken out and put back: what they do is a step of the world.
use Rattle.std.proofs.Common.{◌≡◌, ◌↔◌, ℕ, zero, suc, ◌<◌, ◌≤◌, Bool, true, false, cond, Option, None, Some, List, []}
use Rattle.std.proofs.Common.{◌∷◌, length, get_or, map, refl, sym, ap, ◌∙◌, subst, inl, inr, arith}
use Rattle.std.specs.Prelude.{◌==◌, Contains, if◌then◌else◌, option_map, slice_get}
use Rattle.std.proofs.Math.ListN.{set}
use Rattle.std.specs.List.{AllByRecursion, AllZip, IsDistinct}
use Rattle.std.specs.List.Sorted.{IsStrictlyIncreasing}
use Rattle.std.proofs.lemmas.Bool.{cases_eq, cases_lt, eq-eqb, eqb-true, ne_eqb}
use Rattle.std.proofs.lemmas.List.Kept.{AllPairs-from_increasing}
use Rattle.std.proofs.lemmas.Option.{get_or_from_slice_get, slice_get-map, slice_get_within}
use Rattle.disk_model.specs.declared.Disk.{Ghosts}
use Rattle.feed_conf.specs.declared.conf.PeerConf.{PeerConf}
use Rattle.conn_core.specs.Stands.{Arises}
use Rattle.peer_queue.specs.DebtPlace.{IsHeldBy}
use Rattle.sections.specs.ListLaws.{all_at, all_set, all_weaker, zip_weaker}
use Rattle.world_core.specs.Past.{ConnPast, Life, PeerPast, conn_at, options_of, with_conn, with_past, with_peer}
use Rattle.world_core.specs.Joined.{AreRunning}
use Rattle.world_core.specs.Pairs.{PairStands}
use Rattle.world_core.specs.Sound.{HasNumber, IsSoundConn, numbers_at}
use Rattle.world_core.specs.Stands.{ConnectionStands, HoldsTranscript, PeerStands, WaitsWith}
use Rattle.world_core.specs.declared.connection.Connection.{Connection}
use Rattle.world_core.specs.declared.peer.Peer.{Peer}
use Rattle.world_core.specs.declared.stations.Stations.{Stations}
use Rattle.world_core.proofs.PeerInWorld.{PeerKeeps, get_apart, get_set, sound_with}
use Rattle.world_core.proofs.PairTied.{stands_arise}
use Rattle.world_core.proofs.MarksAndNotes.{map_set, zip_at, zip_set}
use Rattle.world_core.proofs.StationCalls.{WithPeer, stands_with}

-- ---- connections by their numbers

abbrev Entry : Type 0
Entry = ℕ × ConnPast

pub once : {A : Type 0} (x y : A) → Some x ≡ Some y → x ≡ y
once x y same = cc

number_there : (conns : List Entry) (j : ℕ) (e : Entry) (d : ℕ) → slice_get conns j ≡ Some e
    → get_or (map (λ (x : Entry). x.0) conns) j d ≡ e.0
number_there conns j e d there =
    get_or_from_slice_get (map (λ (x : Entry). x.0) conns) j e.0 d
    (slice_get-map (λ (x : Entry). x.0) conns j ∙ ap (option_map (λ (x : Entry). x.0)) there)

within_there : (conns : List Entry) (j : ℕ) (e : Entry) → slice_get conns j ≡ Some e
    → j < length (map (λ (x : Entry). x.0) conns)
within_there conns j e there =
    slice_get_within (map (λ (x : Entry). x.0) conns) j e.0
    (slice_get-map (λ (x : Entry). x.0) conns j ∙ ap (option_map (λ (x : Entry). x.0)) there)

-- those at other places have other numbers
apart_there : (conns : List Entry) → IsStrictlyIncreasing (map (λ (x : Entry). x.0) conns)
    → (i j : ℕ) (one other : Entry)
    → slice_get conns i ≡ Some one → slice_get conns j ≡ Some other → (j ≡ i → ⊥) → other.0 ≡ one.0 → ⊥
apart_there conns rising i j one other here there apart same =
    let pairs = AllPairs-from_increasing (map (λ (x : Entry). x.0) conns) rising in
    elim (cases_lt i j) [
      | inl less ↦
          let below = pairs i j 0 less (within_there conns j other there) in
          let a = number_there conns i one 0 here in
          let b = number_there conns j other 0 there in
          omega (arith, below, a, b, same)
      | inr more ↦
          let less : j < i = elim (cases_lt j i) [
            | inl is ↦ is
            | inr is ↦ absurd (apart (omega (arith, more, is)))
          ] in
          let below = pairs j i 0 less (within_there conns i one here) in
          let a = number_there conns i one 0 here in
          let b = number_there conns j other 0 there in
          omega (arith, below, a, b, same)
    ]

first_there : (conns : List Entry) (i id : ℕ) (conn : ConnPast) → slice_get conns i ≡ Some (id, conn)
    → ((j : ℕ) (e : Entry) → j < i → slice_get conns j ≡ Some e → e.0 ≡ id → ⊥) → conn_at conns id ≡ Some conn
first_there [] i id conn here before = let never : None ≡ Some (id, conn) = here in cc
first_there (e ∷ conns) zero id conn here before =
    let same : e ≡ (id, conn) = once e (id, conn) here in
    ap (λ (x : Entry). cond (x.0 == id) (Some x.1) (conn_at conns id)) same
    ∙ ap (λ (b : Bool). cond b (Some conn) (conn_at conns id)) (eq-eqb id id refl)
first_there (e ∷ conns) (suc i) id conn here before =
    ap (λ (b : Bool). cond b (Some e.1) (conn_at conns id)) (ne_eqb e.0 id (before 0 e (omega arith) refl))
    ∙ first_there conns i id conn here (λ j x less there. before (suc j) x (omega (arith, less)) there)

-- the connection at this place is found by its number
pub conn_there : (conns : List Entry) → IsStrictlyIncreasing (map (λ (x : Entry). x.0) conns)
    → (i id : ℕ) (conn : ConnPast)
    → slice_get conns i ≡ Some (id, conn) → conn_at conns id ≡ Some conn
conn_there conns rising i id conn here =
    first_there conns i id conn here
    (λ j e less there. apart_there conns rising i j (id, conn) e here there (λ same. omega (arith, less, same)))

abbrev put : ℕ → ConnPast → Entry → Entry
put id conn entry = if entry.0 == id then (id, conn) else entry

put_none : (conns : List Entry) (id : ℕ) (conn : ConnPast)
    → ((j : ℕ) (e : Entry) → slice_get conns j ≡ Some e → e.0 ≡ id → ⊥)
    → map (put id conn) conns ≡ conns
put_none [] id conn none = refl
put_none (e ∷ conns) id conn none =
    ap (λ (b : Bool). (if b then (id, conn) else e) ∷ map (put id conn) conns) (ne_eqb e.0 id (none 0 e refl))
    ∙ ap (λ l. e ∷ l) (put_none conns id conn (λ j x there. none (suc j) x there))

put_one : (conns : List Entry) (i id : ℕ) (was conn : ConnPast) → slice_get conns i ≡ Some (id, was)
    → ((j : ℕ) (e : Entry) → (j ≡ i → ⊥) → slice_get conns j ≡ Some e → e.0 ≡ id → ⊥)
    → map (put id conn) conns ≡ set conns i (id, conn)
put_one [] i id was conn here none = refl
put_one (e ∷ conns) zero id was conn here none =
    let same : e ≡ (id, was) = once e (id, was) here in
    ap (λ (x : Entry). put id conn x ∷ map (put id conn) conns) same
    ∙ (ap (λ (b : Bool). (if b then (id, conn) else (id, was)) ∷ map (put id conn) conns) (eq-eqb id id refl)
    ∙ ap (λ l. (id, conn) ∷ l) (put_none conns id conn (λ j x there. none (suc j) x (λ is. omega (arith, is)) there)))
put_one (e ∷ conns) (suc i) id was conn here none =
    ap (λ (b : Bool). (if b then (id, conn) else e) ∷ map (put id conn) conns)
    (ne_eqb e.0 id (none 0 e (λ is. omega (arith, is)) refl))
    ∙ ap (λ l. e ∷ l) (put_one conns i id was conn here
    (λ j x apart there. none (suc j) x (λ is. apart (omega (arith, is))) there))

-- the connection at this place is replaced
pub put_there : (conns : List Entry) → IsStrictlyIncreasing (map (λ (x : Entry). x.0) conns)
    → (i id : ℕ) (was conn : ConnPast)
    → slice_get conns i ≡ Some (id, was) → map (put id conn) conns ≡ set conns i (id, conn)
put_there conns rising i id was conn here =
    put_one conns i id was conn here (λ j e apart there. apart_there conns rising i j (id, was) e here there apart)

-- a connection of another number is found as before
put_step : (b : Bool) (e : Entry) (conns : List Entry) (id other : ℕ) (conn : ConnPast) → (e.0 == id) ≡ b
    → (other ≡ id → ⊥)
    → conn_at (map (put id conn) conns) other ≡ conn_at conns other
    → conn_at ((if b then (id, conn) else e) ∷ map (put id conn) conns) other ≡ conn_at (e ∷ conns) other
put_step true e conns id other conn is apart rest =
    let here : (id == other) ≡ false = ne_eqb id other (λ same. apart (sym same)) in
    let there : (e.0 == other) ≡ false = ne_eqb e.0 other (λ same. apart (sym same ∙ eqb-true e.0 id is)) in
    ap (λ (b : Bool). cond b (Some conn) (conn_at (map (put id conn) conns) other)) here
    ∙ (rest ∙ sym (ap (λ (b : Bool). cond b (Some e.1) (conn_at conns other)) there))
put_step false e conns id other conn is apart rest = ap (λ (o : Option ConnPast). cond (e.0 == other) (Some e.1) o) rest

pub put_other : (conns : List Entry) (id other : ℕ) (conn : ConnPast) → (other ≡ id → ⊥)
    → conn_at (map (put id conn) conns) other ≡ conn_at conns other
put_other [] id other conn apart = refl
put_other (e ∷ conns) id other conn apart =
    put_step (e.0 == id) e conns id other conn refl apart (put_other conns id other conn apart)

abbrev IsDistinctAt : List ℕ → Type 0
IsDistinctAt numbers = IsDistinct (λ one other. one == other) numbers

-- ---- a peer with the same settings stands for the same connections

peer_stays : (peers : List PeerPast) (rank at : ℕ) (was now peer : PeerPast) → slice_get peers rank ≡ Some was
    → now.conf ≡ was.conf
    → slice_get peers at ≡ Some peer → (there : PeerPast) × (slice_get (set peers rank now) at ≡ Some there)
    × (there.conf ≡ peer.conf)
peer_stays peers rank at was now peer here same found = elim (cases_eq at rank) [
  | inl is ↦
      let one : Some was ≡ Some peer = sym here ∙ (ap (slice_get peers) (sym is) ∙ found) in (
        now,
        ap (slice_get (set peers rank now)) is ∙ get_set peers rank was now here,
        same ∙ ap (λ (p : PeerPast). p.conf) (once was peer one),
      )
  | inr differ ↦ (peer, get_apart peers rank at now differ ∙ found, refl)
]

conns_stay : (peers : List PeerPast) (rank : ℕ) (was now : PeerPast) → slice_get peers rank ≡ Some was
    → now.conf ≡ was.conf
    → (entries : List Entry) (cs : List Connection) → AllZip (ConnectionStands peers) entries cs
    → AllZip (ConnectionStands (set peers rank now)) entries cs
conns_stay peers rank was now here same entries cs all =
    zip_weaker (ConnectionStands peers) (ConnectionStands (set peers rank now)) (λ e c is.
    let found = peer_stays peers rank e.1.rank was now is.peer here same is.here in
    record {
      id = is.id;
      rank = is.rank;
      peer = found.0;
      here = found.1;
      holds = subst (λ (conf : PeerConf). HoldsTranscript conf e.1 c) (sym found.2) is.holds;
      waits = subst (λ (conf : PeerConf). WaitsWith conf e.1 c.waiting) (sym found.2) is.waits;
    }) entries cs all

sound_stays : (peers : List PeerPast) (rank : ℕ) (was now : PeerPast) → slice_get peers rank ≡ Some was
    → now.conf ≡ was.conf
    → (entry : Entry) → IsSoundConn peers entry.1 → IsSoundConn (set peers rank now) entry.1
sound_stays peers rank was now here same entry sound =
    let found = peer_stays peers rank entry.1.rank was now sound.peer here same sound.here in
    record {
      peer = found.0;
      here = found.1;
      arises = subst (λ (conf : PeerConf). Arises (options_of conf) entry.1.transcript) (sym found.2) sound.arises;
      once = subst (λ (conf : PeerConf). IsDistinctAt (numbers_at (options_of conf) entry.1)) (sym found.2) sound.once;
    }

module _ {D : Type 0} {g : Ghosts D} where
  -- ---- the connection and its peer, taken out

  module _ (life : Life) (old : Stations D g) (cs : List Connection) (running : AreRunning life old cs)
      (index rank id : ℕ)
      (conn : ConnPast) (peer : PeerPast) (next : slice_get life.conns index ≡ Some (id, conn))
      (at : conn.rank ≡ rank)
      (here : slice_get life.past.peers rank ≡ Some peer) where
    is_there : conn_at life.conns id ≡ Some conn
    is_there = conn_there life.conns running.tied.rising index id conn next

    sound_conn : IsSoundConn life.past.peers conn
    sound_conn = all_at (λ (entry : Entry). IsSoundConn life.past.peers entry.1) life.conns index (id, conn)
        running.tied.each next

    its_peer : (p : PeerPast) → slice_get life.past.peers conn.rank ≡ Some p → p ≡ peer
    its_peer p found = once p peer (sym found ∙ (ap (slice_get life.past.peers) at ∙ here))

    pub pair_there : (c : Connection) (was : Peer D g) → c ≡ get_or cs index c → index < length cs
        → was ≡ get_or old.peers.items rank was
        → rank < length old.peers.items → PairStands id conn peer c was
    pair_there c was c_at in_cs was_at in_peers =
        let entry = zip_at (ConnectionStands life.past.peers) life.conns cs index c running.conns in_cs in
        let same : entry.0 ≡ (id, conn) = once entry.0 (id, conn) (sym entry.1 ∙ next) in
        let stands : ConnectionStands life.past.peers (id, conn) c =
        subst (λ (e : Entry). ConnectionStands life.past.peers e c) same
        (subst (λ (x : Connection). ConnectionStands life.past.peers entry.0 x) (sym c_at) entry.2) in
        let found = zip_at PeerStands life.past.peers old.peers.items rank was running.stands.peers in_peers in
        let same_peer : found.0 ≡ peer = once found.0 peer (sym found.1 ∙ here) in
        let s = sound_conn in
        record {
          id_is = stands.id;
          rank = stands.rank;
          holds = subst (λ (p : PeerPast). HoldsTranscript p.conf conn c) (its_peer stands.peer stands.here)
              stands.holds;
          waits = subst (λ (p : PeerPast). WaitsWith p.conf conn c.waiting) (its_peer stands.peer stands.here)
              stands.waits;
          stands = subst (λ (p : PeerPast). PeerStands p was) same_peer
              (subst (λ (q : Peer D g). PeerStands found.0 q) (sym was_at) found.2);
          tied = record {
            held = λ number. (
              λ is. let has = (running.tied.held rank id number peer here).0 is in
                  subst (λ (k : ConnPast). Contains (numbers_at (options_of peer.conf) k) number)
                  (once has.conn conn (sym has.here ∙ is_there)) has.has,
              λ has. (running.tied.held rank id number peer here).1
                  (record { conn = conn; here = is_there; its = at; has = has }),
            );
            once = subst (λ (p : PeerPast). IsDistinctAt (numbers_at (options_of p.conf) conn))
                (its_peer s.peer s.here) s.once;
          };
        }

    -- ---- and put back

    module _ (new : Stations D g) (new_cs : List Connection) (c : Connection) (now : Peer D g) (later_conn : ConnPast)
        (later : PeerPast)
        (pair : PairStands id later_conn later c now) (same : WithPeer old new rank now)
        (put_c : new_cs ≡ set cs index c)
        (keeps : PeerKeeps id peer later) (same_rank : later_conn.rank ≡ conn.rank) where
      abbrev pub later_life : Life
      later_life = with_conn (with_past life (with_peer life.past rank later)) id later_conn

      conns_are : later_life.conns ≡ set life.conns index (id, later_conn)
      conns_are = put_there life.conns running.tied.rising index id conn later_conn next

      later_here : slice_get (set life.past.peers rank later) rank ≡ Some later
      later_here = get_set life.past.peers rank peer later here

      now_there : conn_at later_life.conns id ≡ Some later_conn
      now_there =
          let rises : IsStrictlyIncreasing (map (λ (x : Entry). x.0) (set life.conns index (id, later_conn))) =
          subst IsStrictlyIncreasing
          (sym (map_set (λ (x : Entry). x.0) life.conns index (id, conn) (id, later_conn) next refl))
          running.tied.rising in
          ap (λ (l : List Entry). conn_at l id) conns_are
          ∙ conn_there (set life.conns index (id, later_conn)) rises index id later_conn
          (get_set life.conns index (id, conn) (id, later_conn) next)

      its_rank : later_conn.rank ≡ rank
      its_rank = same_rank ∙ at

      held_here : (number : ℕ) → IsHeldBy later.places id number ↔ HasNumber later_life rank later id number
      held_here number = (
        λ is. record { conn = later_conn; here = now_there; its = its_rank; has = (pair.tied.held number).0 is },
        λ has. (pair.tied.held number).1
            (subst (λ (k : ConnPast). Contains (numbers_at (options_of later.conf) k) number)
            (once has.conn later_conn (sym has.here ∙ now_there)) has.has),
      )

      other_same : (other : ℕ) → (other ≡ id → ⊥) → conn_at later_life.conns other ≡ conn_at life.conns other
      other_same other apart = put_other life.conns id other later_conn apart

      held_other : (other number : ℕ) → (other ≡ id → ⊥)
          → IsHeldBy later.places other number ↔ HasNumber later_life rank later other number
      held_other other number apart =
          let tie = running.tied.held rank other number peer here in (
            λ is.
                let has = tie.0 ((keeps.others other number apart).0 is) in
                record {
                  conn = has.conn;
                  here = other_same other apart ∙ has.here;
                  its = has.its;
                  has = subst (λ (conf : PeerConf).
                      Contains (numbers_at (options_of conf) has.conn) number) (sym keeps.conf) has.has;
                },
            λ has. (keeps.others other number apart).1 (tie.1 (record {
              conn = has.conn;
              here = sym (other_same other apart) ∙ has.here;
              its = has.its;
              has = subst (λ (conf : PeerConf). Contains (numbers_at (options_of conf) has.conn) number)
                  keeps.conf has.has;
            })),
          )

      held_apart : (at_rank other number : ℕ) (q : PeerPast) → (at_rank ≡ rank → ⊥)
          → slice_get life.past.peers at_rank ≡ Some q
          → IsHeldBy q.places other number ↔ HasNumber later_life at_rank q other number
      held_apart at_rank other number q apart found =
          let tie = running.tied.held at_rank other number q found in
          elim (cases_eq other id) [
            | inl own ↦ (
              λ is.
                  let has = tie.0 is in
                  let same_conn : has.conn ≡ conn =
                  once has.conn conn (sym has.here ∙ (ap (conn_at life.conns) own ∙ is_there)) in
                  absurd (apart (sym has.its ∙ (ap (λ (k : ConnPast). k.rank) same_conn ∙ at))),
              λ has.
                  let same_conn : has.conn ≡ later_conn =
                  once has.conn later_conn (sym has.here ∙ (ap (conn_at later_life.conns) own ∙ now_there)) in
                  absurd (apart (sym has.its ∙ (ap (λ (k : ConnPast). k.rank) same_conn ∙ its_rank))),
            )
            | inr differ ↦ (
              λ is.
                  let has = tie.0 is in
                  record { conn = has.conn; here = other_same other differ ∙ has.here; its = has.its; has = has.has },
              λ has. tie.1 (record {
                conn = has.conn;
                here = sym (other_same other differ) ∙ has.here;
                its =
                    has.its;
                has = has.has;
              }),
            )
          ]

      held_all : (at_rank other number : ℕ) (q : PeerPast)
          → slice_get (set life.past.peers rank later) at_rank ≡ Some q
          → IsHeldBy q.places other number ↔ HasNumber later_life at_rank q other number
      held_all at_rank other number q found = elim (cases_eq at_rank rank) [
        | inl own ↦
            let is : later ≡ q = once later q
            (sym later_here ∙ (ap (slice_get (set life.past.peers rank later)) (sym own) ∙ found)) in
            subst (λ (p : PeerPast). IsHeldBy p.places other number ↔ HasNumber later_life at_rank p other number) is
            (subst (λ (k : ℕ). IsHeldBy later.places other number ↔ HasNumber later_life k later other number)
            (sym own) (elim (cases_eq other id) [
              | inl mine ↦ subst (λ (k : ℕ). IsHeldBy later.places k number
                  ↔ HasNumber later_life rank later k number) (sym mine) (held_here number)
              | inr differ ↦ held_other other number differ
            ]))
        | inr apart ↦ held_apart at_rank other number q apart
            (sym (get_apart life.past.peers rank at_rank later apart) ∙ found)
      ]

      pub put_back : AreRunning later_life new new_cs
      put_back = record {
        running = running.running;
        stands = stands_with old new life.past rank later now running.stands same pair.stands
            (sound_with life.past rank id peer later here keeps running.stands.sound);
        conns = subst (λ (entries : List Entry).
            AllZip (ConnectionStands (set life.past.peers rank later)) entries new_cs) (sym conns_are)
            (subst (λ (l : List Connection).
            AllZip (ConnectionStands (set life.past.peers rank later)) (set life.conns index (id, later_conn)) l)
            (sym put_c)
            (zip_set (ConnectionStands (set life.past.peers rank later)) life.conns cs index (id, later_conn) c
            (conns_stay life.past.peers rank peer later here keeps.conf life.conns cs running.conns)
            (record {
              id = pair.id_is;
              rank = pair.rank;
              peer = later;
              here = ap (slice_get (set life.past.peers rank later)) its_rank ∙ later_here;
              holds = pair.holds;
              waits = pair.waits;
            })));
        tied = record {
          rising = subst (λ (entries : List Entry). IsStrictlyIncreasing (map (λ (x : Entry). x.0) entries))
              (sym conns_are)
              (subst IsStrictlyIncreasing
              (sym (map_set (λ (x : Entry). x.0) life.conns index (id, conn) (id, later_conn) next refl))
              running.tied.rising);
          made = subst (AllByRecursion (λ (entry : Entry). entry.0 ≤ life.connected)) (sym conns_are)
              (all_set (λ (entry : Entry). entry.0 ≤ life.connected) life.conns index (id, later_conn) running.tied.made
              (all_at (λ (entry : Entry). entry.0 ≤ life.connected) life.conns index (id, conn) running.tied.made
              next));
          each = subst (AllByRecursion (λ (entry : Entry). IsSoundConn (set life.past.peers rank later) entry.1))
              (sym conns_are)
              (all_set (λ (entry : Entry). IsSoundConn (set life.past.peers rank later) entry.1) life.conns index
              (id, later_conn)
              (all_weaker (λ (entry : Entry). IsSoundConn life.past.peers entry.1)
              (λ (entry : Entry). IsSoundConn (set life.past.peers rank later) entry.1)
              (sound_stays life.past.peers rank peer later here keeps.conf) life.conns running.tied.each)
              (record {
                peer = later;
                here = ap (slice_get (set life.past.peers rank later)) its_rank ∙ later_here;
                arises = (stands_arise (options_of later.conf) c.conn later_conn.unread later_conn.transcript
                    pair.holds).0;
                once = pair.tied.once;
              }));
          held = held_all;
          none = λ stopped. let never : true ≡ false = sym running.running ∙ stopped in cc;
        };
      }
