-- A connection that is made is one of the world's, and holds nothing.
use Rattle.std.proofs.Common.{◌≡◌, ◌↔◌, ◌⊎◌, ℕ, ◌+◌, ◌^◌, ◌<◌, ◌≤◌, Bool, true, false, cond, Option, None, Some, List}
use Rattle.std.proofs.Common.{[], ◌∷◌, ◌++◌, length, get_or, map, refl, sym, ap, ◌∙◌, subst, inl, inr, arith}
use Rattle.std.proofs.lemmas.List.{map_push}
use Rattle.std.specs.Prelude.{◌==◌, Contains, slice_get}
use Rattle.std.specs.Cmp.{nat_cmp_is}
use Rattle.std.specs.List.{AllByRecursion, AllZip, IsDistinct}
use Rattle.std.specs.List.Sorted.{IsStrictlyIncreasing, IsStrictlySortedBy}
use Rattle.std.specs.Ordering.{nat_cmp}
use Rattle.std.specs.declared.cmp.Ordering.TheVariants.{Less}
use Rattle.std.proofs.lemmas.Map.Keys.{IsStrictlyIncreasing-from_sorted, sorted_from_strictly_increasing}
use Rattle.disk_model.specs.declared.Disk.{Ghosts}
use Rattle.feed_conf.specs.declared.conf.PeerConf.{PeerConf}
use Rattle.conn_core.specs.History.{story}
use Rattle.conn_core.specs.Stands.{StandsFor as ConnStands, Starts}
use Rattle.conn_core.specs.declared.options.Options.{Options}
use Rattle.peer_queue.specs.DebtPlace.{IsHeldBy}
use Rattle.sections.specs.ListLaws.{all_push, all_weaker}
use Rattle.world_core.specs.Past.{ConnPast, Life, PeerPast, conn_at, options_of, rank_of}
use Rattle.world_core.specs.Exchange.{RefusesConnect, TakesConnect, fresh_conn}
use Rattle.world_core.specs.Joined.{AreRunning, MadeOn, RefusedOn}
use Rattle.world_core.specs.Pairs.{Reports}
use Rattle.world_core.specs.Sound.{HasNumber, IsSoundConn, numbers_at}
use Rattle.world_core.specs.Stands.{ConnectionStands, PeerStands, WaitsWith}
use Rattle.world_core.specs.Output.{Connected}
use Rattle.world_core.specs.declared.connection.Connection.{Connection}
use Rattle.world_core.specs.declared.fault.Fault.{Fault}
use Rattle.world_core.specs.declared.fault.Fault.TheVariants.{CountFull, NoMemory, NoPeer}
use Rattle.world_core.specs.declared.peer.Peer.{Peer}
use Rattle.world_core.specs.declared.stations.Stations.{Stations}
use Rattle.world_core.specs.declared.output.Output.{Output}
use Rattle.world_core.proofs.MarksAndNotes.{zip_at}
use Rattle.world_core.proofs.RelatedLists.{zip_push}

abbrev Entry : Type 0
Entry = ℕ × ConnPast

-- ---- lists

sorted_push : (xs : List ℕ) (n : ℕ) → AllByRecursion (λ (x : ℕ). x < n) xs → IsStrictlySortedBy nat_cmp xs
    → IsStrictlySortedBy nat_cmp (xs ++ n ∷ [])
unfolding IsStrictlySortedBy
sorted_push [] n below sorted = (tt, tt)
sorted_push (x ∷ xs) n below sorted = (
  all_push (λ y. nat_cmp x y ≡ Less) xs n sorted.0 (sym (nat_cmp_is x n Less below.0)),
  sorted_push xs n below.1 sorted.1,
)

pub rises_push : (xs : List ℕ) (n : ℕ) → AllByRecursion (λ (x : ℕ). x < n) xs → IsStrictlyIncreasing xs
    → IsStrictlyIncreasing (xs ++ n ∷ [])
rises_push xs n below rises =
    IsStrictlyIncreasing-from_sorted (xs ++ n ∷ []) (sorted_push xs n below (sorted_from_strictly_increasing xs rises))

pub numbers_below : (n : ℕ) (conns : List Entry) → AllByRecursion (λ (entry : Entry). entry.0 ≤ n) conns
    → AllByRecursion (λ (x : ℕ). x < n + 1) (map (λ (entry : Entry). entry.0) conns)
numbers_below n [] all = tt
numbers_below n (e ∷ conns) all = (omega (arith, all.0), numbers_below n conns all.1)

-- ---- one more connection

prefix_step : (b : Bool) (e : Entry) (found more : Option ConnPast) (k : ConnPast) → (found ≡ Some k → more ≡ Some k)
    → cond b (Some e.1) found ≡ Some k → cond b (Some e.1) more ≡ Some k
prefix_step true e found more k rest is = is
prefix_step false e found more k rest is = rest is

at_prefix : (conns : List Entry) (new : Entry) (id : ℕ) (k : ConnPast) → conn_at conns id ≡ Some k
    → conn_at (conns ++ new ∷ []) id ≡ Some k
at_prefix [] new id k is = let never : None ≡ Some k = is in cc
at_prefix (e ∷ conns) new id k is =
    prefix_step (e.0 == id) e (conn_at conns id) (conn_at (conns ++ new ∷ []) id) k (at_prefix conns new id k) is

last_step : (b : Bool) (e : Entry) (found more : Option ConnPast) (new k : ConnPast)
    → (more ≡ Some k → (found ≡ Some k) ⊎ (k ≡ new))
    → cond b (Some e.1) more ≡ Some k → (cond b (Some e.1) found ≡ Some k) ⊎ (k ≡ new)
last_step true e found more new k rest is = inl is
last_step false e found more new k rest is = rest is

one_step : (b : Bool) (new k : ConnPast) → cond b (Some new) None ≡ Some k → k ≡ new
one_step true new k is = let same : Some new ≡ Some k = is in cc
one_step false new k is = let never : None ≡ Some k = is in cc

-- what is found was there before, or is the new one
pub at_last : (conns : List Entry) (new : Entry) (id : ℕ) (k : ConnPast) → conn_at (conns ++ new ∷ []) id ≡ Some k
    → (conn_at conns id ≡ Some k) ⊎ (k ≡ new.1)
at_last [] new id k is = inr (one_step (new.0 == id) new.1 k is)
at_last (e ∷ conns) new id k is =
    last_step (e.0 == id) e (conn_at conns id) (conn_at (conns ++ new ∷ []) id) new.1 k (at_last conns new id k) is

-- a new connection has no numbers
numbers_none : (options : Options) (rank : ℕ) → numbers_at options (fresh_conn rank) ≡ []
unfolding story
numbers_none options rank = refl

none_twice : (numbers : List ℕ) → numbers ≡ [] → IsDistinct (λ one other. one == other) numbers
unfolding IsDistinct
none_twice [] is = tt
none_twice (n ∷ numbers) is = let never : n ∷ numbers ≡ [] = is in cc

none_has : (numbers : List ℕ) (n : ℕ) → numbers ≡ [] → Contains numbers n → ⊥
none_has numbers n is has = omega (arith, has.1, ap length is)

module _ {D : Type 0} {g : Ghosts D} (name : List ℕ) (life : Life) (old : Stations D g) (cs : List Connection)
    (running : AreRunning life old cs) where
  module _ (rank : ℕ) (here : rank_of life.past name ≡ Some rank) (fits : life.connected + 1 < 2 ^ 64)
      (c : Connection) (peer : Peer D g)
      (at : peer ≡ get_or old.peers.items rank peer) (within : rank < length old.peers.items)
      (stands : ConnStands (options_of peer.conf) c.conn [] []) (own : c.conn.id.0 ≡ life.connected + 1)
      (its : c.rank ≡ rank)
      (waits : c.waiting ≡ None) where
    abbrev fresh : ConnPast
    fresh = fresh_conn rank

    abbrev later_life : Life
    later_life = record life { conns = life.conns ++ (life.connected + 1, fresh) ∷ []; connected = life.connected + 1 }

    found : (p : PeerPast) × (slice_get life.past.peers rank ≡ Some p) × PeerStands p peer
    found =
        let one = zip_at PeerStands life.past.peers old.peers.items rank peer running.stands.peers within in
        (one.0, one.1, subst (λ (q : Peer D g). PeerStands one.0 q) (sym at) one.2)

    tie : (at_rank id number : ℕ) (q : PeerPast) → slice_get life.past.peers at_rank ≡ Some q
        → IsHeldBy q.places id number ↔ HasNumber later_life at_rank q id number
    tie at_rank id number q there =
        let was = running.tied.held at_rank id number q there in (
          λ is.
              let has = was.0 is in
              record {
                conn = has.conn;
                here = at_prefix life.conns (life.connected + 1, fresh) id has.conn has.here;
                its = has.its;
                has = has.has;
              },
          λ has. elim (at_last life.conns (life.connected + 1, fresh) id has.conn has.here) [
            | inl before ↦ was.1 (record { conn = has.conn; here = before; its = has.its; has = has.has })
            | inr new ↦ absurd (none_has (numbers_at (options_of q.conf) fresh) number
                (numbers_none (options_of q.conf) rank)
                (subst (λ (k : ConnPast). Contains (numbers_at (options_of q.conf) k) number) new has.has))
          ],
        )

    pub connected_made : (number : ℕ) (before outputs : List Output) (new_cs : List Connection)
        → number ≡ life.connected + 1 → new_cs ≡ cs ++ c ∷ []
        → Reports before (Connected (life.connected + 1) name ∷ []) outputs
        → MadeOn (TakesConnect name) number life before outputs old new_cs
    connected_made number before outputs new_cs is pushed reports = record {
      later = later_life;
      said = Connected (life.connected + 1) name ∷ [];
      makes = record { rank = rank; here = here; fits = fits; outputs_are = refl; changed = refl };
      outputs_are = reports;
      stand = record {
        running = running.running;
        stands = running.stands;
        conns = subst (AllZip (ConnectionStands life.past.peers) (life.conns ++ (life.connected + 1, fresh) ∷ []))
            (sym pushed)
            (zip_push (ConnectionStands life.past.peers) life.conns cs (life.connected + 1, fresh) c running.conns
            (record {
              id = own;
              rank = its;
              peer = found.0;
              here = found.1;
              holds = subst (λ (conf : PeerConf). ConnStands (options_of conf) c.conn [] []) found.2.conf stands;
              waits = subst (WaitsWith found.0.conf fresh) (sym waits) refl;
            }));
        tied = record {
          rising = subst IsStrictlyIncreasing
              (sym (map_push (λ (entry : Entry). entry.0) life.conns (life.connected + 1, fresh)))
              (rises_push (map (λ (entry : Entry). entry.0) life.conns) (life.connected + 1)
              (numbers_below life.connected life.conns running.tied.made) running.tied.rising);
          made = all_push (λ (entry : Entry). entry.0 ≤ life.connected + 1) life.conns (life.connected + 1, fresh)
              (all_weaker (λ (entry : Entry). entry.0 ≤ life.connected)
              (λ (entry : Entry). entry.0 ≤ life.connected + 1)
              (λ entry less. omega (arith, less)) life.conns running.tied.made) (omega arith);
          each = all_push (λ (entry : Entry). IsSoundConn life.past.peers entry.1) life.conns (
            life.connected + 1,
            fresh,
          ) running.tied.each (record {
            peer = found.0;
            here = found.1;
            arises = Starts;
            once = none_twice (numbers_at (options_of found.0.conf) fresh)
                (numbers_none (options_of found.0.conf) rank);
          });
          held = tie;
          none = λ stopped. let never : true ≡ false = sym running.running ∙ stopped in cc;
        };
      };
      armed = refl;
      connected_is = sym is;
      now = refl;
    }

  -- ---- the connection was refused

  refused_so : (fault : Fault) (new_cs : List Connection) → new_cs ≡ cs → RefusesConnect name life fault life
      → RefusedOn (RefusesConnect name) life fault old new_cs
  refused_so fault new_cs same refuses = record {
    later = life;
    refuses = refuses;
    stand = subst (AreRunning life old) (sym same) running;
    armed = refl;
    connected_is = refl;
    now = refl;
  }

  pub connect_absent : rank_of life.past name ≡ None → RefusedOn (RefusesConnect name) life NoPeer old cs
  connect_absent none = refused_so NoPeer cs refl (inl (refl, none), refl)

  pub connect_full : (rank : ℕ) → rank_of life.past name ≡ Some rank → life.connected + 1 ≡ 2 ^ 64
      → RefusedOn (RefusesConnect name) life CountFull old cs
  connect_full rank here full = refused_so CountFull cs refl (inr ((rank, here), inl (refl, full)), refl)

  pub connect_memory : (rank : ℕ) (fault : Fault) (new_cs : List Connection) → rank_of life.past name ≡ Some rank
      → life.connected + 1 < 2 ^ 64
      → fault ≡ NoMemory → new_cs ≡ cs → RefusedOn (RefusesConnect name) life fault old new_cs
  connect_memory rank fault new_cs here fits memory same =
      refused_so fault new_cs same (inr ((rank, here), inr (memory, fits)), refl)
