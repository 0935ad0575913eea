-- Octets that come in on a connection, and an article that is handed in.
use Rattle.std.proofs.Common.{◌≡◌, ℕ, Bool, true, false, Option, None, Some, List, [], ◌∷◌, ◌++◌, refl, sym, ap, ◌∙◌}
use Rattle.std.specs.Prelude.{cond, find, if◌then◌else◌, is_some, option_map, slice_get}
use Rattle.std.proofs.lemmas.Bool.{eq-eqb}
use Rattle.disk_model.specs.declared.Disk.{Ghosts}
use Rattle.article_store.specs.declared.store.Found.{Found}
use Rattle.conn_core.specs.UsedLaws.{find-left_from}
use Rattle.conn_core.specs.Commands.{Handing, Want, is_of}
use Rattle.conn_core.specs.History.{Broke, Came, Event as Happening, Faulted, Handed, after, need, needed}
use Rattle.conn_core.specs.History.{reason, story}
use Rattle.conn_core.specs.Receipt.{Fails, Is_closed, IsHandedAs, Reads, Reads_on, Receives, ReceivesSome, Stops, Waits}
use Rattle.conn_core.specs.Stands.{StandsFor as ConnStands}
use Rattle.conn_core.specs.Used.{first_left, left_from}
use Rattle.conn_core.specs.declared.options.Options.{Options}
use Rattle.world_core.specs.Past.{ConnPast, PeerPast, options_of}
use Rattle.world_core.specs.Exchange.{with_transcript}
use Rattle.world_core.specs.Pairs.{PairStands}
use Rattle.world_core.specs.declared.connection.Connection.{Connection}
use Rattle.world_core.specs.declared.peer.Peer.{Peer}
use Rattle.world_core.proofs.HeldOrOutcome.{GoesOn, goes_after, goes_nowhere, goes_then}
use Rattle.world_core.proofs.PairTied.{pair_on}

module _ (o : Options) where
  -- ---- replies that are read

  goes_receives : (waiting left : List ℕ) (h later : List Happening) → Receives o waiting h later left
      → GoesOn o h later
  goes_receives _ _ h _ (Is_closed waiting _ closed) = goes_nowhere o h
  goes_receives _ _ h _ (Waits waiting _ alive short) = goes_nowhere o h
  goes_receives _ left h later (Reads waiting rest _ _ _ reply alive begins more) =
      goes_then o h (after o h (Came reply)) later (goes_after o h (Came reply) tt)
      (goes_receives rest left (after o h (Came reply)) later more)
  goes_receives _ _ h _ (Fails waiting _ fault alive begins) = goes_after o h (Faulted fault) tt

  goes_some : (waiting : List ℕ) (h later : List Happening) → ReceivesSome o waiting h later → GoesOn o h later
  goes_some _ h _ (Stops waiting _ alive) = goes_nowhere o h
  goes_some _ h later (Reads_on waiting rest _ _ reply alive begins more) =
      goes_then o h (after o h (Came reply)) later (goes_after o h (Came reply) tt)
      (goes_some rest (after o h (Came reply)) later more)

  goes_broken : (waiting : List ℕ) (h mid : List Happening) → ReceivesSome o waiting h mid
      → GoesOn o h (after o mid Broke)
  goes_broken waiting h mid some =
      goes_then o h mid (after o mid Broke) (goes_some waiting h mid some) (goes_after o mid Broke tt)

pub no_more : {A : Type 0} (o : Option A) → ((x : A) → o ≡ Some x → ⊥) → o ≡ None
no_more None never = refl
no_more (Some x) never = absurd (never x refl)

-- ---- an article that is wanted is needed

module _ (o : Options) where
  first_needed : (number : ℕ) (wants : List Want) (handed : List ℕ) (left : List Want) → left_from 0 wants handed ≡ left
      → option_map (λ (want : Want). want.key) (slice_get left 0) ≡ Some number
      → first_left (is_of number) handed 0 wants ≡ None → ⊥
  first_needed number wants handed [] is wanted none = let never : None ≡ Some number = wanted in cc
  first_needed number wants handed (want ∷ rest) is wanted none =
      let same : want.key ≡ number = cc in
      let found : find (is_of number) (want ∷ rest) ≡ Some want =
      ap (λ (b : Bool). cond b (Some want) (find (is_of number) rest)) (eq-eqb want.key number same) in
      let never : Some want ≡ None = sym found ∙ (ap (find (is_of number)) (sym is)
      ∙ (find-left_from (is_of number) handed 0 wants ∙ ap (option_map (λ (x : ℕ × Want). x.1)) none)) in
      cc

  wanted_step : (b : Bool) (wants : List Want) (handed : List ℕ) (number : ℕ)
      → (if b then None else option_map (λ (want : Want). want.key) (slice_get (left_from 0 wants handed) 0))
      ≡ Some number
      → (if b then None else first_left (is_of number) handed 0 wants) ≡ None → ⊥
  wanted_step true wants handed number wanted none = let never : None ≡ Some number = wanted in cc
  wanted_step false wants handed number wanted none =
      first_needed number wants handed (left_from 0 wants handed) refl wanted none

pub wanted_needed : (o : Options) (h : List Happening) (number : ℕ) → need o h ≡ Some number
    → needed o h number ≡ None → ⊥
wanted_needed o h number wanted none =
    wanted_step o (is_some (reason o h)) (story o h).wants (story o h).handed number wanted none

module _ {D : Type 0} {g : Ghosts D} (id : ℕ) (conn : ConnPast) (past : PeerPast) (old new : Connection)
    (peer : Peer D g)
    (pair : PairStands id conn past old peer) (waits : new.waiting ≡ old.waiting) (rank : new.rank ≡ old.rank)
    (same_id : new.conn.id ≡ old.conn.id) where
  -- the connection after octets were read
  pub pair_received : (octets : List ℕ)
      → ((o : Options) (unread : List ℕ) (h : List Happening) → ConnStands o old.conn unread h
      → (later : List Happening) × (left : List ℕ) × Receives o (unread ++ octets) h later left
      × ConnStands o new.conn left later)
      → (later : List Happening) × (left : List ℕ)
      × Receives (options_of past.conf) (conn.unread ++ octets) conn.transcript later left
      × PairStands id (record conn { unread = left; transcript = later }) past new peer
  pair_received octets reads =
      let so = reads (options_of past.conf) conn.unread conn.transcript pair.holds in (
        so.0,
        so.1,
        so.2,
        pair_on id conn (record conn { unread = so.1; transcript = so.0 }) past old new peer pair refl refl
            (goes_receives (options_of past.conf) (conn.unread ++ octets) so.1 conn.transcript so.0 so.2) so.3 waits
            rank same_id,
      )

  pub pair_unread : (octets : List ℕ)
      → ((o : Options) (unread : List ℕ) (h : List Happening) → ConnStands o old.conn unread h
      → (later : List Happening) × ReceivesSome o (unread ++ octets) h later
      × ConnStands o new.conn [] (after o later Broke))
      → (mid : List Happening) × ReceivesSome (options_of past.conf) (conn.unread ++ octets) conn.transcript mid
      × PairStands id (record conn { unread = []; transcript = after (options_of past.conf) mid Broke }) past new
      peer
  pair_unread octets reads =
      let so = reads (options_of past.conf) conn.unread conn.transcript pair.holds in (
        so.0,
        so.1,
        pair_on id conn (record conn { unread = []; transcript = after (options_of past.conf) so.0 Broke }) past old
            new peer pair refl refl
            (goes_broken (options_of past.conf) (conn.unread ++ octets) conn.transcript so.0 so.1) so.2 waits rank
            same_id,
      )

  -- and after an article was handed in
  pub pair_handed : (found : Found) (number : ℕ)
      → ((o : Options) (unread : List ℕ) (h : List Happening) → ConnStands o old.conn unread h
      → (is_some (needed o h number) ≡ true)
      × ((handing : Handing) × IsHandedAs found handing
      × ConnStands o new.conn unread (after o h (Handed number handing))))
      → (handing : Handing) × IsHandedAs found handing
      × PairStands id (with_transcript conn (after (options_of past.conf) conn.transcript (Handed number handing)))
      past new peer
  pair_handed found number hands =
      let so = hands (options_of past.conf) conn.unread conn.transcript pair.holds in (
        so.1.0,
        so.1.1,
        pair_on id conn (with_transcript conn (after (options_of past.conf) conn.transcript (Handed number so.1.0)))
            past old new peer pair refl refl
            (goes_after (options_of past.conf) conn.transcript (Handed number so.1.0) tt)
            so.1.2 waits rank same_id,
      )
