-- How transcripts grow: what came out of one stays, and a debt is accepted only if it is offered.
use Rattle.std.proofs.Common.{◌≡◌, ◌⊎◌, ℕ, zero, suc, Bool, true, false, None, Some, List, [], ◌∷◌, ◌++◌, length, refl}
use Rattle.std.proofs.Common.{sym, ap, ◌∙◌, subst, inl, inr, append_assoc}
use Rattle.std.specs.Prelude.{◌+◌, Contains, if◌then◌else◌, is_some, nat_lt}
use Rattle.std.specs.List.{slice_get}
use Rattle.ledger_core.specs.State.{Owing}
use Rattle.conn_core.specs.Commands.{Command}
use Rattle.conn_core.specs.History.{accepted, after, answered_ask, closes, ends, ends_at_close, ends_by_answer}
use Rattle.conn_core.specs.History.{ends_by_loss, held, held_wanting, is_quit_due, output, outside, puts, reason, story}
use Rattle.conn_core.specs.History.{with_puts, with_quit, Broke, Came, End, Event as Happening, Faulted, Handed, Leave}
use Rattle.conn_core.specs.History.{Offered, Put, Sent, Taken, Tick, taken}
use Rattle.conn_core.specs.Receipt.Receives.{Is_closed, Waits, Reads, Fails as FailsToRead}
use Rattle.conn_core.specs.Receipt.{Reads_on, Receives, ReceivesSome, Stops}
use Rattle.conn_core.specs.StoryLaws.{ends-offered}
use Rattle.conn_core.specs.declared.options.Options.{Options}
use Rattle.conn_core.specs.declared.outcome.Outcome.{Outcome}
use Rattle.world_core.specs.Past.{ConnPast, PeerPast}
use Rattle.world_core.specs.Exchange.{StopsAt, all_out, followed_up, one_out, out_to, settled_out, unsettled}
use Rattle.world_core.specs.declared.fault.Fault.{Fault}
use Rattle.world_core.proofs.HeldNumbers.{contains_left, out_rank}

-- ---- lists

-- an element of a list with one more was there before, or is that one
get_push : {A : Type 0} (xs : List A) (y : A) (i : ℕ) (x : A) → slice_get (xs ++ y ∷ []) i ≡ Some x
    → (slice_get xs i ≡ Some x) ⊎ (x ≡ y)
get_push [] y zero x is = inr cc
get_push [] y (suc i) x is = let never : None ≡ Some x = is in cc
get_push (z ∷ xs) y zero x is = inl is
get_push (z ∷ xs) y (suc i) x is = get_push xs y i x is

-- ---- transcripts that grow

-- more has happened, and no debt was accepted
pub record Grew (h later : List Happening) : Type 0 where
  pub more : List Happening
  pub is : later ≡ more ++ h
  pub same : accepted later ≡ accepted h

pub grew_same : (h : List Happening) → Grew h h
grew_same h = record { more = []; is = refl; same = refl }

pub grew_one : (h : List Happening) (e : Happening) → accepted (e ∷ h) ≡ accepted h → Grew h (e ∷ h)
grew_one h e same = record { more = e ∷ []; is = refl; same = same }

pub grew_then : (h mid later : List Happening) → Grew h mid → Grew mid later → Grew h later
grew_then h mid later one other = record {
  more = other.more ++ one.more;
  is = other.is ∙ (ap (λ (l : List Happening). other.more ++ l) one.is ∙ sym (append_assoc other.more one.more h));
  same = other.same ∙ one.same;
}

grew_if : (b : Bool) (h one other : List Happening) → Grew h one → Grew h other → Grew h (if b then one else other)
grew_if true h one other first second = first
grew_if false h one other first second = second

grew_puts : (commands : List Command) (h : List Happening) → Grew h (with_puts commands h)
grew_puts [] h = grew_same h
grew_puts (command ∷ commands) h =
    grew_then h (Put command ∷ h) (with_puts commands (Put command ∷ h)) (grew_one h (Put command) refl)
    (grew_puts commands (Put command ∷ h))

grew_to : (count : ℕ) (h : List Happening) → Grew h (out_to count h)
grew_to count h = grew_if (nat_lt (taken h) count) h (Taken ∷ h) h (grew_one h Taken refl) (grew_same h)

grew_out : (os : List Outcome) (conn : ConnPast) → Grew conn.transcript (all_out os conn).transcript
grew_out [] conn = grew_same conn.transcript
grew_out (o ∷ os) conn =
    grew_then conn.transcript (one_out conn).transcript _ (grew_to (conn.settled + 1) conn.transcript)
    (grew_out os (one_out conn))

-- some outcomes went to the peer, and then no more
pub grew_stopped : (now : ℕ) (done left : List Outcome) (peer : PeerPast) (fault : Fault) (conn later : ConnPast)
    → StopsAt now left peer fault (all_out done conn) later
    → (later.rank ≡ conn.rank) × Grew conn.transcript later.transcript
grew_stopped now done left peer fault conn later (inl memory) = (
  ap (λ (c : ConnPast). c.rank) memory.1 ∙ out_rank done conn,
  subst (λ (c : ConnPast). Grew conn.transcript c.transcript) (sym memory.1) (grew_out done conn),
)
grew_stopped now done left peer fault conn later (inr end) = (
  ap (λ (c : ConnPast). c.rank) end.4 ∙ out_rank done conn,
  subst (λ (c : ConnPast). Grew conn.transcript c.transcript) (sym end.4)
      (grew_then conn.transcript (all_out done conn).transcript _ (grew_out done conn)
      (grew_to ((all_out done conn).settled + 1) (all_out done conn).transcript)),
)

module _ (options : Options) where
  grew_quit : (h : List Happening) → Grew h (with_quit options h)
  grew_quit h = grew_if (is_quit_due options h) h _ h (grew_one h _ refl) (grew_same h)

  grew_after : (h : List Happening) (e : Happening) → Grew (e ∷ h) (after options h e)
  unfolding after
  grew_after h e =
      grew_then (e ∷ h) (with_puts (puts options h e) (e ∷ h)) _ (grew_puts (puts options h e) (e ∷ h))
      (grew_quit (with_puts (puts options h e) (e ∷ h)))

  pub grew_by : (h : List Happening) (e : Happening) → accepted (e ∷ h) ≡ accepted h → Grew h (after options h e)
  grew_by h e same = grew_then h (e ∷ h) (after options h e) (grew_one h e same) (grew_after h e)

  pub grew_outside : (h : List Happening) (e : Happening) → accepted (e ∷ h) ≡ accepted h
      → Grew h (outside options h e)
  grew_outside h e same =
      grew_if (is_some (reason options h)) h h (after options h e) (grew_same h) (grew_by h e same)

  pub grew_sent : (conn : ConnPast) → Grew conn.transcript (followed_up options conn).transcript
  grew_sent conn =
      let out = (settled_out options conn).transcript in
      grew_then conn.transcript out (followed_up options conn).transcript (grew_out (unsettled options conn) conn)
      (grew_if (is_some (reason options out)) out out (Sent (length (output options out)) ∷ out) (grew_same out)
      (grew_one out (Sent (length (output options out))) refl))

  pub grew_received : (waiting left : List ℕ) (h later : List Happening) → Receives options waiting h later left
      → Grew h later
  grew_received _ _ h _ (Is_closed waiting _ closed) = grew_same h
  grew_received _ _ h _ (Waits waiting _ alive short) = grew_same h
  grew_received _ left h later (Reads waiting rest _ _ _ reply alive begins more) =
      grew_then h (after options h (Came reply)) later (grew_by h (Came reply) refl)
      (grew_received rest left (after options h (Came reply)) later more)
  grew_received _ _ h _ (FailsToRead waiting _ fault alive begins) = grew_by h (Faulted fault) refl

  grew_some : (waiting : List ℕ) (h later : List Happening) → ReceivesSome options waiting h later → Grew h later
  grew_some _ h _ (Stops waiting _ alive) = grew_same h
  grew_some _ h later (Reads_on waiting rest _ _ reply alive begins more) =
      grew_then h (after options h (Came reply)) later (grew_by h (Came reply) refl)
      (grew_some rest (after options h (Came reply)) later more)

  -- some of the whole replies were taken, and then the connection broke
  pub grew_broken : (waiting : List ℕ) (h mid : List Happening) → ReceivesSome options waiting h mid
      → Grew h (after options mid Broke)
  grew_broken waiting h mid some =
      grew_then h mid (after options mid Broke) (grew_some waiting h mid some) (grew_by mid Broke refl)

  -- if a debt is offered, only that one is accepted
  pub accepted_offered : (h : List Happening) (debt : Owing) (ticket : ℕ) (one : Owing)
      → slice_get (accepted (after options h (Offered debt))) ticket ≡ Some one
      → (slice_get (accepted h) ticket ≡ Some one) ⊎ (one ≡ debt)
  accepted_offered h debt ticket one is =
      get_push (accepted h) debt ticket one
      (sym (ap (λ (l : List Owing). slice_get l ticket) (grew_after h (Offered debt)).same) ∙ is)

  -- ---- what came out

  -- what came out stays, whatever happens
  ends_stay : (e : Happening) (h : List Happening) (x : End) → Contains (ends options h) x
      → Contains (ends options (e ∷ h)) x
  unfolding story
  ends_stay (Offered debt) h x has =
      subst (λ (xs : List End). Contains xs x) (sym (ends-offered options h debt)) has
  ends_stay (Came reply) h x has =
      contains_left _ (ends_at_close (closes options h (Came reply)) (held options h)) x
      (contains_left (ends options h) (ends_by_answer (held options h) reply.code (answered_ask options h reply)) x has)
  ends_stay (Handed number handing) h x has =
      contains_left (ends options h) (ends_by_loss handing (held_wanting h (story options h) number)) x has
  ends_stay (Faulted fault) h x has =
      contains_left (ends options h) (ends_at_close (closes options h (Faulted fault)) (held options h)) x has
  ends_stay (Tick now) h x has =
      contains_left (ends options h) (ends_at_close (closes options h (Tick now)) (held options h)) x has
  ends_stay Broke h x has =
      contains_left (ends options h) (ends_at_close (closes options h Broke) (held options h)) x has
  ends_stay (Put command) h x has = has
  ends_stay (Sent count) h x has = has
  ends_stay Leave h x has = has
  ends_stay Taken h x has = has

  ends_behind : (more h : List Happening) (x : End) → Contains (ends options h) x
      → Contains (ends options (more ++ h)) x
  ends_behind [] h x has = has
  ends_behind (e ∷ more) h x has = ends_stay e (more ++ h) x (ends_behind more h x has)

  pub ends_grew : (h later : List Happening) → Grew h later → (x : End) → Contains (ends options h) x
      → Contains (ends options later) x
  ends_grew h later grew x has =
      subst (λ (l : List Happening). Contains (ends options l) x) (sym grew.is) (ends_behind grew.more h x has)
