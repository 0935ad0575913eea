-- Replies that are read one after another.
use Rattle.std.proofs.Common.{◌≡◌, ℕ, ◌<◌, Bool, true, false, List, [], ◌∷◌, ◌++◌, length, refl, sym, ap, subst, ◌∙◌, Option, Some, None, arith}
use Rattle.std.proofs.Math.ListN.{length-append}
use Rattle.std.specs.Prelude.{is_some, not, Result, Ok, Err, OnErr}
use Rattle.reply_reader.specs.Stream.{Given, Held as Reading, Working, Broken, AtWork, BeginsWithReply, BeginsWithNoReply, IsShort, IsTooLong, after_feed}
use Rattle.reply_reader.specs.Next.{GivesReply}
use Rattle.reply_reader.specs.declared.fault.ReplyFault.{ReplyFault}
use Rattle.reply_reader.specs.declared.fault.ReplyFault.TheVariants.{TooLong, NoCode, NoMemory, Failed}
use Rattle.conn_core.specs.History.{Event, Came, Faulted, reason, after}
use Rattle.conn_core.specs.Left.{IsAhead, IsLeftOpen, IsReading, ReadsOne, size_of}
use Rattle.conn_core.specs.Machine.{on_reply, on_fault}
use Rattle.conn_core.specs.Receipt.{BeginsWithFault, Receives, Is_closed, Waits, Reads, Fails, ReceivesSome, Stops, Reads_on}
use Rattle.conn_core.specs.Stands.{Arises, StandsFor, Matches, Goes_on}
use Rattle.conn_core.specs.State.{Holding}
use Rattle.conn_core.specs.declared.options.Options.{Options}
use Rattle.conn_core.proofs.Calls.{makes-stands, arises-of, back-of, state-of}
use Rattle.conn_core.specs.ClosingLaws.{reason-after}
use Rattle.conn_core.proofs.Public.{on_reply-stands, on_fault-stands}

none-of : {A : Type 0} (o : Option A) → is_some o ≡ false → o ≡ None
none-of None e = refl
none-of (Some x) e = cc

module _ (options : Options) (conn new : Holding) (waiting : List ℕ) (h : List Event) (reading : IsReading options conn waiting h) where
  open_now : IsLeftOpen options conn h
  open_now = reading.left_open

  module _ (reply : Given) (rest : List ℕ) (begins : BeginsWithReply waiting reply rest) (reader : new.reader ≡ Working rest) (state : new.state ≡ on_reply conn.state reply) where
    on_reply-arises : Arises options (after options h (Came reply))
    on_reply-arises = let a = Goes_on h (Came reply) open_now.arises tt in rw open_now.running at a

    on_reply-now : Matches options new.state (after options h (Came reply))
    on_reply-now = subst (λ v. Matches options v (after options h (Came reply))) (sym state)
        (on_reply-stands options conn.state h reply open_now.arises open_now.stands open_now.running)

    -- a reply was read; the result says whether the connection is still open
    pub reads-reply : (more : Bool) → is_some new.state.closed ≡ not more → ReadsOne options waiting h new more
    reads-reply true e =
        let running = sym on_reply-now.closed_is ∙ none-of new.state.closed e in
        (reply, rest, begins, record { left_open = record { arises = on_reply-arises; stands = on_reply-now; running = running }; reader = reader })
    reads-reply false e =
        let closed : is_some (reason options (after options h (Came reply))) ≡ true = ap is_some (sym on_reply-now.closed_is) ∙ e in (
          after options h (Came reply),
          [],
          Reads waiting rest [] h (after options h (Came reply)) reply open_now.running begins (Is_closed rest (after options h (Came reply)) closed),
          makes-stands options new [] (after options h (Came reply)) on_reply-arises (rw closed refl) on_reply-now,
        )

  -- no whole reply waits
  pub reads-none : IsShort waiting → new.reader ≡ conn.reader → new.state ≡ conn.state → ReadsOne options waiting h new false
  reads-none short reader state = (
    h,
    waiting,
    Waits waiting h open_now.running short,
    makes-stands options new waiting h open_now.arises (rw open_now.running (reader ∙ reading.reader, short))
        (subst (λ v. Matches options v h) (sym state) open_now.stands),
  )

  -- a fault waits
  pub reads-fault : (fault : ReplyFault) → BeginsWithFault waiting fault → new.state ≡ on_fault conn.state fault → ReadsOne options waiting h new false
  reads-fault fault begins state =
      let a = Goes_on h (Faulted fault) open_now.arises tt in
      let closed : is_some (reason options (after options h (Faulted fault))) ≡ true = rw (reason-after options h (Faulted fault), open_now.running) refl in (
        after options h (Faulted fault),
        [],
        Fails waiting h fault open_now.running begins,
        makes-stands options new [] (after options h (Faulted fault)) (rw open_now.running at a) (rw closed refl)
            (subst (λ v. Matches options v (after options h (Faulted fault))) (sym state) (on_fault-stands options conn.state h fault open_now.stands open_now.running)),
      )

  -- memory was refused
  pub reads-nothing : new.state ≡ conn.state → IsLeftOpen options new h
  reads-nothing state = record { arises = open_now.arises; stands = subst (λ v. Matches options v h) (sym state) open_now.stands; running = open_now.running }

-- a rest is shorter
pub size-rest : (waiting rest : List ℕ) (reply : Given) → BeginsWithReply waiting reply rest → size_of (Working rest) < size_of (Working waiting)
size-rest waiting rest reply begins =
    let whole = ap length begins.1 ∙ length-append begins.0 (10 ∷ rest) in
    omega (arith, whole)

-- at the start
pub ahead-start : (options : Options) (start : List ℕ) (h : List Event) → IsAhead options start h start h
ahead-start options start h = record { all = λ last left r. r; some = λ last r. r }

-- one reply further
pub ahead-more : (options : Options) (start waiting rest : List ℕ) (h later : List Event) (reply : Given) → IsAhead options start h waiting later → reason options later ≡ None
    → BeginsWithReply waiting reply rest → IsAhead options start h rest (after options later (Came reply))
ahead-more options start waiting rest h later reply ahead running begins = record {
  all = λ last left r. ahead.all last left (Reads waiting rest left later last reply running begins r);
  some = λ last r. ahead.some last (Reads_on waiting rest later last reply running begins r);
}

-- a reader that works
pub at-work : (r : Reading) (waiting : List ℕ) (P : List ℕ → Type 0) → r ≡ Working waiting → AtWork r P → P waiting
at-work r waiting P e w = subst (λ s. AtWork s P) e w

-- a reply leaves less to read
pub shorter-reply : (r new : Reading) (reply : Given) → GivesReply r new reply → size_of new < size_of r
shorter-reply r new reply g = rw (g.waited, g.waits) (size-rest g.unread g.rest reply g.begins)

-- the reply that is given is the first of what waits
pub begins-reply : (r new : Reading) (waiting : List ℕ) (reply : Given) (g : GivesReply r new reply) → r ≡ Working waiting
    → BeginsWithReply waiting reply g.rest
begins-reply r new waiting reply g e =
    let both : Working g.unread ≡ Working waiting = sym g.waited ∙ e in
    let same : g.unread ≡ waiting = cc in
    subst (λ u. BeginsWithReply u reply g.rest) same g.begins

-- which fault waits
pub begins-fault : (r : Reading) (waiting : List ℕ) (fault : ReplyFault) → r ≡ Working waiting → (fault ≡ TooLong → AtWork r IsTooLong) → (fault ≡ NoCode → AtWork r BeginsWithNoReply)
    → (fault ≡ Failed → r ≡ Broken) → (fault ≡ NoMemory → ⊥) → BeginsWithFault waiting fault
begins-fault r waiting TooLong e long code failed memory = at-work r waiting IsTooLong e (long refl)
begins-fault r waiting NoCode e long code failed memory = at-work r waiting BeginsWithNoReply e (code refl)
begins-fault r waiting NoMemory e long code failed memory = memory refl
begins-fault r waiting Failed e long code failed memory = let broken = failed refl in cc

-- a closed connection receives nothing
pub closed-receives : (options : Options) (conn : Holding) (unread octets : List ℕ) (h : List Event) → StandsFor options conn unread h → is_some conn.state.closed ≡ true
    → (later : List Event) × (left : List ℕ) × Receives options (unread ++ octets) h later left × StandsFor options conn left later
closed-receives options conn unread octets h st e =
    let closed : is_some (reason options h) ≡ true = ap is_some (sym (state-of options conn unread h st).closed_is) ∙ e in
    let back = rw closed at (back-of options conn unread h st) in
    (h, [], Is_closed (unread ++ octets) h closed, subst (λ u. StandsFor options conn u h) back st)

-- an open one has no reason to close
pub open-runs : (options : Options) (conn : Holding) (unread : List ℕ) (h : List Event) → StandsFor options conn unread h → is_some conn.state.closed ≡ false → reason options h ≡ None
open-runs options conn unread h st e = none-of (reason options h) (ap is_some (sym (state-of options conn unread h st).closed_is) ∙ e)

-- it takes octets in
pub fed-reads : (options : Options) (conn new : Holding) (unread octets : List ℕ) (h : List Event) → StandsFor options conn unread h → reason options h ≡ None
    → new.reader ≡ after_feed conn.reader octets → new.state ≡ conn.state → IsReading options new (unread ++ octets) h
fed-reads options conn new unread octets h st running reader state =
    let back = rw running at (back-of options conn unread h st) in record {
      left_open = record { arises = arises-of options conn unread h st; stands = subst (λ v. Matches options v h) (sym state) (state-of options conn unread h st); running = running };
      reader = reader ∙ ap (λ r. after_feed r octets) back.0;
    }

pub stops-at-once : (options : Options) (conn new : Holding) (unread octets : List ℕ) (h : List Event) → StandsFor options conn unread h → reason options h ≡ None → new.state ≡ conn.state
    → (later : List Event) × ReceivesSome options (unread ++ octets) h later × IsLeftOpen options new later
stops-at-once options conn new unread octets h st running state = (
  h,
  Stops (unread ++ octets) h running,
  record { arises = arises-of options conn unread h st; stands = subst (λ v. Matches options v h) (sym state) (state-of options conn unread h st); running = running },
)

-- memory was refused after some of the replies
pub refuses-later : {T E : Type 0} (r : Result T E) (conn new : Holding) (octets : List ℕ)
    → ((options : Options) (unread : List ℕ) (h : List Event) → StandsFor options conn unread h → reason options h ≡ None
    → (later : List Event) × ReceivesSome options (unread ++ octets) h later × IsLeftOpen options new later)
    → OnErr r ((options : Options) (unread : List ℕ) (h : List Event) → StandsFor options conn unread h → reason options h ≡ None
    → (later : List Event) × ReceivesSome options (unread ++ octets) h later × IsLeftOpen options new later)
refuses-later (Ok x) conn new octets p = tt
refuses-later (Err e) conn new octets p = p
