-- What each call of a connection makes of the transcripts that it stands for.
use Rattle.std.proofs.Common.{◌≡◌, ℕ, suc, zero, ◌≤◌, ◌<◌, Bool, true, false, List, [], ◌∷◌, length, refl, sym, subst, ◌∙◌, Option, Some, None, arith}
use Rattle.std.specs.Prelude.{◌&&◌, is_some, is_none, if◌then◌else◌, option_map, slice_get}
use Rattle.reply_reader.specs.Stream.{Held as Reading, Working, IsShort}
use Rattle.ledger_core.specs.State.{Owing}
use Rattle.conn_core.specs.Commands.{Handing, Want}
use Rattle.conn_core.specs.History.{Event, Offered, Handed, Sent, Tick, Broke, Leave, Taken, taken, reason, outcomes, after, outside, noted, needed}
use Rattle.conn_core.specs.State.{Holding, State, output_of}
use Rattle.conn_core.specs.Stands.{Arises, Starts, HoldsBack, StandsFor, Matches, Takes, left_behind, ready_of, Goes_on}
use Rattle.conn_core.specs.Machine.{fresh, offered, handed, ticked, close, asked_to_quit, sent_off, ready_at, TakesOne}
use Rattle.conn_core.specs.declared.options.Options.{Options}
use Rattle.conn_core.specs.declared.ready.Ready.TheVariants.{Yes}
use Rattle.conn_core.specs.declared.reason.Reason.{Reason}
use Rattle.conn_core.specs.declared.reason.Reason.TheVariants.{Broken}
use Rattle.conn_core.specs.declared.outcome.Outcome.{Outcome}
use Rattle.conn_core.specs.ClosingLaws.{first_reason-none, reason-after, ready-open, needed-open}
use Rattle.conn_core.proofs.Public.{fresh-stands, offered-stands, handed-stands, ticked-stands, broke-stands, quit_if_due-stands, sent-stands, taken-stands, none_taken-stands, ready-is, output-is}

pub makes-stands : (options : Options) (conn : Holding) (unread : List ℕ) (h : List Event) → Arises options h
    → HoldsBack (is_some (reason options h)) conn.reader unread → Matches options conn.state h → StandsFor options conn unread h
unfolding StandsFor
makes-stands options conn unread h a b c = (a, b, c)

pub arises-of : (options : Options) (conn : Holding) (unread : List ℕ) (h : List Event) → StandsFor options conn unread h → Arises options h
unfolding StandsFor
arises-of options conn unread h st = st.0

pub back-of : (options : Options) (conn : Holding) (unread : List ℕ) (h : List Event) → StandsFor options conn unread h → HoldsBack (is_some (reason options h)) conn.reader unread
unfolding StandsFor
back-of options conn unread h st = st.1

pub state-of : (options : Options) (conn : Holding) (unread : List ℕ) (h : List Event) → StandsFor options conn unread h → Matches options conn.state h
unfolding StandsFor
state-of options conn unread h st = st.2

pub fresh-call : (options : Options) (conn : Holding) → conn.reader ≡ Working [] → conn.state ≡ fresh options → IsShort [] → StandsFor options conn [] []
fresh-call options conn reader state short =
    makes-stands options conn [] [] Starts (reader, short) (subst (λ v. Matches options v []) (sym state) (fresh-stands options))

holds-open : (r r' : Option Reason) (reader reader' : Reading) (unread : List ℕ) → r ≡ None → r' ≡ None → reader' ≡ reader → HoldsBack (is_some r) reader unread → HoldsBack (is_some r') reader' unread
holds-open None None reader reader' unread e f same back = (same ∙ back.0, back.1)
holds-open None (Some why) reader reader' unread e f same back = cc
holds-open (Some why) r' reader reader' unread e f same back = cc

pub if-open : {A : Type 0} (o : Option Reason) (x y : A) → o ≡ None → (if is_some o then x else y) ≡ y
if-open None x y e = refl
if-open (Some why) x y e = cc

if-closed : {A : Type 0} (o : Option Reason) (why : Reason) (x y : A) → o ≡ Some why → (if is_some o then x else y) ≡ x
if-closed None why x y e = cc
if-closed (Some other) why x y e = refl

module _ (options : Options) (conn new : Holding) (unread : List ℕ) (h : List Event) (st : StandsFor options conn unread h) (reader : new.reader ≡ conn.reader) where
  before : Matches options conn.state h
  before = state-of options conn unread h st

  -- an event that leaves it open
  goes-on : (later : List Event) (s : State) → reason options h ≡ None → reason options later ≡ None → Arises options later → new.state ≡ s → Matches options s later
      → StandsFor options new unread later
  goes-on later s running still arises state stands =
      makes-stands options new unread later arises (holds-open _ _ conn.reader new.reader unread running still reader (back-of options conn unread h st))
      (subst (λ v. Matches options v later) (sym state) stands)

  -- nothing happened
  pub stays : new.state ≡ conn.state → StandsFor options new unread h
  stays state = makes-stands options new unread h (arises-of options conn unread h st) (subst (λ r. HoldsBack (is_some (reason options h)) r unread) (sym reader) (back-of options conn unread h st))
      (subst (λ v. Matches options v h) (sym state) before)

  pub offered-call : (debt : Owing) → ready_at conn.state ≡ Yes → new.state ≡ offered conn.state debt
      → (ready_of options h ≡ Yes) × StandsFor options new unread (after options h (Offered debt))
  offered-call debt is_ready state =
      let ready = sym (ready-is options conn.state h before) ∙ is_ready in
      let running = ready-open (reason options h) _ _ ready in
      let still = reason-after options h (Offered debt) ∙ first_reason-none (reason options h) ∙ running in (
        ready,
        goes-on (after options h (Offered debt)) (offered conn.state debt) running still (Goes_on h (Offered debt) (arises-of options conn unread h st) ready) state
            (offered-stands options conn.state h debt before running ready),
      )

  pub handed-call : (number : ℕ) (handing : Handing) → is_some (needed options h number) ≡ true → new.state ≡ handed conn.state number handing
      → StandsFor options new unread (after options h (Handed number handing))
  handed-call number handing is_needed state =
      let running = needed-open (reason options h) _ is_needed in
      let still = reason-after options h (Handed number handing) ∙ first_reason-none (reason options h) ∙ running in
      goes-on (after options h (Handed number handing)) (handed conn.state number handing) running still
      (Goes_on h (Handed number handing) (arises-of options conn unread h st) is_needed) state (handed-stands options conn.state h number handing before running)

  quit-step : (r : Option Reason) → reason options h ≡ r → new.state ≡ (if is_some conn.state.closed then conn.state else asked_to_quit conn.state)
      → StandsFor options new unread (outside options h Leave)
  quit-step (Some why) e state = rw e (stays (state ∙ if-closed conn.state.closed why _ _ (before.closed_is ∙ e)))
  quit-step None e state =
      let still = reason-after options h Leave ∙ first_reason-none (reason options h) ∙ e in
      let arises = Goes_on h Leave (arises-of options conn unread h st) tt in
      rw e (goes-on (after options h Leave) (asked_to_quit conn.state) e still (rw e at arises) (state ∙ if-open conn.state.closed _ _ (before.closed_is ∙ e)) (quit_if_due-stands options conn.state h before e))

  pub quit-call : new.state ≡ (if is_some conn.state.closed then conn.state else asked_to_quit conn.state) → StandsFor options new unread (outside options h Leave)
  quit-call state = quit-step (reason options h) refl state

  sent-step : (count : ℕ) (r : Option Reason) → reason options h ≡ r → count ≤ length (output_of conn.state)
      → new.state ≡ (if is_some conn.state.closed then conn.state else sent_off conn.state count) → StandsFor options new unread (noted options h (Sent count))
  sent-step count (Some why) e few state = rw e (stays (state ∙ if-closed conn.state.closed why _ _ (before.closed_is ∙ e)))
  sent-step count None e few state =
      let still = first_reason-none (reason options h) ∙ e in
      let few_of = subst (λ (o : List ℕ). count ≤ length o) (output-is options conn.state h before) few in
      let arises = Goes_on h (Sent count) (arises-of options conn unread h st) few_of in
      let few_sent = subst (λ (o : List ℕ). count ≤ length o) (if-open conn.state.closed [] conn.state.output (before.closed_is ∙ e)) few in
      rw e (goes-on (Sent count ∷ h) (sent_off conn.state count) e still (rw e at arises) (state ∙ if-open conn.state.closed _ _ (before.closed_is ∙ e)) (sent-stands options conn.state h count before e few_sent))

  pub sent-call : (count : ℕ) → count ≤ length (output_of conn.state)
      → new.state ≡ (if is_some conn.state.closed then conn.state else sent_off conn.state count) → StandsFor options new unread (noted options h (Sent count))
  sent-call count few state = sent-step count (reason options h) refl few state

  left-step : (b : Bool) (later : List Event) → is_some (reason options later) ≡ b → (reason options later ≡ None → HoldsBack false new.reader unread)
      → HoldsBack (is_some (reason options later)) new.reader (if is_some (reason options later) then [] else unread)
  left-step true later e open_back = rw e refl
  left-step false later e open_back = rw e (open_back (none-of (reason options later) e)) where
    none-of : (r : Option Reason) → is_some r ≡ false → r ≡ None
    none-of None f = refl
    none-of (Some why) f = cc

  open_reader : reason options h ≡ None → HoldsBack false new.reader unread
  open_reader e = let back = rw e at (back-of options conn unread h st) in (reader ∙ back.0, back.1)

  tick-step : (now : ℕ) (r : Option Reason) → reason options h ≡ r → new.state ≡ (if is_some conn.state.closed then conn.state else ticked conn.state now)
      → StandsFor options new (left_behind options unread (outside options h (Tick now))) (outside options h (Tick now))
  tick-step now (Some why) e state =
      let back = rw e at (back-of options conn unread h st) in
      let same = stays (state ∙ if-closed conn.state.closed why _ _ (before.closed_is ∙ e)) in
      rw (e, e) (subst (λ u. StandsFor options new u h) back same)
  tick-step now None e state =
      let arises = Goes_on h (Tick now) (arises-of options conn unread h st) tt in
      let later = after options h (Tick now) in
      rw e (makes-stands options new _ (after options h (Tick now)) (rw e at arises) (left-step _ (after options h (Tick now)) refl (λ f. open_reader e))
      (subst (λ v. Matches options v (after options h (Tick now))) (sym (state ∙ if-open conn.state.closed _ _ (before.closed_is ∙ e))) (ticked-stands options conn.state h now before e)))

  pub tick-call : (now : ℕ) → new.state ≡ (if is_some conn.state.closed then conn.state else ticked conn.state now)
      → StandsFor options new (left_behind options unread (outside options h (Tick now))) (outside options h (Tick now))
  tick-call now state = tick-step now (reason options h) refl state

-- it broke, whatever its reader holds
pub broke-call : (options : Options) (conn new : Holding) (h : List Event) → Arises options h → Matches options conn.state h → reason options h ≡ None
    → new.state ≡ close Broken conn.state → StandsFor options new [] (after options h Broke)
broke-call options conn new h arises before running state =
    let out = Goes_on h Broke arises tt in
    let closed = reason-after options h Broke in
    let why : is_some (reason options (after options h Broke)) ≡ true = rw (closed, running) refl in
    makes-stands options new [] (after options h Broke) (rw running at out) (rw why refl)
    (subst (λ v. Matches options v (after options h Broke)) (sym state) (broke-stands options conn.state h before running))

some-lt : (xs : List Outcome) (i : ℕ) (x : Outcome) → slice_get xs i ≡ Some x → i < length xs
some-lt [] i x e = cc
some-lt (y ∷ xs) zero x e = omega arith
some-lt (y ∷ xs) (suc i) x e = let rest = some-lt xs i x e in omega (arith, rest)

module _ (options : Options) (conn new : Holding) (unread : List ℕ) (h : List Event) (st : StandsFor options conn unread h) (reader : new.reader ≡ conn.reader) where
  broken-step : (r : Option Reason) → reason options h ≡ r → new.state ≡ (if is_some conn.state.closed then conn.state else close Broken conn.state)
      → StandsFor options new [] (outside options h Broke)
  broken-step (Some why) e state =
      let back = rw e at (back-of options conn unread h st) in
      let closed = (state-of options conn unread h st).closed_is in
      let same = stays options conn new unread h st reader (state ∙ if-closed conn.state.closed why _ _ (closed ∙ e)) in
      rw e (subst (λ u. StandsFor options new u h) back same)
  broken-step None e state =
      let closed = (state-of options conn unread h st).closed_is in
      rw e (broke-call options conn new h (arises-of options conn unread h st) (state-of options conn unread h st) e (state ∙ if-open conn.state.closed _ _ (closed ∙ e)))

  pub broken-call : new.state ≡ (if is_some conn.state.closed then conn.state else close Broken conn.state) → StandsFor options new [] (outside options h Broke)
  broken-call state = broken-step (reason options h) refl state

  pub takes-call : (outcome : Option Outcome) → TakesOne conn.state outcome new.state → Takes options unread h outcome new
  takes-call None t =
      let taken = none_taken-stands options conn.state new.state h (state-of options conn unread h st) t in (
        taken.0,
        makes-stands options new unread h (arises-of options conn unread h st)
            (subst (λ r. HoldsBack (is_some (reason options h)) r unread) (sym reader) (back-of options conn unread h st)) taken.1,
      )
  takes-call (Some outcome) t =
      let one = taken-stands options conn.state new.state h outcome (state-of options conn unread h st) t in
      let more = some-lt (outcomes options h) (taken h) outcome one.0 in
      let back = subst (λ r. HoldsBack (is_some (reason options h)) r unread) (sym reader) (back-of options conn unread h st) in (
        one.0,
        makes-stands options new unread (Taken ∷ h) (Goes_on h Taken (arises-of options conn unread h st) more)
            (subst (λ r. HoldsBack (is_some r) new.reader unread) (sym (first_reason-none (reason options h))) back) one.1,
      )

-- whether an article is wanted
pub needed-none : (r : Option Reason) (found : Option Want) (want : Option (ℕ × Want)) → (is_none r && is_some found) ≡ false
    → (if is_some r then None else found) ≡ option_map (λ (w : ℕ × Want). w.1) want → want ≡ None
needed-none r found None e f = refl
needed-none None None (Some w) e f = cc
needed-none None (Some x) (Some w) e f = cc
needed-none (Some why) found (Some w) e f = cc

pub needed-some : (r : Option Reason) (found : Option Want) (want : Option (ℕ × Want)) → (is_none r && is_some found) ≡ true
    → (if is_some r then None else found) ≡ option_map (λ (w : ℕ × Want). w.1) want → is_some want ≡ true
needed-some r found (Some w) e f = refl
needed-some None None None e f = e
needed-some None (Some x) None e f = cc
needed-some (Some why) found None e f = cc
