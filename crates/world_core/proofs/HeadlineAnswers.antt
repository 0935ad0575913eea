-- The end of the run of docs/THEOREM.md, section 8, computed: a connection takes a debt over, and its peer answers 239.
-- `HasFinal` and the premises of `all_finals_are_right` are met by terms.
use Rattle.std.proofs.Common.{◌≡◌, ◌<◌, ◌≤◌, ◌==◌, ℕ, zero, suc, Bool, true, false, cond, None, Some}
use Rattle.std.proofs.Common.{List, [], ◌∷◌, ◌++◌, refl, sym, subst, inl, inr, arith, length, take}
use Rattle.std.specs.Prelude.{◌↔◌, Contains, Vec, codes, if◌then◌else◌, slice_get}
use Rattle.std.specs.List.{IsDistinct}
use Rattle.std.specs.declared.alloc.Global.{Global}
use Rattle.std.proofs.lemmas.Bool.{eqb-true}
use Rattle.std.proofs.lemmas.List.Elements.{All-from_recursion}
use Rattle.article_store.specs.declared.store.Found.TheVariants.{Article}
use Rattle.feed_conf.specs.declared.conf.PeerConf.{PeerConf}
use Rattle.ledger_core.specs.State.{start}
use Rattle.ledger_core.specs.declared.note.FinalCode.TheVariants.{TakethisReceived}
use Rattle.ledger_core.specs.declared.note.Note.{Note}
use Rattle.ledger_core.specs.declared.note.Note.TheVariants.{Final as FinalNote, Seen}
use Rattle.recovery.specs.Leaving.{IsPrefix}
use Rattle.conn_core.specs.Commands.{Ask, Asks, ModeStream, Sendable}
use Rattle.conn_core.specs.History.{Came, Event as Happening, Handed as HandedIn, Offered, Put, Sent}
use Rattle.conn_core.specs.History.{Taken as TakenOut}
use Rattle.conn_core.specs.History.{after, answered as answered_of, asks, is_streaming, phase, story}
use Rattle.conn_core.specs.Used.{has}
use Rattle.conn_core.specs.Receipt.{Receives}
use Rattle.conn_core.specs.Receipt.Receives.{Reads, Waits}
use Rattle.conn_core.specs.declared.codes.Verb.TheVariants.{Check, Takethis}
use Rattle.conn_core.specs.declared.verdict.Verdict.{Verdict}
use Rattle.conn_laws.specs.Laws.{fits_in}
use Rattle.conn_core.specs.Stands.{Arises}
use Rattle.conn_core.specs.Stands.Arises.{Goes_on, Starts}
use Rattle.conn_core.specs.declared.options.Options.{Options}
use Rattle.conn_core.specs.declared.outcome.Outcome.TheVariants.{Final}
use Rattle.peer_queue.specs.DebtPlace.{Held, IsHeldBy, Places, all_ready, place_at}
use Rattle.peer_queue.specs.declared.settled.Settled.TheVariants.{Answered}
use Rattle.reply_reader.specs.Stream.{BeginsWithReply, Given, IsShort}
use Rattle.sections.specs.Tapes.{PendsAbove, TapePast, mark_at}
use Rattle.sections.specs.WorkedTapes.{all_three, all_three_on_tape, none_again, one, one_debt, only_seen_three}
use Rattle.sections.specs.WorkedTapes.{only_three, seen_again, seen_three, seen_three_on_tape, three, three_flushed}
use Rattle.sections.specs.WorkedTapes.{two}
use Rattle.sections.specs.WrittenTapes.{ledger_in, prefix_with, rest_leaves}
use Rattle.world_core.specs.Past.{ConnPast, Life, PeerPast, options_of}
use Rattle.world_core.specs.Exchange.AllSettleAt.{None_settled, One_settled}
use Rattle.world_core.specs.Exchange.HandsOver.{Taken_over}
use Rattle.world_core.specs.Laws.{AllFinalsAreRight, CameTo, Comes, HasFinal, HasVerdict}
use Rattle.world_core.specs.Laws.Comes.{No_step, Step_taken}
use Rattle.world_core.specs.Output.{Connected, Handed, Need, SentLine, Settled, View}
use Rattle.world_core.specs.Runs.{Takes}
use Rattle.world_core.specs.Safe.{IsSafe, KeepsLines, KeepsNotes}
use Rattle.world_core.specs.Sound.{HasNumber, IsSoundLife, numbers_at}
use Rattle.world_core.specs.declared.output.Handed.TheVariants.{Debt}
use Rattle.world_core.specs.declared.step.Step.{Step}
use Rattle.world_core.specs.declared.step.Step.TheVariants.{Article as ArticleStep, Bytes, Connect, Hand}
use Rattle.world_core.proofs.HeadlineRows.{Texts, last_flush, life}
use Rattle.world_core.proofs.PeerOpened.{none_held}
use Rattle.world_core.proofs.WorldStopped.{tied_none}

-- what the peer says, as the program has it
record Said : Type 0 where
  pub greeting : Vec ℕ Global
  pub mode : Vec ℕ Global
  pub wanted : Vec ℕ Global
  pub taken : Vec ℕ Global
  pub greeting_is : greeting.items ≡ codes "200" ++ 13 ∷ 10 ∷ []
  pub mode_is : mode.items ≡ codes "203" ++ 13 ∷ 10 ∷ []
  pub wanted_is : wanted.items ≡ codes "238 <x@y>" ++ 13 ∷ 10 ∷ []
  pub taken_is : taken.items ≡ codes "239 <x@y>" ++ 13 ∷ 10 ∷ []

distinct_none : IsDistinct {K = ℕ} (λ (n other : ℕ). n == other) []
unfolding IsDistinct
distinct_none = tt

distinct_one : IsDistinct {K = ℕ} (λ (n other : ℕ). n == other) (1 ∷ [])
unfolding IsDistinct
distinct_one = (tt, tt)

-- ---- replies

abbrev line : ℕ → Given
line code = record { code = code; id = None; text = [] }

abbrev about : ℕ → Given
about code = record { code = code; id = Some (codes "<x@y>"); text = codes "<x@y>" }

short_none : IsShort []
short_none = record { line = All-from_recursion (λ (octet : ℕ). octet ≡ 10 → ⊥) [] tt; short = omega arith }

short_200 : IsShort (codes "200" ++ 13 ∷ [])
short_200 = record {
  line = All-from_recursion (λ (octet : ℕ). octet ≡ 10 → ⊥) (codes "200" ++ 13 ∷ [])
      (λ e. cc, (λ e. cc, (λ e. cc, (λ e. cc, tt))));
  short = omega arith;
}

short_203 : IsShort (codes "203" ++ 13 ∷ [])
short_203 = record {
  line = All-from_recursion (λ (octet : ℕ). octet ≡ 10 → ⊥) (codes "203" ++ 13 ∷ [])
      (λ e. cc, (λ e. cc, (λ e. cc, (λ e. cc, tt))));
  short = omega arith;
}

short_238 : IsShort (codes "238 <x@y>" ++ 13 ∷ [])
short_238 = record {
  line = All-from_recursion (λ (octet : ℕ). octet ≡ 10 → ⊥) (codes "238 <x@y>" ++ 13 ∷ [])
      (λ e. cc, (λ e. cc, (λ e. cc, (λ e. cc, (λ e. cc, (λ e. cc, (λ e. cc, (λ e. cc, (λ e. cc, (λ e. cc, tt))))))))));
  short = omega arith;
}

short_239 : IsShort (codes "239 <x@y>" ++ 13 ∷ [])
short_239 = record {
  line = All-from_recursion (λ (octet : ℕ). octet ≡ 10 → ⊥) (codes "239 <x@y>" ++ 13 ∷ [])
      (λ e. cc, (λ e. cc, (λ e. cc, (λ e. cc, (λ e. cc, (λ e. cc, (λ e. cc, (λ e. cc, (λ e. cc, (λ e. cc, tt))))))))));
  short = omega arith;
}

says_200 : BeginsWithReply (codes "200" ++ 13 ∷ 10 ∷ []) (line 200) []
says_200 = (
  codes "200" ++ 13 ∷ [],
  refl,
  (
    short_200,
    record {
      rest = [];
      begins = record {
        first = 50;
        second = 48;
        third = 48;
        reads = refl;
        digits = ((omega arith, omega arith), (omega arith, omega arith), (omega arith, omega arith));
        value = refl;
      };
      names = ([], refl, tt);
      says = inr (refl, λ e. cc);
    },
  ),
)

says_203 : BeginsWithReply (codes "203" ++ 13 ∷ 10 ∷ []) (line 203) []
says_203 = (
  codes "203" ++ 13 ∷ [],
  refl,
  (
    short_203,
    record {
      rest = [];
      begins = record {
        first = 50;
        second = 48;
        third = 51;
        reads = refl;
        digits = ((omega arith, omega arith), (omega arith, omega arith), (omega arith, omega arith));
        value = refl;
      };
      names = ([], refl, tt);
      says = inr (refl, λ e. cc);
    },
  ),
)

says_238 : BeginsWithReply (codes "238 <x@y>" ++ 13 ∷ 10 ∷ []) (about 238) []
says_238 = (
  codes "238 <x@y>" ++ 13 ∷ [],
  refl,
  (
    short_238,
    record {
      rest = codes " <x@y>";
      begins = record {
        first = 50;
        second = 51;
        third = 56;
        reads = refl;
        digits = ((omega arith, omega arith), (omega arith, omega arith), (omega arith, omega arith));
        value = refl;
      };
      names = ([], (codes " ", [], refl, refl, record { some = omega arith; solid = refl }, tt, refl), refl);
      says = inl refl;
    },
  ),
)

says_239 : BeginsWithReply (codes "239 <x@y>" ++ 13 ∷ 10 ∷ []) (about 239) []
says_239 = (
  codes "239 <x@y>" ++ 13 ∷ [],
  refl,
  (
    short_239,
    record {
      rest = codes " <x@y>";
      begins = record {
        first = 50;
        second = 51;
        third = 57;
        reads = refl;
        digits = ((omega arith, omega arith), (omega arith, omega arith), (omega arith, omega arith));
        value = refl;
      };
      names = ([], (codes " ", [], refl, refl, record { some = omega arith; solid = refl }, tt, refl), refl);
      says = inl refl;
    },
  ),
)

-- ---- what a connection has

found_there : (b : Bool) (id : ℕ) (was other : ConnPast) → (1 == id) ≡ b → cond b (Some was) None ≡ Some other
    → (1 ≡ id) × (was ≡ other)
found_there true id was other hit is = (eqb-true 1 id hit, cc is)
found_there false id was other miss is = absurd (cc is)

only_one : (number : ℕ) → Contains (1 ∷ []) number → 1 ≡ number
only_one number (zero, below, is) = cc is
only_one number (suc k, below, is) = absurd (omega (arith, below))

module _ (conf : PeerConf) (said : Said) where
  -- ---- worlds of one peer and one connection

  abbrev tape : List Note → TapePast
  tape notes = record {
    history = record { base = start; notes = notes; kept = 3; opened = 2 };
    log = three_flushed;
    faults = (0, 0);
    broken = false;
  }

  abbrev intake : TapePast
  intake = record {
    history = record { base = start; notes = Seen 2 ∷ Seen 3 ∷ []; kept = 2; opened = 1 };
    log = seen_again;
    faults = (0, 0);
    broken = false;
  }

  abbrev peer : List Note → Places → PeerPast
  peer notes places = record {
    conf = record conf {
      name = codes "p";
      streaming = true;
      max_queue = 20;
      check_high = 9500;
      check_low = 9000;
      check_filter = 20;
      response_timeout = 300;
    };
    tape = tape notes;
    places = places;
    parted = true;
  }

  abbrev world : PeerPast → List (ℕ × ConnPast) → ℕ → Life
  world p conns connected = record {
    past = record { peers = p ∷ []; intake = intake; last = 3; begun = Some 3 };
    conns = conns;
    connected = connected;
    now = 0;
    armed = None;
    running = true;
  }

  -- all three are owed and ready; the first is held; it was answered
  abbrev ready : PeerPast
  ready = peer (one ∷ two ∷ three ∷ []) (all_ready (1 ∷ 2 ∷ 3 ∷ []))

  abbrev held_one : PeerPast
  held_one = peer (one ∷ two ∷ three ∷ []) ((1, Held 1) ∷ all_ready (2 ∷ 3 ∷ []))

  abbrev answered_one : PeerPast
  answered_one = peer (one ∷ two ∷ three ∷ FinalNote 1 TakethisReceived ∷ []) (all_ready (2 ∷ 3 ∷ []))

  safe : (notes : List Note) (places : Places) (conns : List (ℕ × ConnPast)) (connected : ℕ)
      → IsPrefix (tape notes).history (ledger_in all_three) → PendsAbove 3 (tape notes).history
      → IsSafe (world (peer notes places) conns connected).past
  safe notes places conns connected prefix above = record {
    peers = (
      rest_leaves (KeepsNotes (peer notes places)) all_three three_flushed.0 three_flushed.1 all_three_on_tape
          only_three
          none_again prefix,
      tt,
    );
    intake = rest_leaves (KeepsLines intake.history (peer notes places ∷ [])) seen_three seen_again.0 seen_again.1
        seen_three_on_tape only_seen_three none_again
        (record {
          prefix = prefix_with seen_three intake.history 2 seen_three_on_tape refl refl (omega arith) (omega arith);
          lines = (above, tt);
        });
  }

  all_of : (notes : List Note) → (take 3 notes ≡ one ∷ two ∷ three ∷ []) → 3 ≤ length notes
      → IsPrefix (tape notes).history (ledger_in all_three)
  all_of notes first within =
      prefix_with all_three (tape notes).history 3 all_three_on_tape refl first (omega arith) within

  safe_ready : (places : Places) (conns : List (ℕ × ConnPast)) (connected : ℕ)
      → IsSafe (world (peer (one ∷ two ∷ three ∷ []) places) conns connected).past
  safe_ready places conns connected =
      safe (one ∷ two ∷ three ∷ []) places conns connected (all_of (one ∷ two ∷ three ∷ []) refl (omega arith)) tt

  -- the connection, and what it has: no debt, or the first
  abbrev conn : List Happening → ℕ → ConnPast
  conn h settled = record { rank = 0; unread = []; transcript = h; settled = settled }

  abbrev options : Options
  options = options_of ready.conf

  sound_with : (notes : List Note) (places : Places) (h : List Happening) (settled : ℕ) (numbers : List ℕ)
      → PendsAbove 3 (tape notes).history → mark_at intake ≤ 3
      → Arises options h → numbers_at options (conn h settled) ≡ numbers
      → IsDistinct {K = ℕ} (λ (n other : ℕ). n == other) numbers
      → ((id number : ℕ) → IsHeldBy places id number ↔ ((1 ≡ id) × Contains numbers number))
      → IsSoundLife (world (peer notes places) ((1, conn h settled) ∷ []) 1)
  sound_with notes places h settled numbers above marked arises numbers_are once held = record {
    past = record {
      names = (tt, tt);
      fits = omega arith;
      marked = marked;
      acknowledged = (above, tt);
      kept = λ number is. let same : 3 ≡ number = cc is in omega (arith, same);
      parted = λ number is.
          let same : 3 ≡ number = cc is in
          ((λ parted. subst (λ (n : ℕ). PendsAbove n (tape notes).history) same above), tt);
    };
    conns = record {
      rising = λ k within. absurd (omega (arith, within));
      made = (omega arith, tt);
      each = (
        record {
          peer = peer notes places;
          here = refl;
          arises = arises;
          once = subst (IsDistinct (λ (n other : ℕ). n == other)) (sym numbers_are) once;
        },
        tt,
      );
      held = ties;
      none = λ stopped. absurd (cc stopped);
    };
  }
    where
      here_now : (rank : ℕ) (other : PeerPast) → slice_get (peer notes places ∷ []) rank ≡ Some other
          → (0 ≡ rank) × (peer notes places ≡ other)
      here_now zero other here = (refl, cc here)
      here_now (suc rank) other here = absurd (cc here)

      first_way : (rank id number : ℕ) (other : PeerPast) → (0 ≡ rank) × (peer notes places ≡ other)
          → IsHeldBy other.places id number
          → HasNumber (world (peer notes places) ((1, conn h settled) ∷ []) 1) rank other id number
      first_way rank id number other (at, same) is =
          let has = (held id number).0 (subst (λ (p : PeerPast). IsHeldBy p.places id number) (sym same) is) in
          subst (λ (r : ℕ). HasNumber (world (peer notes places) ((1, conn h settled) ∷ []) 1) r other id number) at
          (subst (λ (i : ℕ). HasNumber (world (peer notes places) ((1, conn h settled) ∷ []) 1) 0 other i number) has.0
          (record {
            conn = conn h settled;
            here = refl;
            its = refl;
            has = subst (λ (p : PeerPast). Contains (numbers_at (options_of p.conf) (conn h settled)) number) same
                (subst (λ (l : List ℕ). Contains l number) (sym numbers_are) has.1);
          }))

      other_way : (rank id number : ℕ) (other : PeerPast) → (0 ≡ rank) × (peer notes places ≡ other)
          → HasNumber (world (peer notes places) ((1, conn h settled) ∷ []) 1) rank other id number
          → IsHeldBy other.places id number
      other_way rank id number other (at, same) has =
          let it = found_there (1 == id) id (conn h settled) has.conn refl has.here in
          let listed : Contains (numbers_at options (conn h settled)) number =
          subst (λ (c : ConnPast). Contains (numbers_at options c) number) (sym it.1)
          (subst (λ (p : PeerPast). Contains (numbers_at (options_of p.conf) has.conn) number) (sym same) has.has) in
          subst (λ (p : PeerPast). IsHeldBy p.places id number) same
          ((held id number).1 (it.0, subst (λ (l : List ℕ). Contains l number) numbers_are listed))

      ties : (rank id number : ℕ) (other : PeerPast) → slice_get (peer notes places ∷ []) rank ≡ Some other
          → IsHeldBy other.places id number
          ↔ HasNumber (world (peer notes places) ((1, conn h settled) ∷ []) 1) rank other id number
      ties rank id number other here = (
        first_way rank id number other (here_now rank other here),
        other_way rank id number other (here_now rank other here),
      )

  -- nothing is held of what is ready
  nothing_held : (owed : List ℕ) (id number : ℕ)
      → IsHeldBy (all_ready owed) id number ↔ ((1 ≡ id) × Contains [] number)
  nothing_held owed id number = (
    λ is. absurd (none_held owed id number is),
    λ has. absurd (omega (arith, has.1.1)),
  )

  one_test : (b : Bool) (id number : ℕ) → (1 == number) ≡ b
      → (if b then Some (Held 1) else place_at (all_ready (2 ∷ 3 ∷ [])) number) ≡ Some (Held id)
      → (1 ≡ id) × (1 ≡ number)
  one_test true id number hit is = (cc is, eqb-true 1 number hit)
  one_test false id number miss is = absurd (none_held (2 ∷ 3 ∷ []) id number is)

  one_is_held : (id number : ℕ)
      → IsHeldBy ((1, Held 1) ∷ all_ready (2 ∷ 3 ∷ [])) id number ↔ ((1 ≡ id) × Contains (1 ∷ []) number)
  one_is_held id number = (
    λ is.
        let at = one_test (1 == number) id number refl is in
        (at.0, subst (λ (n : ℕ). Contains (1 ∷ []) n) at.1 (0, omega arith, refl)),
    λ has.
        subst (λ (i : ℕ). IsHeldBy ((1, Held 1) ∷ all_ready (2 ∷ 3 ∷ [])) i number) has.0
        (subst (λ (n : ℕ). IsHeldBy ((1, Held 1) ∷ all_ready (2 ∷ 3 ∷ [])) 1 n) (only_one number has.1) refl),
  )

  -- ---- the transcripts after each step, newest first

  abbrev block : List ℕ
  block = codes "S: t" ++ 13 ∷ 10 ∷ 13 ∷ 10 ∷ 46 ∷ 13 ∷ 10 ∷ []

  abbrev check : Ask
  check = record { verb = Check; ticket = 0; id = codes "<x@y>"; block = [] }

  abbrev takethis : Ask
  takethis = record { verb = Takethis; ticket = 0; id = codes "<x@y>"; block = block }

  abbrev greeted : List Happening
  greeted = Sent 13 ∷ Put ModeStream ∷ Came (line 200) ∷ []

  abbrev streaming : List Happening
  streaming = Sent 0 ∷ Came (line 203) ∷ greeted

  abbrev offered : List Happening
  offered = Sent 13 ∷ Put (Asks check) ∷ Offered one_debt ∷ streaming

  abbrev asked : List Happening
  asked = Sent 0 ∷ Came (about 238) ∷ offered

  abbrev given : List Happening
  given = Sent 27 ∷ Put (Asks takethis) ∷ HandedIn 1 (Sendable block) ∷ asked

  abbrev answered : List Happening
  answered = Sent 0 ∷ TakenOut ∷ Came (about 239) ∷ given

  -- each of them can have come about
  greeted_arises : Arises options greeted
  unfolding after story
  greeted_arises =
      Goes_on (Put ModeStream ∷ Came (line 200) ∷ []) (Sent 13) (Goes_on [] (Came (line 200)) Starts tt) (omega arith)

  streaming_arises : Arises options streaming
  unfolding after story
  streaming_arises =
      Goes_on (Came (line 203) ∷ greeted) (Sent 0) (Goes_on greeted (Came (line 203)) greeted_arises tt)
      (omega arith)

  offered_arises : Arises options offered
  unfolding after story
  offered_arises =
      Goes_on (Put (Asks check) ∷ Offered one_debt ∷ streaming) (Sent 13)
      (Goes_on streaming (Offered one_debt) streaming_arises refl) (omega arith)

  asked_arises : Arises options asked
  unfolding after story
  asked_arises =
      Goes_on (Came (about 238) ∷ offered) (Sent 0) (Goes_on offered (Came (about 238)) offered_arises tt)
      (omega arith)

  given_arises : Arises options given
  unfolding after story
  given_arises =
      Goes_on (Put (Asks takethis) ∷ HandedIn 1 (Sendable block) ∷ asked) (Sent 27)
      (Goes_on asked (HandedIn 1 (Sendable block)) asked_arises refl) (omega arith)

  answered_arises : Arises options answered
  unfolding after story
  answered_arises =
      Goes_on (TakenOut ∷ Came (about 239) ∷ given) (Sent 0)
      (Goes_on (Came (about 239) ∷ given) TakenOut
      (Goes_on given (Came (about 239)) given_arises tt) (omega arith)) (omega arith)

  -- ---- the steps

  abbrev begun : Life
  begun = world ready [] 0

  -- it is the world in which HeadlineRows ends
  as_flushed : (texts : Texts) → life ready.conf texts (last_flush ready.conf texts) None true ≡ begun
  as_flushed texts = refl

  abbrev connected : Life
  connected = world ready ((1, conn [] 0) ∷ []) 1

  abbrev after_greeting : Life
  after_greeting = world ready ((1, conn greeted 0) ∷ []) 1

  abbrev after_mode : Life
  after_mode = world ready ((1, conn streaming 0) ∷ []) 1

  abbrev after_hand : Life
  after_hand = world held_one ((1, conn offered 0) ∷ []) 1

  abbrev after_wanted : Life
  after_wanted = world held_one ((1, conn asked 0) ∷ []) 1

  abbrev after_article : Life
  after_article = world held_one ((1, conn given 0) ∷ []) 1

  abbrev after_answer : Life
  after_answer = world answered_one ((1, conn answered 1) ∷ []) 1

  connects : Takes (Connect (codes "p")) begun (Connected 1 (codes "p") ∷ []) connected
  connects = inl (refl, record { rank = 0; here = refl; fits = omega arith; outputs_are = refl; changed = refl })

  greets : Takes (Bytes 1 said.greeting) connected (SentLine 1 (codes "MODE STREAM") ∷ []) after_greeting
  unfolding after story
  greets = inl (
    refl,
    record {
      conn = conn [] 0;
      peer = ready;
      is = record { conn_is = refl; peer_is = refl };
      later_conn = conn greeted 0;
      later_peer = ready;
      makes = record {
        transcript = (Put ModeStream ∷ Came (line 200) ∷ []);
        left = [];
        receives = subst
            (λ (octets : List ℕ). Receives options octets [] (Put ModeStream ∷ Came (line 200) ∷ []) [])
            (sym said.greeting_is)
            (Reads _ [] [] [] (Put ModeStream ∷ Came (line 200) ∷ []) (line 200) refl says_200
            (Waits [] (Put ModeStream ∷ Came (line 200) ∷ []) refl short_none));
        follows = record { settles = None_settled; outputs_are = refl; changed = refl };
      };
      changed = refl;
    },
  )

  agrees : Takes (Bytes 1 said.mode) after_greeting [] after_mode
  unfolding after story
  agrees = inl (
    refl,
    record {
      conn = conn greeted 0;
      peer = ready;
      is = record { conn_is = refl; peer_is = refl };
      later_conn = conn streaming 0;
      later_peer = ready;
      makes = record {
        transcript = (Came (line 203) ∷ greeted);
        left = [];
        receives = subst
            (λ (octets : List ℕ). Receives options octets greeted (Came (line 203) ∷ greeted) [])
            (sym said.mode_is)
            (Reads _ [] [] greeted (Came (line 203) ∷ greeted) (line 203) refl says_203
            (Waits [] (Came (line 203) ∷ greeted) refl short_none));
        follows = record { settles = None_settled; outputs_are = refl; changed = refl };
      };
      changed = refl;
    },
  )

  hands : Takes (Hand 1) after_mode (Handed 1 (Debt 1) ∷ SentLine 1 (codes "CHECK <x@y>") ∷ []) after_hand
  unfolding after story
  hands = inl (
    refl,
    record {
      conn = conn streaming 0;
      peer = ready;
      is = record { conn_is = refl; peer_is = refl };
      later_conn = conn offered 0;
      later_peer = held_one;
      makes = record {
        handed = Debt 1;
        transcript = (Put (Asks check) ∷ Offered one_debt ∷ streaming);
        mid = held_one;
        hands = Taken_over one_debt held_one refl (record {
          tape = ready.tape;
          works = refl;
          candidate = record { least = refl; owed = (0, omega arith, refl) };
          free = λ other is. none_held (1 ∷ 2 ∷ 3 ∷ []) other 1 is;
          reads = record { first = omega arith; second = omega arith; all = refl };
          changed = refl;
        });
        behind = SentLine 1 (codes "CHECK <x@y>") ∷ [];
        follows = record { settles = None_settled; outputs_are = refl; changed = refl };
        outputs_are = refl;
      };
      changed = refl;
    },
  )

  wants : Takes (Bytes 1 said.wanted) after_hand (Need 1 1 ∷ []) after_wanted
  unfolding after story
  wants = inl (
    refl,
    record {
      conn = conn offered 0;
      peer = held_one;
      is = record { conn_is = refl; peer_is = refl };
      later_conn = conn asked 0;
      later_peer = held_one;
      makes = record {
        transcript = (Came (about 238) ∷ offered);
        left = [];
        receives = subst
            (λ (octets : List ℕ). Receives options octets offered (Came (about 238) ∷ offered) [])
            (sym said.wanted_is)
            (Reads _ [] [] offered (Came (about 238) ∷ offered) (about 238) refl says_238
            (Waits [] (Came (about 238) ∷ offered) refl short_none));
        follows = record { settles = None_settled; outputs_are = refl; changed = refl };
      };
      changed = refl;
    },
  )

  -- its text is `S: t`, and an empty line
  article_taken : Takes (ArticleStep 1 (Article (codes "S: t" ++ 10 ∷ 10 ∷ []))) after_wanted
      (SentLine 1 (codes "TAKETHIS <x@y>") ∷ SentLine 1 (codes "S: t") ∷ SentLine 1 [] ∷ SentLine 1 (codes ".") ∷ [])
      after_article
  unfolding after story
  article_taken = inl (
    refl,
    record {
      conn = conn asked 0;
      peer = held_one;
      is = record { conn_is = refl; peer_is = refl };
      later_conn = conn given 0;
      later_peer = held_one;
      makes = record {
        number = 1;
        handing = Sendable block;
        wanted = refl;
        handed = (
          record {
            some = omega arith;
            short = omega arith;
            lines = (
              codes "S: t" ∷ [] ∷ [],
              (10 ∷ [], (refl, inr (inl refl)), ([], (refl, inr (inl refl)), refl)),
            );
          },
          (
            codes "S: t" ∷ [] ∷ [],
            (10 ∷ [], (refl, inr (inl refl)), ([], (refl, inr (inl refl)), refl)),
            refl,
          ),
        );
        follows = record { settles = None_settled; outputs_are = refl; changed = refl };
      };
      changed = refl;
    },
  )

  answers : Takes (Bytes 1 said.taken) after_article (Settled 1 1 (Answered TakethisReceived) ∷ []) after_answer
  unfolding after story
  answers = inl (
    refl,
    record {
      conn = conn given 0;
      peer = held_one;
      is = record { conn_is = refl; peer_is = refl };
      later_conn = conn answered 1;
      later_peer = answered_one;
      makes = record {
        transcript = (Came (about 239) ∷ given);
        left = [];
        receives = subst
            (λ (octets : List ℕ). Receives options octets given (Came (about 239) ∷ given) [])
            (sym said.taken_is)
            (Reads _ [] [] given (Came (about 239) ∷ given) (about 239) refl says_239
            (Waits [] (Came (about 239) ∷ given) refl short_none));
        follows = record {
          settles = One_settled [] (Final (record { debt = one_debt; code = TakethisReceived })) held_one answered_one
              None_settled
              (record { works = refl; held = refl; room = λ ended. λ full. omega (arith, full); changed = refl });
          outputs_are = refl;
          changed = refl;
        };
      };
      changed = refl;
    },
  )

  -- ---- the run

  abbrev steps : List Step
  steps = Connect (codes "p") ∷ Bytes 1 said.greeting ∷ Bytes 1 said.mode ∷ Hand 1 ∷ Bytes 1 said.wanted
      ∷ ArticleStep 1 (Article (codes "S: t" ++ 10 ∷ 10 ∷ [])) ∷ Bytes 1 said.taken ∷ []

  abbrev reports : List (List View)
  reports = (Connected 1 (codes "p") ∷ []) ∷ (SentLine 1 (codes "MODE STREAM") ∷ []) ∷ []
      ∷ (Handed 1 (Debt 1) ∷ SentLine 1 (codes "CHECK <x@y>") ∷ []) ∷ (Need 1 1 ∷ [])
      ∷ (SentLine 1 (codes "TAKETHIS <x@y>") ∷ SentLine 1 (codes "S: t") ∷ SentLine 1 [] ∷ SentLine 1 (codes ".") ∷ [])
      ∷ (Settled 1 1 (Answered TakethisReceived) ∷ []) ∷ []

  ready_sound : (h : List Happening) → Arises options h → numbers_at options (conn h 0) ≡ []
      → IsSoundLife (world ready ((1, conn h 0) ∷ []) 1)
  ready_sound h arises none =
      sound_with (one ∷ two ∷ three ∷ []) (all_ready (1 ∷ 2 ∷ 3 ∷ [])) h 0 [] tt (omega arith) arises none distinct_none
      (nothing_held (1 ∷ 2 ∷ 3 ∷ []))

  held_sound : (h : List Happening) → Arises options h → numbers_at options (conn h 0) ≡ 1 ∷ []
      → IsSoundLife (world held_one ((1, conn h 0) ∷ []) 1)
  held_sound h arises one_there =
      sound_with (one ∷ two ∷ three ∷ []) ((1, Held 1) ∷ all_ready (2 ∷ 3 ∷ [])) h 0 (1 ∷ []) tt (omega arith) arises
      one_there distinct_one one_is_held

  begun_sound : IsSoundLife begun
  unfolding story
  begun_sound = record {
    past = (ready_sound [] Starts nothing_yet).past;
    conns = tied_none begun refl free;
  }
    where
      nothing_yet : numbers_at options (conn [] 0) ≡ []
      nothing_yet = refl

      free : (rank : ℕ) (q : PeerPast) → slice_get (ready ∷ []) rank ≡ Some q
          → (id number : ℕ) → IsHeldBy q.places id number → ⊥
      free zero q here id number is =
          let same : ready ≡ q = cc here in
          none_held (1 ∷ 2 ∷ 3 ∷ []) id number
          (subst (λ (r : PeerPast). IsHeldBy r.places id number) (sym same) is)
      free (suc rank) q here id number is = absurd (cc here)

  -- up to the mode
  to_mode : Comes begun (take 3 steps) (take 3 reports) after_mode
  unfolding after story
  to_mode =
      Step_taken (take 2 steps) (Bytes 1 said.mode) (take 2 reports) [] after_greeting after_mode
      (Step_taken (take 1 steps) (Bytes 1 said.greeting) (take 1 reports) (SentLine 1 (codes "MODE STREAM") ∷ [])
      connected after_greeting
      (Step_taken [] (Connect (codes "p")) [] (Connected 1 (codes "p") ∷ []) begun connected
      (No_step (safe_ready (all_ready (1 ∷ 2 ∷ 3 ∷ [])) [] 0) begun_sound)
      connects
      (safe_ready (all_ready (1 ∷ 2 ∷ 3 ∷ [])) ((1, conn [] 0) ∷ []) 1) (ready_sound [] Starts refl))
      greets
      (safe_ready (all_ready (1 ∷ 2 ∷ 3 ∷ [])) ((1, conn greeted 0) ∷ []) 1) (ready_sound greeted greeted_arises refl))
      agrees
      (safe_ready (all_ready (1 ∷ 2 ∷ 3 ∷ [])) ((1, conn streaming 0) ∷ []) 1)
      (ready_sound streaming streaming_arises refl)

  mode_stays : Comes after_mode [] [] after_mode
  unfolding after story
  mode_stays =
      No_step (safe_ready (all_ready (1 ∷ 2 ∷ 3 ∷ [])) ((1, conn streaming 0) ∷ []) 1)
      (ready_sound streaming streaming_arises refl)

  abbrev gives : Step
  gives = ArticleStep 1 (Article (codes "S: t" ++ 10 ∷ 10 ∷ []))

  abbrev handed_over : List View
  handed_over = Handed 1 (Debt 1) ∷ SentLine 1 (codes "CHECK <x@y>") ∷ []

  abbrev article_sent : List View
  article_sent =
      SentLine 1 (codes "TAKETHIS <x@y>") ∷ SentLine 1 (codes "S: t") ∷ SentLine 1 [] ∷ SentLine 1 (codes ".") ∷ []

  answer_safe : IsSafe after_answer.past
  answer_safe =
      safe (one ∷ two ∷ three ∷ FinalNote 1 TakethisReceived ∷ []) (all_ready (2 ∷ 3 ∷ []))
      ((1, conn answered 1) ∷ []) 1
      (all_of (one ∷ two ∷ three ∷ FinalNote 1 TakethisReceived ∷ []) refl (omega arith)) (tt, tt)

  answer_sound : IsSoundLife after_answer
  unfolding after story
  answer_sound =
      sound_with (one ∷ two ∷ three ∷ FinalNote 1 TakethisReceived ∷ []) (all_ready (2 ∷ 3 ∷ [])) answered 1 [] (tt, tt)
      (omega arith) answered_arises refl distinct_none (nothing_held (2 ∷ 3 ∷ []))

  -- and from the mode on
  from_mode : (first : Life) (before : List Step) (lines : List (List View)) → Comes first before lines after_mode
      → Comes first ((((before ++ Hand 1 ∷ []) ++ Bytes 1 said.wanted ∷ []) ++ gives ∷ []) ++ Bytes 1 said.taken ∷ [])
      ((((lines ++ handed_over ∷ []) ++ (Need 1 1 ∷ []) ∷ []) ++ article_sent ∷ [])
      ++ (Settled 1 1 (Answered TakethisReceived) ∷ []) ∷ []) after_answer
  unfolding after story
  from_mode first before lines comes =
      Step_taken (((before ++ Hand 1 ∷ []) ++ Bytes 1 said.wanted ∷ []) ++ gives ∷ []) (Bytes 1 said.taken)
      (((lines ++ handed_over ∷ []) ++ (Need 1 1 ∷ []) ∷ []) ++ article_sent ∷ [])
      (Settled 1 1 (Answered TakethisReceived) ∷ []) after_article after_answer
      (Step_taken ((before ++ Hand 1 ∷ []) ++ Bytes 1 said.wanted ∷ []) gives
      ((lines ++ handed_over ∷ []) ++ (Need 1 1 ∷ []) ∷ []) article_sent after_wanted after_article
      (Step_taken (before ++ Hand 1 ∷ []) (Bytes 1 said.wanted) (lines ++ handed_over ∷ []) (Need 1 1 ∷ []) after_hand
      after_wanted
      (Step_taken before (Hand 1) lines handed_over after_mode after_hand comes
      hands
      (safe_ready ((1, Held 1) ∷ all_ready (2 ∷ 3 ∷ [])) ((1, conn offered 0) ∷ []) 1)
      (held_sound offered offered_arises refl))
      wants
      (safe_ready ((1, Held 1) ∷ all_ready (2 ∷ 3 ∷ [])) ((1, conn asked 0) ∷ []) 1)
      (held_sound asked asked_arises refl))
      article_taken
      (safe_ready ((1, Held 1) ∷ all_ready (2 ∷ 3 ∷ [])) ((1, conn given 0) ∷ []) 1)
      (held_sound given given_arises refl))
      answers answer_safe answer_sound

  run : Comes begun steps reports after_answer
  run = from_mode begun (take 3 steps) (take 3 reports) to_mode

  -- ---- the final answer

  -- it is noted now, and was not before
  final_there : HasFinal after_answer 0 1 TakethisReceived
  final_there = (answered_one, refl, (3, omega arith, refl))

  none_final : Contains (one ∷ two ∷ three ∷ []) (FinalNote 1 TakethisReceived) → ⊥
  none_final (zero, below, is) = cc is
  none_final (suc zero, below, is) = cc is
  none_final (suc (suc zero), below, is) = cc is
  none_final (suc (suc (suc k)), below, is) = absurd (omega (arith, below))

  not_before : HasFinal begun 0 1 TakethisReceived → ⊥
  not_before (p, here, among) =
      let same : ready ≡ p = cc here in
      none_final
      (subst (λ (q : PeerPast). Contains q.tape.history.notes (FinalNote 1 TakethisReceived)) (sym same) among)

  -- the connection has come to the verdict, and it is right: 239 named <x@y>, and the first open command that it fits is
  -- the TAKETHIS about the debt at ticket 0, which is line 1's
  abbrev verdict : Verdict
  verdict = record { debt = one_debt; code = TakethisReceived }

  came : CameTo after_answer 0 1 (Final verdict)
  unfolding after story
  came = record {
    conn = conn answered 1;
    peer = answered_one;
    is = record { conn_is = refl; peer_is = refl };
    its = refl;
    arises = answered_arises;
    end = record { ticket = 0; outcome = Final verdict };
    among = (0, omega arith, refl);
    is_outcome = refl;
    own = refl;
    right = record {
      later = Sent 0 ∷ TakenOut ∷ [];
      earlier = given;
      reply = about 239;
      command = (1, takethis);
      split = refl;
      running = refl;
      first = record {
        mode = refl;
        is_command = refl;
        fit = refl;
        unanswered = refl;
        no_earlier = before;
      };
      about = refl;
      code_is = refl;
      meant = refl;
    };
  }
    where
      before : (k : ℕ) (ask : Ask) → k < 1 → slice_get (asks given) k ≡ Some ask
          → fits_in (is_streaming (phase options given)) (about 239) ask ≡ true → has (answered_of options given) k
          ≡ true
      before zero ask below here fits = refl
      before (suc k) ask below here fits = absurd (omega (arith, below))

  -- and the peer owed that debt, as the least that might be claimed, when the connection took it over
  has_verdict : HasVerdict begun steps reports after_answer 0 1 TakethisReceived
  unfolding after story
  has_verdict = record {
    life = after_answer;
    passes = record {
      first = steps;
      others = [];
      first_lines = reports;
      other_lines = [];
      steps_are = refl;
      lines_are = refl;
      made = run;
      went_on = No_step answer_safe answer_sound;
    };
    id = 1;
    verdict = verdict;
    came = came;
    of_number = refl;
    of_code = refl;
    owed = inl (record {
      life = after_mode;
      passes = record {
        first = take 3 steps;
        others = Hand 1 ∷ Bytes 1 said.wanted ∷ gives ∷ Bytes 1 said.taken ∷ [];
        first_lines = take 3 reports;
        other_lines = handed_over ∷ (Need 1 1 ∷ []) ∷ article_sent
            ∷ (Settled 1 1 (Answered TakethisReceived) ∷ []) ∷ [];
        steps_are = refl;
        lines_are = refl;
        made = to_mode;
        went_on = from_mode after_mode [] [] mode_stays;
      };
      behind = Bytes 1 said.wanted ∷ gives ∷ Bytes 1 said.taken ∷ [];
      hand = refl;
      conn = conn streaming 0;
      peer = ready;
      is = record { conn_is = refl; peer_is = refl };
      its = refl;
      candidate = record { least = refl; owed = (0, omega arith, refl) };
    });
  }

  -- the law says the same
  by_law : AllFinalsAreRight → HasVerdict begun steps reports after_answer 0 1 TakethisReceived
  by_law law = elim (law begun after_answer steps reports run 0 1 TakethisReceived final_there) [
    | inl before ↦ absurd (not_before before)
    | inr found ↦ found
  ]
