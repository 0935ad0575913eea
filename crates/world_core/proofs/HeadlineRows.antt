-- The run of docs/THEOREM.md, section 8, computed: two lines and a flush; a line, and a flush that a stop meets in its
-- third call on the peer's disks; the restart; that line again, and a flush. Each premise of the laws of whole runs is
-- met by a term of it, and each law is read off it, as lists of debts. The octets are in sections,
-- specs/WorkedTapes.antt. The run is `whole_run`; `acknowledged`, `one_made`, `under_way` and `strikes` meet the
-- premises; what the laws say stands last.
use Rattle.std.proofs.Common.{◌≡◌, ◌⊎◌, ◌+◌, ◌<◌, ◌≤◌, ◌^◌, ℕ, zero, suc, Bool, true, false, not, Option, None, Some}
use Rattle.std.proofs.Common.{List, [], ◌∷◌, ◌++◌, refl, sym, ap, ◌∙◌, subst, inl, inr, arith, length, map, take}
use Rattle.std.specs.Prelude.{IsTrue, Vec, codes, slice_get}
use Rattle.std.specs.List.{list_all}
use Rattle.std.specs.declared.alloc.Global.{Global}
use Rattle.std.proofs.lemmas.Bool.{cases_lt}
use Rattle.disk_model.specs.Disk.{IsOnly}
use Rattle.feed_conf.specs.declared.conf.PeerConf.{PeerConf}
use Rattle.funnel.specs.Line.{IsFunnelLine, longest_line, without_cr}
use Rattle.funnel.specs.Names.{is_msg_id, is_token}
use Rattle.funnel.specs.Words.{IsWord, is_blank}
use Rattle.ledger_core.specs.State.{State, start}
use Rattle.ledger_core.specs.declared.note.Note.{Note}
use Rattle.ledger_core.specs.declared.note.Note.TheVariants.{Seen}
use Rattle.recovery.specs.Image.{Log}
use Rattle.recovery.specs.Leaving.{EachLedger, HasLedger, IsPrefix, LedgersLeave, ledger_of_first}
use Rattle.recovery.specs.LeavingLaws.{EachLedger-weaker, TapeLeaves-first, TapeLeaves-now}
use Rattle.recovery.specs.declared.fault.TapeFault.TheVariants.{Disk}
use Rattle.peer_queue.specs.DebtPlace.{IsHeldBy, all_ready}
use Rattle.peer_queue.specs.declared.limits.Owed.TheVariants.{New}
use Rattle.sections.specs.Tapes.{PendsAbove, TapePast, mark_at}
use Rattle.sections.specs.WorkedTapes.{again_leave, all_three, all_three_on_tape, as_before_is, choosing, first_two}
use Rattle.sections.specs.WorkedTapes.{first_two_on_tape, intake_again, intake_again_leave, intake_left}
use Rattle.sections.specs.WorkedTapes.{intake_left_is, made, none_again, none_beside, none_on_tape, one, one_debt}
use Rattle.sections.specs.WorkedTapes.{only_again, only_made, only_seen, only_seen_again, only_seen_three, only_three}
use Rattle.sections.specs.WorkedTapes.{only_two, peer_again, peer_left, seen_again, seen_again_leave, seen_flushed}
use Rattle.sections.specs.WorkedTapes.{seen_leave, seen_may, seen_three, seen_three_on_tape, seen_two}
use Rattle.sections.specs.WorkedTapes.{seen_two_on_tape, third_call, third_leave, three, three_debt, three_flushed}
use Rattle.sections.specs.WorkedTapes.{three_leave, two, two_debt, two_flushed, two_leave}
use Rattle.sections.specs.WrittenTapes.{AreOnTape, has_room, ledger_in, octets_of, prefix_with, rest_leaves}
use Rattle.world_core.specs.Past.{Armed, Life, Past, PeerPast, with_last}
use Rattle.world_core.specs.Events.{Acknowledges, AllDo, Does as Event_does, Event, Opens, OpensIntake, Owes, Parts}
use Rattle.world_core.specs.Events.{Refuses as Event_refuses, Sees}
use Rattle.world_core.specs.Events.AllDo.{Start as No_event, Next as And}
use Rattle.world_core.specs.Crashes.{IsUnderWay}
use Rattle.world_core.specs.Halts.{restart_events}
use Rattle.world_core.specs.Laws.{Comes, IsAcknowledgedLine}
use Rattle.world_core.specs.Laws.Comes.{No_step, Step_taken}
use Rattle.world_core.specs.LineLaws.{MadeDebt, OwesOrEnded}
use Rattle.world_core.specs.Output.{Mark, Owed, Stopped, Taken, View, mark_view}
use Rattle.world_core.specs.Runs.{Strikes}
use Rattle.world_core.specs.Safe.{HasAcknowledged, IsSafe, KeepsLines, KeepsNotes}
use Rattle.world_core.specs.Sound.{HasParted, IsSoundLife}
use Rattle.world_core.specs.Steps.{TakesPlan, begun_at, flush_events, line_events, owed_there, planned, reading_plan}
use Rattle.world_core.specs.Steps.{seal_view}
use Rattle.world_core.specs.Steps.Reading.{Good}
use Rattle.world_core.specs.declared.fault.Fault.TheVariants.{Tape}
use Rattle.world_core.specs.declared.step.Step.{Step}
use Rattle.world_core.specs.declared.step.Step.TheVariants.{Flush, Line, Restart, Stop}
use Rattle.world_core.proofs.AcknowledgedLines.{lines_stand}
use Rattle.world_core.proofs.LineDebts.{lines_kept, lines_kept_within}
use Rattle.world_core.proofs.Moments.{moments_recovered}
use Rattle.world_core.proofs.PeerOpened.{none_held}
use Rattle.world_core.proofs.RecoveredNotes.{recover_all}
use Rattle.world_core.proofs.WorldStopped.{tied_none}

-- the texts of the lines, as the program has them
pub record Texts : Type 0 where
  pub first : Vec ℕ Global
  pub second : Vec ℕ Global
  pub third : Vec ℕ Global
  pub first_is : first.items ≡ codes "a/1 <x@y> p"
  pub second_is : second.items ≡ codes "a/2 <z@y> p"
  pub third_is : third.items ≡ codes "a/3 <w@y> p"

-- the peer's settings, but for its name, do not matter
module _ (conf : PeerConf) (texts : Texts) where
  -- ---- worlds of one peer

  abbrev tape : List Note → (kept opened : ℕ) → Log → TapePast
  tape notes kept opened log = record {
    history = record { base = start; notes = notes; kept = kept; opened = opened };
    log = log;
    faults = (0, 0);
    broken = false;
  }

  abbrev peer : TapePast → List ℕ → Bool → PeerPast
  peer tape owed parted =
      record { conf = record conf { name = codes "p" }; tape = tape; places = all_ready owed; parted = parted }

  abbrev past : PeerPast → TapePast → (last : ℕ) → (begun : Option ℕ) → Past
  past p intake last begun = record { peers = p ∷ []; intake = intake; last = last; begun = begun }

  abbrev pub life : Past → Option Armed → Bool → Life
  life past armed running =
      record { past = past; conns = []; connected = 0; now = 0; armed = armed; running = running }

  -- what a stop leaves now of the intake's tape, if these notes are on its disks
  intake_safe : (p : PeerPast) (intake : TapePast) (batches : List (List Note)) → AreOnTape batches
      → IsOnly intake.log.0 (octets_of batches) → IsOnly intake.log.1 []
      → IsPrefix intake.history (ledger_in batches) → PendsAbove (ledger_in batches).mark p.tape.history
      → EachLedger (KeepsLines intake.history (p ∷ [])) intake.log
  intake_safe p intake batches are only none prefix above =
      rest_leaves (KeepsLines intake.history (p ∷ [])) batches intake.log.0 intake.log.1 are only none
      (record { prefix = prefix; lines = (above, tt) })

  -- and of the peer's
  peer_safe : (p : PeerPast) (batches : List (List Note)) → AreOnTape batches
      → IsOnly p.tape.log.0 (octets_of batches) → IsOnly p.tape.log.1 []
      → IsPrefix p.tape.history (ledger_in batches)
      → EachLedger (KeepsNotes p) p.tape.log
  peer_safe p batches are only none prefix =
      rest_leaves (KeepsNotes p) batches p.tape.log.0 p.tape.log.1 are only none prefix

  safe : (p : PeerPast) (intake : TapePast) (last : ℕ) (begun : Option ℕ) → EachLedger (KeepsNotes p) p.tape.log
      → EachLedger (KeepsLines intake.history (p ∷ [])) intake.log → IsSafe (past p intake last begun)
  safe p intake last begun peers lines = record { peers = (peers, tt); intake = lines }

  sound : (tape : TapePast) (owed : List ℕ) (parted : Bool) (intake : TapePast) (last : ℕ) (begun : Option ℕ)
      (armed : Option Armed) (running : Bool) → last < 2 ^ 64 → mark_at intake ≤ last
      → HasAcknowledged (mark_at intake) (peer tape owed parted)
      → ((number : ℕ) → begun ≡ Some number
      → (number ≤ last) × HasParted number (peer tape owed parted))
      → IsSoundLife (life (past (peer tape owed parted) intake last begun) armed running)
  sound tape owed parted intake last begun armed running fits marked acknowledged kept = record {
    past = record {
      names = (tt, tt);
      fits = fits;
      marked = marked;
      acknowledged = (acknowledged, tt);
      kept = λ number is. (kept number is).0;
      parted = λ number is. ((kept number is).1, tt);
    };
    conns = tied_none (life (past (peer tape owed parted) intake last begun) armed running) refl free;
  }
    where
      free : (rank : ℕ) (q : PeerPast) → slice_get (peer tape owed parted ∷ []) rank ≡ Some q
          → (id number : ℕ) → IsHeldBy q.places id number → ⊥
      free zero q here id number is =
          let same : peer tape owed parted ≡ q = cc here in
          none_held owed id number (subst (λ (r : PeerPast). IsHeldBy r.places id number) (sym same) is)
      free (suc rank) q here id number is = absurd (cc here)

  -- a line that names the peer alone
  abbrev to_p : List (List ℕ)
  to_p = codes "p" ∷ []

  reads_so : (text token id : List ℕ) → length text ≤ longest_line
      → without_cr text ≡ token ++ 32 ∷ (id ++ codes " p")
      → IsWord token → IsWord id → IsTrue (is_token token) → IsTrue (is_msg_id id) → IsFunnelLine text token id to_p
  reads_so text token id short words token_word id_word token_form id_form = record {
    others = codes "p" ∷ [];
    short = short;
    words = (
      [],
      32 ∷ (id ++ codes " p"),
      words,
      refl,
      token_word,
      refl,
      (
        codes " ",
        codes " p",
        refl,
        refl,
        id_word,
        refl,
        (codes " ", [], refl, refl, record { some = omega arith; solid = refl }, tt, refl),
      ),
    );
    token_form = token_form;
    id_form = id_form;
    named = refl;
  }

  abbrev a_word : {octets : List ℕ} → 0 < length octets
      → IsTrue (list_all (λ (octet : ℕ). not (is_blank octet)) octets) → IsWord octets
  a_word some solid = record { some = some; solid = solid }

  one_line : IsFunnelLine (codes "a/1 <x@y> p") (codes "a/1") (codes "<x@y>") to_p
  one_line =
      reads_so (codes "a/1 <x@y> p") (codes "a/1") (codes "<x@y>") (omega arith) refl (a_word (omega arith) refl)
      (a_word (omega arith) refl) refl refl

  two_line : IsFunnelLine (codes "a/2 <z@y> p") (codes "a/2") (codes "<z@y>") to_p
  two_line =
      reads_so (codes "a/2 <z@y> p") (codes "a/2") (codes "<z@y>") (omega arith) refl (a_word (omega arith) refl)
      (a_word (omega arith) refl) refl refl

  three_line : IsFunnelLine (codes "a/3 <w@y> p") (codes "a/3") (codes "<w@y>") to_p
  three_line =
      reads_so (codes "a/3 <w@y> p") (codes "a/3") (codes "<w@y>") (omega arith) refl (a_word (omega arith) refl)
      (a_word (omega arith) refl) refl refl

  -- a line to the peer is taken, if its event is
  line_taken : (text : Vec ℕ Global) (octets token id : List ℕ) (before mid : Past) → text.items ≡ octets
      → IsFunnelLine octets token id to_p
      → before.last + 1 < 2 ^ 64
      → line_events token id to_p before ≡ Owes 0 token id ∷ [] → Event_does (Owes 0 token id) before mid → IsSafe mid
      → TakesPlan (Line text) before
      (Owed (before.last + 1) (owed_there (before.last + 1) to_p before.peers) ∷ [])
      (with_last mid (before.last + 1))
  line_taken text octets token id before mid is line fits events does safe = record {
    plan = reading_plan (Good token id to_p) before;
    is_plan = (
      fits,
      (
        Good token id to_p,
        subst (λ (line : List ℕ). IsFunnelLine line token id to_p) (sym is) line,
        refl,
      ),
    );
    mid = mid;
    does = subst (λ (all : List Event). AllDo before all mid) (sym events)
        (And [] (Owes 0 token id) before mid No_event does safe);
    outputs_are = refl;
    later_is = refl;
  }

  -- a flush is taken, if its events are
  flush_taken : (before flushed seen kept : Past) (number : ℕ)
      → flush_events before ≡ Parts 0 ∷ Sees number ∷ Acknowledges ∷ []
      → Event_does (Parts 0) (begun_at before) flushed → IsSafe flushed
      → Event_does (Sees number) flushed seen → IsSafe seen
      → Event_does Acknowledges seen kept → IsSafe kept
      → TakesPlan Flush before (Taken (mark_at kept.intake) ∷ []) kept
  flush_taken before flushed seen kept number events parts safe sees safe' acknowledges safe'' = record {
    plan = planned (begun_at before) (flush_events before) seal_view;
    is_plan = refl;
    mid = kept;
    does = subst (λ (all : List Event). AllDo (begun_at before) all kept) (sym events)
        (And (Parts 0 ∷ Sees number ∷ []) Acknowledges seen kept
        (And (Parts 0 ∷ []) (Sees number) flushed seen
        (And [] (Parts 0) (begun_at before) flushed No_event parts safe) sees safe') acknowledges safe'');
    outputs_are = refl;
    later_is = refl;
  }

  -- ---- the tapes between the steps

  -- the intake's tape: nothing was seen; then 2 is noted, and acknowledged; left by a stop, opened again; and so on
  abbrev unseen : TapePast
  unseen = tape [] 0 0 made

  abbrev two_noted : TapePast
  two_noted = tape (Seen 2 ∷ []) 0 0 made

  abbrev two_seen : TapePast
  two_seen = tape (Seen 2 ∷ []) 1 0 seen_flushed

  abbrev seen_left : TapePast
  seen_left = tape (Seen 2 ∷ []) 1 0 intake_left

  abbrev seen_found : TapePast
  seen_found = tape (Seen 2 ∷ []) 1 1 intake_again

  abbrev three_noted : TapePast
  three_noted = tape (Seen 2 ∷ Seen 3 ∷ []) 1 1 intake_again

  abbrev three_seen : TapePast
  three_seen = tape (Seen 2 ∷ Seen 3 ∷ []) 2 1 seen_again

  -- the peer: nothing is owed; lines 1 and 2 pend, and are acknowledged; line 3 pends, before its flush and in it
  abbrev nothing : PeerPast
  nothing = peer (tape [] 0 0 made) [] false

  abbrev one_pends : PeerPast
  one_pends = peer (tape (one ∷ []) 0 0 made) (1 ∷ []) false

  abbrev two_pend : PeerPast
  two_pend = peer (tape (one ∷ two ∷ []) 0 0 made) (1 ∷ 2 ∷ []) false

  abbrev two_kept : PeerPast
  two_kept = peer (tape (one ∷ two ∷ []) 2 0 two_flushed) (1 ∷ 2 ∷ []) true

  abbrev three_pends : Bool → PeerPast
  three_pends parted = peer (tape (one ∷ two ∷ three ∷ []) 2 0 two_flushed) (1 ∷ 2 ∷ 3 ∷ []) parted

  abbrev three_struck : PeerPast
  three_struck = peer
      (record (tape (one ∷ two ∷ three ∷ []) 2 0 third_call) { faults = (1, 0); broken = true })
      (1 ∷ 2 ∷ 3 ∷ []) false

  -- it was left by the stop, opened again, and line 3 pends and is acknowledged
  abbrev three_left : PeerPast
  three_left = peer (tape (one ∷ two ∷ three ∷ []) 2 0 peer_left) [] false

  abbrev two_found : PeerPast
  two_found = peer (tape (one ∷ two ∷ []) 2 2 peer_again) (1 ∷ 2 ∷ []) false

  abbrev three_again : PeerPast
  three_again = peer (tape (one ∷ two ∷ three ∷ []) 2 2 peer_again) (1 ∷ 2 ∷ 3 ∷ []) false

  abbrev three_kept : PeerPast
  three_kept = peer (tape (one ∷ two ∷ three ∷ []) 3 2 three_flushed) (1 ∷ 2 ∷ 3 ∷ []) true

  -- which prefixes of the notes are on the disks
  none_of : (notes : List Note) → IsPrefix (tape notes 0 0 made).history start
  none_of notes =
      prefix_with [] (tape notes 0 0 made).history 0 none_on_tape refl refl (omega arith) (omega arith)

  two_of : (notes : List Note) (kept opened : ℕ) (log : Log) → take 2 notes ≡ one ∷ two ∷ [] → kept ≤ 2
      → 2 ≤ length notes → IsPrefix (tape notes kept opened log).history (ledger_in first_two)
  two_of notes kept opened log first enough within =
      prefix_with first_two (tape notes kept opened log).history 2 first_two_on_tape refl first enough within

  three_of : (kept opened : ℕ) (log : Log) → kept ≤ 3
      → IsPrefix (tape (one ∷ two ∷ three ∷ []) kept opened log).history (ledger_in all_three)
  three_of kept opened log enough =
      prefix_with all_three (tape (one ∷ two ∷ three ∷ []) kept opened log).history 3 all_three_on_tape refl refl
      enough (omega arith)

  seen_of : (notes : List Note) (kept opened : ℕ) (log : Log) → take 1 notes ≡ Seen 2 ∷ [] → kept ≤ 1
      → 1 ≤ length notes → IsPrefix (tape notes kept opened log).history (ledger_in seen_two)
  seen_of notes kept opened log first enough within =
      prefix_with seen_two (tape notes kept opened log).history 1 seen_two_on_tape refl first enough within

  seen_both : (kept opened : ℕ) (log : Log) → kept ≤ 2
      → IsPrefix (tape (Seen 2 ∷ Seen 3 ∷ []) kept opened log).history (ledger_in seen_three)
  seen_both kept opened log enough =
      prefix_with seen_three (tape (Seen 2 ∷ Seen 3 ∷ []) kept opened log).history 2 seen_three_on_tape refl refl
      enough (omega arith)

  -- ---- two lines, and a flush

  abbrev fresh : Past
  fresh = past nothing unseen 0 None

  abbrev one_read : Past
  one_read = past one_pends unseen 1 None

  abbrev two_read : Past
  two_read = past two_pend unseen 2 None

  unwritten_safe : (notes : List Note) (owed : List ℕ) (last : ℕ) → PendsAbove 0 (tape notes 0 0 made).history
      → IsSafe (past (peer (tape notes 0 0 made) owed false) unseen last None)
  unwritten_safe notes owed last above =
      safe (peer (tape notes 0 0 made) owed false) unseen last None
      (peer_safe (peer (tape notes 0 0 made) owed false) [] none_on_tape only_made none_beside (none_of notes))
      (intake_safe (peer (tape notes 0 0 made) owed false) unseen [] none_on_tape only_made none_beside (none_of [])
      above)

  one_owed : Event_does (Owes 0 (codes "a/1") (codes "<x@y>")) fresh (past one_pends unseen 0 None)
  one_owed = record {
    peer = nothing;
    here = refl;
    works = refl;
    apart = λ new. refl;
    room = λ new. (λ full. omega (arith, full), λ over. over.1 (omega arith, omega arith));
    changed = refl;
  }

  one_taken : TakesPlan (Line texts.first) fresh (Owed 1 ((codes "p", New) ∷ []) ∷ []) one_read
  one_taken =
      line_taken texts.first (codes "a/1 <x@y> p") (codes "a/1") (codes "<x@y>") fresh (past one_pends unseen 0 None)
      texts.first_is one_line
      (omega arith) refl one_owed (unwritten_safe (one ∷ []) (1 ∷ []) 0 (omega arith, tt))

  two_owed : Event_does (Owes 0 (codes "a/2") (codes "<z@y>")) one_read (past two_pend unseen 1 None)
  two_owed = record {
    peer = one_pends;
    here = refl;
    works = refl;
    apart = λ new. refl;
    room = λ new. (λ full. omega (arith, full), λ over. over.1 (omega arith, omega arith));
    changed = refl;
  }

  two_taken : TakesPlan (Line texts.second) one_read (Owed 2 ((codes "p", New) ∷ []) ∷ []) two_read
  two_taken =
      line_taken texts.second (codes "a/2 <z@y> p") (codes "a/2") (codes "<z@y>") one_read
      (past two_pend unseen 1 None) texts.second_is two_line
      (omega arith) refl two_owed (unwritten_safe (one ∷ two ∷ []) (1 ∷ 2 ∷ []) 1 (omega arith, (omega arith, tt)))

  abbrev first_flush : Past
  first_flush = past two_kept two_seen 2 (Some 2)

  two_peer_safe : EachLedger (KeepsNotes two_kept) two_kept.tape.log
  two_peer_safe =
      peer_safe two_kept first_two first_two_on_tape only_two none_beside
      (two_of (one ∷ two ∷ []) 2 0 two_flushed refl (omega arith) (omega arith))

  first_flush_safe : IsSafe first_flush
  first_flush_safe =
      safe two_kept two_seen 2 (Some 2) two_peer_safe
      (intake_safe two_kept two_seen seen_two seen_two_on_tape only_seen none_beside
      (seen_of (Seen 2 ∷ []) 1 0 seen_flushed refl (omega arith) (omega arith)) tt)

  two_parted : Event_does (Parts 0) (begun_at two_read) (past two_kept unseen 2 (Some 2))
  two_parted = record {
    peer = two_pend;
    tape = two_kept.tape;
    here = refl;
    flushes = record {
      worked = refl;
      fits = has_room [] first_two made.0 made.1 two_pend.tape.history none_on_tape refl refl
          (record { are = first_two_on_tape.are; longest = tt; whole = refl }) (omega arith);
      idle = λ none. absurd (cc none);
      moments = two_leave (KeepsNotes two_pend) (none_of (one ∷ two ∷ []))
          (two_of (one ∷ two ∷ []) 0 0 made refl (omega arith) (omega arith));
      all = refl;
    };
    changed = refl;
  }

  two_acknowledged : Event_does Acknowledges (past two_kept two_noted 2 (Some 2)) first_flush
  two_acknowledged = record {
    tape = two_seen;
    flushes = record {
      worked = refl;
      fits = has_room [] seen_two made.0 made.1 two_noted.history none_on_tape refl refl
          (record { are = seen_two_on_tape.are; longest = tt; whole = refl }) (omega arith);
      idle = λ none. absurd (cc none);
      moments = seen_leave (KeepsLines two_noted.history (two_kept ∷ []))
          (record { prefix = none_of (Seen 2 ∷ []); lines = (tt, tt) })
          (record {
            prefix = seen_of (Seen 2 ∷ []) 0 0 made refl (omega arith) (omega arith);
            lines = (tt, tt);
          });
      all = refl;
    };
    changed = refl;
  }

  first_flush_taken : TakesPlan Flush two_read (Taken 2 ∷ []) first_flush
  first_flush_taken =
      flush_taken two_read (past two_kept unseen 2 (Some 2)) (past two_kept two_noted 2 (Some 2)) first_flush 2 refl
      two_parted
      (safe two_kept unseen 2 (Some 2) two_peer_safe
      (intake_safe two_kept unseen [] none_on_tape only_made none_beside (none_of []) tt))
      (record { room = λ less. (refl, λ full. omega (arith, full)); changed = refl })
      (safe two_kept two_noted 2 (Some 2) two_peer_safe
      (intake_safe two_kept two_noted [] none_on_tape only_made none_beside (none_of (Seen 2 ∷ [])) tt))
      two_acknowledged first_flush_safe

  -- the steps so far, and what they report
  abbrev first_steps : List Step
  first_steps = Line texts.first ∷ Line texts.second ∷ Flush ∷ []

  abbrev first_reports : List (List View)
  first_reports = (Owed 1 ((codes "p", New) ∷ []) ∷ []) ∷ (Owed 2 ((codes "p", New) ∷ []) ∷ []) ∷ (Taken 2 ∷ []) ∷ []

  no_number : (number : ℕ) (P : Type 0) → None ≡ Some number → P
  no_number number P is = absurd (cc is)

  first_flush_sound : (armed : Option Armed) → IsSoundLife (life first_flush armed true)
  first_flush_sound armed =
      sound two_kept.tape (1 ∷ 2 ∷ []) true two_seen 2 (Some 2) armed true (omega arith) (omega arith) tt
      (λ number is. let same : 2 ≡ number = cc is in (omega (arith, same), λ parted. tt))

  first_run : Comes (life fresh None true) first_steps first_reports (life first_flush None true)
  first_run =
      Step_taken (take 2 first_steps) Flush (take 2 first_reports) (Taken 2 ∷ []) (life two_read None true)
      (life first_flush None true)
      (Step_taken (take 1 first_steps) (Line texts.second) (take 1 first_reports)
      (Owed 2 ((codes "p", New) ∷ []) ∷ []) (life one_read None true) (life two_read None true)
      (Step_taken [] (Line texts.first) [] (Owed 1 ((codes "p", New) ∷ []) ∷ [])
      (life fresh None true) (life one_read None true)
      (No_step (unwritten_safe [] [] 0 tt)
      (sound nothing.tape [] false unseen 0 None None true (omega arith) (omega arith) tt
      (λ number is. no_number number _ is)))
      (inl (refl, (one_read, one_taken, refl)))
      (unwritten_safe (one ∷ []) (1 ∷ []) 1 (omega arith, tt))
      (sound one_pends.tape (1 ∷ []) false unseen 1 None None true (omega arith) (omega arith) (omega arith, tt)
      (λ number is. no_number number _ is)))
      (inl (refl, (two_read, two_taken, refl)))
      (unwritten_safe (one ∷ two ∷ []) (1 ∷ 2 ∷ []) 2 (omega arith, (omega arith, tt)))
      (sound two_pend.tape (1 ∷ 2 ∷ []) false unseen 2 None None true (omega arith) (omega arith)
      (omega arith, (omega arith, tt)) (λ number is. no_number number _ is)))
      (inl (refl, (first_flush, first_flush_taken, refl)))
      first_flush_safe (first_flush_sound None)

  -- both lines are acknowledged: a stop may leave the mark 2 on the intake's tape
  acknowledged : (number : ℕ) → number ≤ 2 → IsAcknowledgedLine first_flush number
  acknowledged number below = record { seen = ledger_in seen_two; may = seen_may; below = below }

  -- and they made their debts
  one_made : MadeDebt first_flush 0 1 (codes "a/1") (codes "<x@y>")
  one_made = record {
    line = acknowledged 1 (omega arith);
    peer = two_kept;
    here = refl;
    noted = (0, omega arith, refl);
  }

  -- so their notes are acknowledged: number 0 of them, and number 1
  one_stands : 0 < two_kept.tape.history.kept
  one_stands =
      lines_stand first_flush first_flush_safe 0 0 1 two_kept (codes "a/1") (codes "<x@y>")
      (acknowledged 1 (omega arith)) refl refl

  two_stands : 1 < two_kept.tape.history.kept
  two_stands =
      lines_stand first_flush first_flush_safe 0 1 2 two_kept (codes "a/2") (codes "<z@y>")
      (acknowledged 2 (omega arith)) refl refl

  -- ---- a line, and a flush that a stop meets in its third call

  abbrev third_read : Past
  third_read = past (three_pends true) two_seen 3 (Some 2)

  three_peer_safe : (parted : Bool) → EachLedger (KeepsNotes (three_pends parted)) (three_pends parted).tape.log
  three_peer_safe parted =
      peer_safe (three_pends parted) first_two first_two_on_tape only_two none_beside
      (two_of (one ∷ two ∷ three ∷ []) 2 0 two_flushed refl (omega arith) (omega arith))

  third_read_safe : (last : ℕ) → IsSafe (past (three_pends true) two_seen last (Some 2))
  third_read_safe last =
      safe (three_pends true) two_seen last (Some 2) (three_peer_safe true)
      (intake_safe (three_pends true) two_seen seen_two seen_two_on_tape only_seen none_beside
      (seen_of (Seen 2 ∷ []) 1 0 seen_flushed refl (omega arith) (omega arith)) (omega arith, tt))

  third_owed : Event_does (Owes 0 (codes "a/3") (codes "<w@y>")) first_flush
      (past (three_pends true) two_seen 2 (Some 2))
  third_owed = record {
    peer = two_kept;
    here = refl;
    works = refl;
    apart = λ new. refl;
    room = λ new. (λ full. omega (arith, full), λ over. over.1 (omega arith, omega arith));
    changed = refl;
  }

  third_taken : TakesPlan (Line texts.third) first_flush (Owed 3 ((codes "p", New) ∷ []) ∷ [])
      third_read
  third_taken =
      line_taken texts.third (codes "a/3 <w@y> p") (codes "a/3") (codes "<w@y>") first_flush
      (past (three_pends true) two_seen 2 (Some 2)) texts.third_is three_line (omega arith) refl third_owed
      (third_read_safe 2)

  third_read_sound : (armed : Option Armed) → IsSoundLife (life third_read armed true)
  third_read_sound armed =
      sound (three_pends true).tape (1 ∷ 2 ∷ 3 ∷ []) true two_seen 3 (Some 2) armed true (omega arith) (omega arith)
      (omega arith, tt)
      (λ number is. let same : 2 ≡ number = cc is in (omega (arith, same), λ parted. (omega (arith, same), tt)))

  -- the stop: at the third call on the peer's disks, and what was not synced did not happen
  abbrev stop : Armed
  stop = record { rank = Some 0; call = 3; choice = choosing 0 0 }

  -- a disk fails in that call: the tape breaks, and nothing else has changed
  abbrev struck : Past
  struck = past three_struck two_seen 3 (Some 3)

  struck_leaves : LedgersLeave (KeepsNotes (three_pends false)) two_flushed third_call
  struck_leaves =
      third_leave (KeepsNotes (three_pends false))
      (two_of (one ∷ two ∷ three ∷ []) 2 0 two_flushed refl (omega arith) (omega arith))
      (three_of 2 0 two_flushed (omega arith))

  part_refused : Event_refuses (Parts 0) (begun_at third_read) (Tape Disk) struck
  part_refused = record {
    peer = three_pends false;
    tape = three_struck.tape;
    here = refl;
    refused = inr (inr (inr (
      refl,
      (
        λ none. cc none,
        has_room first_two ((three ∷ []) ∷ []) two_flushed.0 two_flushed.1 (three_pends false).tape.history
            first_two_on_tape refl refl (record { are = all_three_on_tape.are.1; longest = tt; whole = refl })
            (omega arith),
      ),
      record { worked = refl; cause = inl (omega arith); moments = struck_leaves; all = refl },
    )));
    changed = refl;
  }

  struck_safe : IsSafe struck
  struck_safe =
      safe three_struck two_seen 3 (Some 3)
      (TapeLeaves-now (HasLedger (KeepsNotes (three_pends false))) two_flushed third_call struck_leaves)
      (intake_safe three_struck two_seen seen_two seen_two_on_tape only_seen none_beside
      (seen_of (Seen 2 ∷ []) 1 0 seen_flushed refl (omega arith) (omega arith)) (omega arith, tt))

  -- so the flush is under way, and its first event is refused
  under_way : IsUnderWay Flush (life third_read (Some stop) true) (begun_at third_read) struck
  under_way = record {
    running = refl;
    plan = planned (begun_at third_read) (flush_events third_read) seal_view;
    is_plan = refl;
    count = 0;
    prefix = No_event;
    event = Parts 0;
    here = refl;
    makes = inr (Tape Disk, part_refused);
  }

  -- and the stop is met: all stops with what it left
  abbrev stopped : Past
  stopped = past three_left seen_left 3 None

  strikes : Strikes Flush (life third_read (Some stop) true) (Stopped ∷ []) (life stopped None false)
  strikes = record {
    stop = stop;
    under_way = struck;
    meets = record {
      armed = refl;
      running = refl;
      failed = record {
        plan = planned (begun_at third_read) (flush_events third_read) seal_view;
        is_plan = refl;
        fails = record {
          count = 0;
          mid = begun_at third_read;
          event = Parts 0;
          prefix = No_event;
          here = refl;
          refused = part_refused;
          safe = struck_safe;
        };
      };
      at_tape = refl;
    };
    outputs_are = refl;
    changed = refl;
  }

  peer_found : LedgersLeave (KeepsNotes three_left) peer_left peer_again
  peer_found =
      again_leave (KeepsNotes three_left)
      (two_of (one ∷ two ∷ three ∷ []) 2 0 peer_left refl (omega arith) (omega arith))

  intake_found : (p : PeerPast) → PendsAbove 2 p.tape.history
      → LedgersLeave (KeepsLines seen_left.history (p ∷ [])) intake_left intake_again
  intake_found p above =
      intake_again_leave (KeepsLines seen_left.history (p ∷ []))
      (record {
        prefix = seen_of (Seen 2 ∷ []) 1 0 intake_left refl (omega arith) (omega arith);
        lines = (above, tt);
      })

  stopped_safe : IsSafe stopped
  stopped_safe =
      safe three_left seen_left 3 None
      (TapeLeaves-first (HasLedger (KeepsNotes three_left)) peer_left peer_again peer_found)
      (TapeLeaves-first (HasLedger (KeepsLines seen_left.history (three_left ∷ []))) intake_left intake_again
      (intake_found three_left (omega arith, tt)))

  stopped_sound : IsSoundLife (life stopped None false)
  stopped_sound =
      sound three_left.tape [] false seen_left 3 None None false (omega arith) (omega arith) (omega arith, tt)
      (λ number is. no_number number _ is)

  -- ---- the restart

  abbrev restarted : Past
  restarted = past two_found seen_found 2 None

  found_safe : EachLedger (KeepsNotes two_found) peer_again
  found_safe =
      peer_safe two_found first_two first_two_on_tape only_again none_again
      (two_of (one ∷ two ∷ []) 2 2 peer_again refl (omega arith) (omega arith))

  restarted_safe : IsSafe restarted
  restarted_safe =
      safe two_found seen_found 2 None found_safe
      (intake_safe two_found seen_found seen_two seen_two_on_tape only_seen_again none_again
      (seen_of (Seen 2 ∷ []) 1 1 intake_again refl (omega arith) (omega arith)) tt)

  -- the disks hold lines 1 and 2; line 3 is not among the notes any more
  peer_opened : Event_does (Opens 0) stopped (past two_found seen_left 3 None)
  peer_opened = record {
    peer = three_left;
    tape = two_found.tape;
    here = refl;
    opens = record {
      count = 2;
      enough = omega arith;
      within = omega arith;
      found = as_before_is;
      moments = peer_found;
      all = refl;
    };
    changed = refl;
  }

  intake_opened : Event_does OpensIntake (past two_found seen_left 3 None) restarted
  intake_opened = record {
    tape = seen_found;
    opens = record {
      count = 1;
      enough = omega arith;
      within = omega arith;
      found = intake_left_is;
      moments = intake_found two_found tt;
      all = refl;
    };
    changed = refl;
  }

  restart_taken : TakesPlan Restart stopped (Mark (codes "p") 2 (1 ∷ 2 ∷ []) ∷ []) restarted
  restart_taken = record {
    plan = planned stopped (restart_events stopped) (λ (later : Past). map mark_view later.peers);
    is_plan = refl;
    mid = restarted;
    does = And (Opens 0 ∷ []) OpensIntake (past two_found seen_left 3 None) restarted
        (And [] (Opens 0) stopped (past two_found seen_left 3 None) No_event peer_opened
        (safe two_found seen_left 3 None found_safe
        (TapeLeaves-first (HasLedger (KeepsLines seen_left.history (two_found ∷ []))) intake_left intake_again
        (intake_found two_found tt))))
        intake_opened restarted_safe;
    outputs_are = refl;
    later_is = refl;
  }

  restarted_sound : IsSoundLife (life restarted None true)
  restarted_sound =
      sound two_found.tape (1 ∷ 2 ∷ []) false seen_found 2 None None true (omega arith) (omega arith) tt
      (λ number is. no_number number _ is)

  -- ---- the line again, and a flush

  abbrev read_again : Past
  read_again = past three_again seen_found 3 None

  again_safe : (last : ℕ) → IsSafe (past three_again seen_found last None)
  again_safe last =
      safe three_again seen_found last None
      (peer_safe three_again first_two first_two_on_tape only_again none_again
      (two_of (one ∷ two ∷ three ∷ []) 2 2 peer_again refl (omega arith) (omega arith)))
      (intake_safe three_again seen_found seen_two seen_two_on_tape only_seen_again none_again
      (seen_of (Seen 2 ∷ []) 1 1 intake_again refl (omega arith) (omega arith)) (omega arith, tt))

  again_owed : Event_does (Owes 0 (codes "a/3") (codes "<w@y>")) restarted (past three_again seen_found 2 None)
  again_owed = record {
    peer = two_found;
    here = refl;
    works = refl;
    apart = λ new. refl;
    room = λ new. (λ full. omega (arith, full), λ over. over.1 (omega arith, omega arith));
    changed = refl;
  }

  again_taken : TakesPlan (Line texts.third) restarted (Owed 3 ((codes "p", New) ∷ []) ∷ [])
      read_again
  again_taken =
      line_taken texts.third (codes "a/3 <w@y> p") (codes "a/3") (codes "<w@y>") restarted
      (past three_again seen_found 2 None)
      texts.third_is three_line (omega arith) refl again_owed (again_safe 2)

  abbrev pub last_flush : Past
  last_flush = past three_kept three_seen 3 (Some 3)

  three_kept_safe : EachLedger (KeepsNotes three_kept) three_flushed
  three_kept_safe =
      peer_safe three_kept all_three all_three_on_tape only_three none_again (three_of 3 2 three_flushed (omega arith))

  last_flush_safe : IsSafe last_flush
  last_flush_safe =
      safe three_kept three_seen 3 (Some 3) three_kept_safe
      (intake_safe three_kept three_seen seen_three seen_three_on_tape only_seen_three none_again
      (seen_both 2 1 seen_again (omega arith)) tt)

  three_parted : Event_does (Parts 0) (begun_at read_again) (past three_kept seen_found 3 (Some 3))
  three_parted = record {
    peer = three_again;
    tape = three_kept.tape;
    here = refl;
    flushes = record {
      worked = refl;
      fits = has_room first_two ((three ∷ []) ∷ []) peer_again.0 peer_again.1 three_again.tape.history
          first_two_on_tape refl refl (record { are = all_three_on_tape.are.1; longest = tt; whole = refl })
          (omega arith);
      idle = λ none. absurd (cc none);
      moments = three_leave (KeepsNotes three_again)
          (two_of (one ∷ two ∷ three ∷ []) 2 2 peer_again refl (omega arith) (omega arith))
          (three_of 2 2 peer_again (omega arith));
      all = refl;
    };
    changed = refl;
  }

  three_acknowledged : Event_does Acknowledges (past three_kept three_noted 3 (Some 3)) last_flush
  three_acknowledged = record {
    tape = three_seen;
    flushes = record {
      worked = refl;
      fits = has_room seen_two ((Seen 3 ∷ []) ∷ []) intake_again.0 intake_again.1 three_noted.history seen_two_on_tape
          refl refl (record { are = seen_three_on_tape.are.1; longest = tt; whole = refl }) (omega arith);
      idle = λ none. absurd (cc none);
      moments = seen_again_leave (KeepsLines three_noted.history (three_kept ∷ []))
          (record {
            prefix = seen_of (Seen 2 ∷ Seen 3 ∷ []) 1 1 intake_again refl (omega arith) (omega arith);
            lines = (tt, tt);
          })
          (record { prefix = seen_both 1 1 intake_again (omega arith); lines = (tt, tt) });
      all = refl;
    };
    changed = refl;
  }

  last_flush_taken : TakesPlan Flush read_again (Taken 3 ∷ []) last_flush
  last_flush_taken =
      flush_taken read_again (past three_kept seen_found 3 (Some 3)) (past three_kept three_noted 3 (Some 3)) last_flush
      3 refl three_parted
      (safe three_kept seen_found 3 (Some 3) three_kept_safe
      (intake_safe three_kept seen_found seen_two seen_two_on_tape only_seen_again none_again
      (seen_of (Seen 2 ∷ []) 1 1 intake_again refl (omega arith) (omega arith)) tt))
      (record { room = λ less. (refl, λ full. omega (arith, full)); changed = refl })
      (safe three_kept three_noted 3 (Some 3) three_kept_safe
      (intake_safe three_kept three_noted seen_two seen_two_on_tape only_seen_again none_again
      (seen_of (Seen 2 ∷ Seen 3 ∷ []) 1 1 intake_again refl (omega arith) (omega arith)) tt))
      three_acknowledged last_flush_safe

  -- ---- these steps, after any that made the first flush

  abbrev third_line : Step
  third_line = Line texts.third

  abbrev third_new : List View
  third_new = Owed 3 ((codes "p", New) ∷ []) ∷ []

  abbrev stops_there : Step
  stops_there = Stop (Some (codes "p")) 3 (choosing 0 0)

  to_armed : (begun : Life) (before : List Step) (lines : List (List View))
      → Comes begun before lines (life first_flush None true)
      → Comes begun ((before ++ third_line ∷ []) ++ stops_there ∷ []) ((lines ++ third_new ∷ []) ++ [] ∷ [])
      (life third_read (Some stop) true)
  to_armed begun before lines comes =
      Step_taken (before ++ third_line ∷ []) stops_there (lines ++ third_new ∷ []) [] (life third_read None true)
      (life third_read (Some stop) true)
      (Step_taken before third_line lines third_new (life first_flush None true) (life third_read None true) comes
      (inl (refl, (third_read, third_taken, refl))) (third_read_safe 3) (third_read_sound None))
      (inl (Some 0, refl, refl, refl)) (third_read_safe 3) (third_read_sound (Some stop))

  to_restarted : (begun : Life) (before : List Step) (lines : List (List View))
      → Comes begun before lines (life third_read (Some stop) true)
      → Comes begun ((before ++ Flush ∷ []) ++ Restart ∷ [])
      ((lines ++ (Stopped ∷ []) ∷ []) ++ (Mark (codes "p") 2 (1 ∷ 2 ∷ []) ∷ []) ∷ []) (life restarted None true)
  to_restarted begun before lines comes =
      Step_taken (before ++ Flush ∷ []) Restart (lines ++ (Stopped ∷ []) ∷ []) (Mark (codes "p") 2 (1 ∷ 2 ∷ []) ∷ [])
      (life stopped None false) (life restarted None true)
      (Step_taken before Flush lines (Stopped ∷ []) (life third_read (Some stop) true) (life stopped None false) comes
      (inr strikes) stopped_safe stopped_sound)
      (inl (refl, (restarted, restart_taken, refl))) restarted_safe restarted_sound

  to_end : (begun : Life) (before : List Step) (lines : List (List View))
      → Comes begun before lines (life restarted None true)
      → Comes begun ((before ++ third_line ∷ []) ++ Flush ∷ []) ((lines ++ third_new ∷ []) ++ (Taken 3 ∷ []) ∷ [])
      (life last_flush None true)
  to_end begun before lines comes =
      Step_taken (before ++ third_line ∷ []) Flush (lines ++ third_new ∷ []) (Taken 3 ∷ []) (life read_again None true)
      (life last_flush None true)
      (Step_taken before third_line lines third_new (life restarted None true) (life read_again None true) comes
      (inl (refl, (read_again, again_taken, refl))) (again_safe 3)
      (sound three_again.tape (1 ∷ 2 ∷ 3 ∷ []) false seen_found 3 None None true (omega arith) (omega arith)
      (omega arith, tt) (λ number is. no_number number _ is)))
      (inl (refl, (last_flush, last_flush_taken, refl))) last_flush_safe
      (sound three_kept.tape (1 ∷ 2 ∷ 3 ∷ []) true three_seen 3 (Some 3) None true (omega arith) (omega arith) tt
      (λ number is. let same : 3 ≡ number = cc is in (omega (arith, same), λ parted. tt)))

  -- the whole run, from an empty spool on
  whole_run : Comes (life fresh None true)
      (first_steps ++ third_line ∷ stops_there ∷ Flush ∷ Restart ∷ third_line ∷ Flush ∷ [])
      (first_reports ++ third_new ∷ [] ∷ (Stopped ∷ []) ∷ (Mark (codes "p") 2 (1 ∷ 2 ∷ []) ∷ []) ∷ third_new
      ∷ (Taken 3 ∷ []) ∷ [])
      (life last_flush None true)
  whole_run =
      to_end (life fresh None true) _ _
      (to_restarted (life fresh None true) _ _
      (to_armed (life fresh None true) first_steps first_reports first_run))

  -- and its later part, from the first flush on
  abbrev to_the_stop : List Step
  to_the_stop = third_line ∷ stops_there ∷ []

  arms : Comes (life first_flush None true) to_the_stop (third_new ∷ [] ∷ []) (life third_read (Some stop) true)
  arms =
      to_armed (life first_flush None true) [] [] (No_step first_flush_safe (first_flush_sound None))

  abbrev later_steps : List Step
  later_steps = third_line ∷ stops_there ∷ Flush ∷ Restart ∷ third_line ∷ Flush ∷ []

  abbrev later_reports : List (List View)
  later_reports =
      third_new ∷ [] ∷ (Stopped ∷ []) ∷ (Mark (codes "p") 2 (1 ∷ 2 ∷ []) ∷ []) ∷ third_new ∷ (Taken 3 ∷ []) ∷ []

  later_run : Comes (life first_flush None true) later_steps later_reports (life last_flush None true)
  later_run =
      to_end (life first_flush None true) (take 4 later_steps) (take 4 later_reports)
      (to_restarted (life first_flush None true) to_the_stop (third_new ∷ [] ∷ []) arms)

  -- ---- what the laws say of it

  -- a prefix of three notes, of which two are acknowledged, owes two debts or three
  two_or_three : (opened : ℕ) (log : Log) (state : State)
      → IsPrefix (tape (one ∷ two ∷ three ∷ []) 2 opened log).history state
      → (state.debts ≡ one_debt ∷ two_debt ∷ []) ⊎ (state.debts ≡ one_debt ∷ two_debt ∷ three_debt ∷ [])
  two_or_three opened log state prefix = elim (cases_lt prefix.count 3) [
    | inl less ↦
        let two_of_them : prefix.count ≡ 2 = omega (arith, less, prefix.enough) in
        inl (ap (λ (s : State). s.debts) prefix.is
        ∙ ap (λ (n : ℕ). (ledger_of_first (tape (one ∷ two ∷ three ∷ []) 2 opened log).history n).debts)
        two_of_them)
    | inr more ↦
        let all_of_them : prefix.count ≡ 3 = omega (arith, more, prefix.within) in
        inr (ap (λ (s : State). s.debts) prefix.is
        ∙ ap (λ (n : ℕ). (ledger_of_first (tape (one ∷ two ∷ three ∷ []) 2 opened log).history n).debts)
        all_of_them)
  ]

  -- `all_moments_are_recovered`: a stop in the third call of the flush leaves a tape that owes lines 1 and 2, and maybe
  -- line 3
  third_call_leaves : EachLedger (λ (state : State). (state.debts ≡ one_debt ∷ two_debt ∷ [])
      ⊎ (state.debts ≡ one_debt ∷ two_debt ∷ three_debt ∷ [])) third_call
  third_call_leaves =
      let law = moments_recovered (life first_flush None true) (life third_read (Some stop) true) to_the_stop
      (third_new ∷ [] ∷ []) arms Flush (begun_at third_read) struck under_way in
      EachLedger-weaker (KeepsNotes (three_pends false)) _ (two_or_three 0 two_flushed) third_call
      (TapeLeaves-now (HasLedger (KeepsNotes (three_pends false))) two_flushed third_call law.prefixes.0)

  -- `acknowledged_lines_are_kept`, `within`: whatever it leaves then, line 1 is owed, or has ended
  third_call_keeps : LedgersLeave (OwesOrEnded (three_pends false) 1 (codes "a/1") (codes "<x@y>")) two_flushed
      third_call
  third_call_keeps =
      lines_kept_within (life first_flush None true) (life third_read (Some stop) true) to_the_stop
      (third_new ∷ [] ∷ []) arms Flush (begun_at third_read) struck under_way 0 1 (codes "a/1") (codes "<x@y>")
      (three_pends false) three_struck one_made refl refl

  -- `all_are_recovered`: after the restart and the last flush a stop leaves a tape that owes all three
  end_leaves : EachLedger (λ (state : State). state.debts ≡ one_debt ∷ two_debt ∷ three_debt ∷ []) three_flushed
  end_leaves =
      let law = recover_all (life first_flush None true) (life last_flush None true) later_steps later_reports later_run
      in
      EachLedger-weaker (KeepsNotes three_kept) _ (λ state prefix.
      let all_of_them : prefix.count ≡ 3 = omega (arith, prefix.enough, prefix.within) in
      ap (λ (s : State). s.debts) prefix.is
      ∙ ap (λ (n : ℕ). (ledger_of_first three_kept.tape.history n).debts) all_of_them) three_flushed law.0.prefix

  -- `acknowledged_lines_are_kept`, `after`: the same of line 1 alone, whose debt was acknowledged before the stop
  end_keeps : EachLedger (OwesOrEnded three_kept 1 (codes "a/1") (codes "<x@y>")) three_flushed
  end_keeps =
      lines_kept (life first_flush None true) (life last_flush None true) later_steps later_reports later_run 0 1
      (codes "a/1") (codes "<x@y>") three_kept one_made refl
