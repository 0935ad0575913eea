-- Worked runs, computed, of a world of one peer whose tapes are empty. No step of them writes to a disk, so a stop
-- leaves empty tapes before, within and after each.
use Rattle.std.proofs.Common.{◌≡◌, ◌<◌, ◌≤◌, ◌^◌, ℕ, zero, suc, Bool, true, false, Option, None, Some, List, [], ◌∷◌}
use Rattle.std.proofs.Common.{◌==◌, cond, refl, sym, ap, subst, inl, arith, length}
use Rattle.std.specs.Prelude.{Vec, codes, slice_get}
use Rattle.std.specs.List.{IsDistinct}
use Rattle.std.specs.declared.alloc.Global.{Global}
use Rattle.disk_model.specs.declared.choice.Choice.{Choice}
use Rattle.feed_conf.specs.declared.conf.PeerConf.{PeerConf}
use Rattle.funnel.specs.Line.{HasFault}
use Rattle.funnel.specs.declared.line.LineFault.TheVariants.{NoToken}
use Rattle.recovery.specs.Notes.{begun as begun_history}
use Rattle.conn_core.specs.History.{Broke, Event as Happening, Sent, Tick, after, outside, story}
use Rattle.conn_core.specs.Stands.{Arises}
use Rattle.conn_core.specs.Stands.Arises.{Goes_on, Starts}
use Rattle.conn_core.specs.declared.reason.Reason.TheVariants.{Broken}
use Rattle.peer_queue.specs.DebtPlace.{IsHeldBy}
use Rattle.sections.specs.TapeLaws.{no_notes, nothing_left}
use Rattle.sections.specs.Tapes.{TapePast}
use Rattle.world_core.specs.Past.{Armed, ConnPast, Life, Past, PeerPast, options_of}
use Rattle.world_core.specs.Exchange.{broken_off, fresh_conn, followed_up, ticked}
use Rattle.world_core.specs.Exchange.AllSettleAt.{None_settled}
use Rattle.world_core.specs.Exchange.HandsOver.{None_there}
use Rattle.world_core.specs.Exchange.TicksEach.{Next as NextTicks, Start as NoTick}
use Rattle.world_core.specs.Events.AllDo.{Start as NoEvent}
use Rattle.world_core.specs.Halts.{armed_with}
use Rattle.world_core.specs.Output.{Bad, Closed, Connected, Handed, Stopped}
use Rattle.world_core.specs.Runs.{RefusesStep, Runs}
use Rattle.world_core.specs.Runs.Runs.{Next, Start}
use Rattle.world_core.specs.Safe.{IsSafe, KeepsLines, KeepsNotes}
use Rattle.world_core.specs.Sound.{HasNumber, IsSound, IsSoundLife, numbers_at}
use Rattle.world_core.specs.Steps.{planned, reading_plan}
use Rattle.world_core.specs.Steps.Reading.{NotGood}
use Rattle.world_core.specs.declared.fault.Fault.TheVariants.{Running, Stopped as HasStopped}
use Rattle.world_core.specs.declared.output.Handed.TheVariants.{Nothing}
use Rattle.world_core.specs.declared.step.Step.TheVariants.{Begin, Break, Connect, Hand, Line, Restart, Stop}
use Rattle.world_core.specs.declared.step.Step.TheVariants.{Tick as TickStep}

distinct_nil : IsDistinct {K = ℕ} (λ (one other : ℕ). one == other) []
unfolding IsDistinct
distinct_nil = tt

-- ---- the world

module _ (conf : PeerConf) (choice : Choice) where
  abbrev tape : TapePast
  tape = record { history = begun_history; log = ([], []); faults = (0, 0); broken = false }

  abbrev peer : PeerPast
  peer = record {
    conf = record conf {
      name = codes "p";
      streaming = true;
      max_queue = 20;
      check_high = 9500;
      check_low = 9000;
      check_filter = 20;
      response_timeout = 300;
    };
    tape = tape;
    places = [];
    parted = false;
  }

  -- the last line's number, and the one that is kept
  abbrev past : ℕ → Option ℕ → Past
  past last begun = record { peers = peer ∷ []; intake = tape; last = last; begun = begun }

  abbrev alone : Past → Life
  alone past = record { past = past; conns = []; connected = 3; now = 60; armed = None; running = true }

  abbrev life : Life
  life = alone (past 4 None)

  -- a connection of this transcript to the peer, and the world in which it is the only one
  abbrev conn : List Happening → ConnPast
  conn h = record { rank = 0; unread = []; transcript = h; settled = 0 }

  abbrev joined : List Happening → Life
  joined h = record life { conns = (4, conn h) ∷ []; connected = 4 }

  safe : (last : ℕ) (begun : Option ℕ) → IsSafe (past last begun)
  safe last begun = record {
    peers = (nothing_left (KeepsNotes peer) no_notes, tt);
    intake = nothing_left (KeepsLines begun_history (peer ∷ [])) (record { prefix = no_notes; lines = (tt, tt) });
  }

  sound : (last : ℕ) (begun : Option ℕ) → last < 2 ^ 64 → ((number : ℕ) → begun ≡ Some number → number ≤ last)
      → IsSound (past last begun)
  sound last begun fits kept = record {
    names = (tt, tt);
    fits = fits;
    marked = omega arith;
    acknowledged = (tt, tt);
    kept = kept;
    parted = λ number is. ((λ parted. tt), tt);
  }

  none_held : (rank id number : ℕ) (other : PeerPast) → slice_get (peer ∷ []) rank ≡ Some other
      → IsHeldBy other.places id number → ⊥
  none_held zero id number other here is =
      let same : peer ≡ other = cc in
      absurd (cc (subst (λ (p : PeerPast). IsHeldBy p.places id number) (sym same) is))
  none_held (suc rank) id number other here is = absurd (cc here)

  sound_alone : (last : ℕ) (begun : Option ℕ) (connected now : ℕ) (armed : Option Armed) (running : Bool)
      → last < 2 ^ 64
      → ((number : ℕ) → begun ≡ Some number → number ≤ last)
      → IsSoundLife (record {
        past = past last begun;
        conns = [];
        connected = connected;
        now = now;
        armed = armed;
        running = running;
      })
  sound_alone last begun connected now armed running fits kept = record {
    past = sound last begun fits kept;
    conns = record {
      rising = λ k within. absurd (omega (arith, within));
      made = tt;
      each = tt;
      held = λ rank id number other here.
          ((λ is. absurd (none_held rank id number other here is)), (λ has. absurd (cc has.here)));
      none = λ stopped. refl;
    };
  }

  none_kept : (number : ℕ) → None ≡ Some number → number ≤ 4
  none_kept number is = absurd (cc is)

  found : (b : Bool) (one other : ConnPast) → cond b (Some one) None ≡ Some other → one ≡ other
  found true one other is = cc is
  found false one other is = absurd (cc is)

  -- a connection without a debt has no number
  none_numbered : (h : List Happening) (rank id number : ℕ) (other : PeerPast)
      → slice_get (peer ∷ []) rank ≡ Some other → numbers_at (options_of peer.conf) (conn h) ≡ []
      → HasNumber (joined h) rank other id number → ⊥
  none_numbered h (suc rank) id number other here none has = absurd (cc here)
  none_numbered h zero id number other here none has =
      let its : conn h ≡ has.conn = found (4 == id) (conn h) has.conn has.here in
      let same : peer ≡ other = cc here in
      let numbers : numbers_at (options_of other.conf) has.conn ≡ [] = rw (← same, ← its) none in
      absurd (omega (arith, has.has.1, ap length numbers))

  sound_joined : (h : List Happening) (now : ℕ) → Arises (options_of peer.conf) h
      → numbers_at (options_of peer.conf) (conn h) ≡ [] → IsSoundLife (record (joined h) { now = now })
  sound_joined h now arises none = record {
    past = sound 4 None (omega arith) none_kept;
    conns = record {
      rising = λ k within. absurd (omega (arith, within));
      made = (omega arith, tt);
      each = (
        record {
          peer = peer;
          here = refl;
          arises = arises;
          once = subst (IsDistinct (λ (one other : ℕ). one == other)) (sym none) distinct_nil;
        },
        tt,
      );
      held = λ rank id number other here. (
        (λ is. absurd (none_held rank id number other here is)),
        (λ has. absurd (none_numbered h rank id number other here none
            (record { conn = has.conn; here = has.here; its = has.its; has = has.has }))),
      );
      none = λ stopped. absurd (cc stopped);
    };
  }

  -- ---- runs

  -- no step
  rests : Runs life [] [] life
  rests = Start (safe 4 None) (sound_alone 4 None 3 60 None true (omega arith) none_kept)

  -- the last line's number is kept, and a stop is armed at the third call on the disks of `p`
  abbrev begun : Life
  begun = alone (past 4 (Some 4))

  abbrev armed : Armed
  armed = record { rank = Some 0; call = 3; choice = choice }

  last_kept : (number : ℕ) → Some 4 ≡ Some number → number ≤ 4
  last_kept number is = let same : 4 ≡ number = cc is in omega (arith, same)

  begins : Runs life (Begin ∷ []) ([] ∷ []) begun
  begins = Next [] Begin [] [] life begun rests
      (inl (
        refl,
        (
          past 4 (Some 4),
          record {
            plan = planned (past 4 (Some 4)) [] (λ (later : Past). []);
            is_plan = refl;
            mid = past 4 (Some 4);
            does = NoEvent;
            outputs_are = refl;
            later_is = refl;
          },
          refl,
        ),
      ))
      (safe 4 (Some 4)) (sound_alone 4 (Some 4) 3 60 None true (omega arith) last_kept)

  arms : Runs life (Begin ∷ Stop (Some (codes "p")) 3 choice ∷ []) ([] ∷ [] ∷ []) (armed_with armed begun)
  arms = Next (Begin ∷ []) (Stop (Some (codes "p")) 3 choice) ([] ∷ []) [] begun (armed_with armed begun) begins
      (inl (Some 0, refl, refl, refl))
      (safe 4 (Some 4)) (sound_alone 4 (Some 4) 3 60 (Some armed) true (omega arith) last_kept)

  -- the moment is set where there is no connection
  ticks : Runs life (TickStep 61 ∷ []) ([] ∷ []) (record life { now = 61 })
  ticks = Next [] (TickStep 61) [] [] life (record life { now = 61 }) rests (inl (refl, NoTick))
      (safe 4 None) (sound_alone 4 None 3 61 None true (omega arith) none_kept)

  -- a line without a word is malformed, and has its number
  bad_line : (text : Vec ℕ Global) → text.items ≡ [] → Runs life (Line text ∷ []) ((Bad 5 NoToken ∷ []) ∷ [])
      (alone (past 5 None))
  bad_line text empty = Next [] (Line text) [] (Bad 5 NoToken ∷ []) life (alone (past 5 None)) rests
      (inl (
        refl,
        (
          past 5 None,
          record {
            plan = reading_plan (NotGood NoToken) (past 4 None);
            is_plan = (
              omega arith,
              (
                NotGood NoToken,
                (subst (λ (line : List ℕ). HasFault line NoToken) (sym empty) (omega arith, refl), λ same. cc same),
                refl,
              ),
            );
            mid = past 4 None;
            does = NoEvent;
            outputs_are = refl;
            later_is = refl;
          },
          refl,
        ),
      ))
      (safe 5 None) (sound_alone 5 None 3 60 None true (omega arith) (λ number is. absurd (cc is)))

  -- a connection is made, with the number after the last one that was
  connects : Runs life (Connect (codes "p") ∷ []) ((Connected 4 (codes "p") ∷ []) ∷ []) (joined [])
  unfolding story
  connects = Next [] (Connect (codes "p")) [] (Connected 4 (codes "p") ∷ []) life (joined []) rests
      (inl (refl, record { rank = 0; here = refl; fits = omega arith; outputs_are = refl; changed = refl }))
      (safe 4 None) (sound_joined [] 60 Starts refl)

  -- all stops at rest: the connection is gone
  abbrev halted_life : Life
  halted_life = record {
    past = past 4 None;
    conns = [];
    connected = 4;
    now = 60;
    armed = None;
    running = false;
  }

  stops : Runs life (Connect (codes "p") ∷ Stop None 0 choice ∷ [])
      ((Connected 4 (codes "p") ∷ []) ∷ (Stopped ∷ []) ∷ []) halted_life
  stops = Next (Connect (codes "p") ∷ []) (Stop None 0 choice) ((Connected 4 (codes "p") ∷ []) ∷ []) (Stopped ∷ [])
      (joined []) halted_life connects (inl (refl, refl, refl)) (safe 4 None)
      (sound_alone 4 None 4 60 None false (omega arith) none_kept)

  -- then only a restart goes on, and before that none
  stopped_refuses : RefusesStep (Connect (codes "p")) halted_life HasStopped halted_life
  stopped_refuses = inl (inl (refl, refl, refl))

  running_refuses : RefusesStep Restart life Running life
  running_refuses = inl (inl (refl, refl, refl))

  -- the connection breaks
  abbrev broken : List Happening
  broken = (followed_up (options_of peer.conf) (broken_off peer (fresh_conn 0))).transcript

  breaks : Runs life (Connect (codes "p") ∷ Break 4 ∷ [])
      ((Connected 4 (codes "p") ∷ []) ∷ (Closed 4 Broken ∷ []) ∷ []) (joined broken)
  unfolding after story
  breaks = Next (Connect (codes "p") ∷ []) (Break 4) ((Connected 4 (codes "p") ∷ []) ∷ []) (Closed 4 Broken ∷ [])
      (joined []) (joined broken) connects
      (inl (
        refl,
        record {
          conn = fresh_conn 0;
          peer = peer;
          is = record { conn_is = refl; peer_is = refl };
          later_conn = conn broken;
          later_peer = peer;
          makes = record { settles = None_settled; outputs_are = refl; changed = refl };
          changed = refl;
        },
      ))
      (safe 4 None)
      (sound_joined broken 60
      (Goes_on (outside (options_of peer.conf) [] Broke) (Sent 0) (Goes_on [] Broke Starts tt) (omega arith)) refl)

  -- the moment is set of the connection
  abbrev timed : List Happening
  timed = (followed_up (options_of peer.conf) (ticked 61 peer (fresh_conn 0))).transcript

  ticks_joined : Runs life (Connect (codes "p") ∷ TickStep 61 ∷ []) ((Connected 4 (codes "p") ∷ []) ∷ [] ∷ [])
      (record (joined timed) { now = 61 })
  unfolding after story
  ticks_joined = Next (Connect (codes "p") ∷ []) (TickStep 61) ((Connected 4 (codes "p") ∷ []) ∷ []) []
      (joined []) (record (joined timed) { now = 61 }) connects
      (inl (
        refl,
        NextTicks 0 [] [] (record (joined []) { now = 61 }) (record (joined timed) { now = 61 }) NoTick (
          4,
          (fresh_conn 0, refl),
          record {
            conn = fresh_conn 0;
            peer = peer;
            is = record { conn_is = refl; peer_is = refl };
            later_conn = conn timed;
            later_peer = peer;
            makes = record { settles = None_settled; outputs_are = refl; changed = refl };
            changed = refl;
          },
        ),
      ))
      (safe 4 None)
      (sound_joined timed 61
      (Goes_on (outside (options_of peer.conf) [] (Tick 61)) (Sent 0) (Goes_on [] (Tick 61) Starts tt) (omega arith))
      refl)

  -- there is no debt to hand over
  abbrev asked : List Happening
  asked = (followed_up (options_of peer.conf) (fresh_conn 0)).transcript

  hands_nothing : Runs life (Connect (codes "p") ∷ Hand 4 ∷ [])
      ((Connected 4 (codes "p") ∷ []) ∷ (Handed 4 Nothing ∷ []) ∷ []) (joined asked)
  unfolding after story
  hands_nothing = Next (Connect (codes "p") ∷ []) (Hand 4) ((Connected 4 (codes "p") ∷ []) ∷ []) (Handed 4 Nothing ∷ [])
      (joined []) (joined asked) connects
      (inl (
        refl,
        record {
          conn = fresh_conn 0;
          peer = peer;
          is = record { conn_is = refl; peer_is = refl };
          later_conn = conn asked;
          later_peer = peer;
          makes = record {
            handed = Nothing;
            transcript = [];
            mid = peer;
            hands = None_there tape refl refl (record { first = omega arith; second = omega arith; all = refl });
            behind = [];
            follows = record { settles = None_settled; outputs_are = refl; changed = refl };
            outputs_are = refl;
          };
          changed = refl;
        },
      ))
      (safe 4 None)
      (sound_joined asked 60 (Goes_on [] (Sent 0) Starts (omega arith)) refl)
