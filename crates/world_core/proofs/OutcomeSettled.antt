-- What an outcome that goes to its peer's station makes of the connection and the peer.
use Rattle.std.proofs.Common.{◌≡◌, ◌≢◌, ◌↔◌, ℕ, None, Some, List, [], ◌∷◌, ◌++◌, map, refl, sym, ap, ◌∙◌, subst, inl}
use Rattle.std.proofs.Common.{inr}
use Rattle.std.specs.Prelude.{◌+◌, ◌==◌, Contains, slice_get}
use Rattle.std.specs.List.{IsDistinct}
use Rattle.std.proofs.lemmas.List.{map_push}
use Rattle.disk_model.specs.declared.Disk.{Ghosts}
use Rattle.ledger_core.specs.declared.note.Note.TheVariants.{Drop, Final}
use Rattle.recovery.specs.Notes.{most_pending}
use Rattle.recovery.specs.Words.{IsBroken, pending_of}
use Rattle.recovery.specs.declared.fault.TapeFault.TheVariants.{PendingFull}
use Rattle.conn_core.specs.declared.options.Options.{Options}
use Rattle.conn_core.specs.declared.outcome.Outcome.{Outcome}
use Rattle.peer_queue.specs.Faults.{IsEndFault}
use Rattle.peer_queue.specs.DebtPlace.{Held, IsHeldBy, Later as LaterPlace, Places, Ready, gone, moved, place_at}
use Rattle.peer_queue.specs.Settled.{Finishes, IsEnded, Settles, key_in, settled_by}
use Rattle.peer_queue.specs.Words.{IsSame, limits_of as station_limits, places_of, tape_of}
use Rattle.peer_queue.specs.Words.{MeetsFull}
use Rattle.peer_queue.specs.declared.fault.StationFault.{StationFault}
use Rattle.peer_queue.specs.declared.fault.StationFault.TheVariants.{NotHeld, Broken, Tape as TapeRefused, NoMemory}
use Rattle.peer_queue.specs.declared.limits.Limits.{Limits}
use Rattle.peer_queue.specs.declared.settled.Settled.{Settled}
use Rattle.peer_queue.specs.declared.settled.Settled.TheVariants.{Answered, Dropped, Later, Ready as Back}
use Rattle.peer_queue.specs.declared.station.Station.{Station}
use Rattle.sections.specs.ListLaws.{contains_first}
use Rattle.world_core.specs.Past.{ConnPast, PeerPast, options_of}
use Rattle.world_core.specs.Events.{RefusesEnd, settled, settled_as, settling}
use Rattle.world_core.specs.Exchange.{one_out, unsettled, waiting}
use Rattle.world_core.specs.Fault.{fault_of_station}
use Rattle.world_core.specs.Pairs.{IsTied, PairStands, SettledNot, SettledOne, TakesNext, Reports}
use Rattle.world_core.specs.Sound.{numbers_at}
use Rattle.world_core.specs.Stands.{HoldsTranscript, PeerStands, TapeStands, WaitsWith}
use Rattle.world_core.specs.Output.{view_of}
use Rattle.world_core.specs.declared.connection.Connection.{Connection}
use Rattle.world_core.specs.declared.fault.Fault.{Fault}
use Rattle.world_core.specs.declared.peer.Peer.{Peer}
use Rattle.world_core.specs.declared.output.Output.{Output}
use Rattle.world_core.specs.declared.output.Output.TheVariants.{Settled as OutputSettled}
use Rattle.world_core.proofs.HeldNumbers.{first_apart, gone_none, gone_other, held_less, moved_here}
use Rattle.world_core.proofs.HeldNumbers.{moved_other, next_gone, numbers_gone, numbers_wait, others_apart, outcomes_out}
use Rattle.world_core.proofs.PeerOwes.{no_room_here, noted_tape, room_here, same_peer}
use Rattle.world_core.proofs.PeerCalls.{tape_broken, tape_works}

-- ---- what is reported

pub tells_push : (was mid outputs : List Output) (more : Output) → mid ≡ was → outputs ≡ mid ++ more ∷ []
    → Reports was (view_of more ∷ []) outputs
tells_push was mid outputs more same is =
    ap (map view_of) (is ∙ ap (λ (l : List Output). l ++ more ∷ []) same) ∙ map_push view_of was more

-- ---- the peer

-- a debt that is settled is no longer held
settled_leaves : (s : Settled) (n id : ℕ) (peer : PeerPast) → IsHeldBy peer.places id n
    → IsHeldBy (settled_as s n peer).places id n → ⊥
settled_leaves (Answered code) n id peer held is = let none = gone_none peer.places n in cc
settled_leaves (Dropped cause) n id peer held is = let none = gone_none peer.places n in cc
settled_leaves (Later moment) n id peer held is =
    let there = moved_here peer.places n (LaterPlace moment) (Held id) held in
    let same : Some (LaterPlace moment) ≡ Some (Held id) = sym there ∙ is in cc
settled_leaves Back n id peer held is = let there = moved_here peer.places n Ready (Held id) held in
    let same : Some Ready ≡ Some (Held id) = sym there ∙ is in cc

-- any other debt keeps its place
pub settled_others : (s : Settled) (n : ℕ) (peer : PeerPast) (m : ℕ) → (m ≡ n → ⊥)
    → place_at (settled_as s n peer).places m ≡ place_at peer.places m
settled_others (Answered code) n peer m apart = gone_other peer.places n m apart
settled_others (Dropped cause) n peer m apart = gone_other peer.places n m apart
settled_others (Later moment) n peer m apart = moved_other peer.places n m (LaterPlace moment) apart
settled_others Back n peer m apart = moved_other peer.places n m Ready apart

pub settled_conf : (s : Settled) (n : ℕ) (peer : PeerPast) → (settled_as s n peer).conf ≡ peer.conf
settled_conf (Answered code) n peer = refl
settled_conf (Dropped cause) n peer = refl
settled_conf (Later moment) n peer = refl
settled_conf Back n peer = refl

pub conf_settled : (now : ℕ) (outcome : Outcome) (peer : PeerPast) → (settled now outcome peer).conf ≡ peer.conf
conf_settled now outcome peer = settled_conf (settling peer now outcome) (key_in outcome) peer

pub tied_as : (id : ℕ) (conn : ConnPast) (peer : PeerPast) (options : Options) → options_of peer.conf ≡ options
    → ((m : ℕ) → IsHeldBy peer.places id m ↔ Contains (numbers_at options conn) m)
    → IsDistinct (λ one other. one == other) (numbers_at options conn) → IsTied id conn peer
tied_as id conn peer options same held once = record {
  held = λ m. subst (λ (o : Options). IsHeldBy peer.places id m ↔ Contains (numbers_at o conn) m) (sym same) (held m);
  once = subst (λ (o : Options). IsDistinct (λ one other. one == other) (numbers_at o conn)) (sym same) once;
}

module _ {D : Type 0} {g : Ghosts D} where
  ended : (s : Settled) (id n : ℕ) (past : PeerPast) (old new : Peer D g) → PeerStands past old
      → Settles id n s old.station new.station
      → new.conf ≡ old.conf → new.parted ≡ old.parted → PeerStands (settled_as s n past) new
  ended (Answered code) id n past old new stands is conf parts = record {
    conf = conf ∙ stands.conf;
    limits = is.notes.limits ∙ stands.limits;
    tape = noted_tape past.tape old.station new.station (Final n code) stands.tape is.notes;
    places = is.places ∙ ap (λ (p : Places). gone p n) stands.places;
    parted = parts ∙ stands.parted;
  }
  ended (Dropped cause) id n past old new stands is conf parts = record {
    conf = conf ∙ stands.conf;
    limits = is.notes.limits ∙ stands.limits;
    tape = noted_tape past.tape old.station new.station (Drop n cause) stands.tape is.notes;
    places = is.places ∙ ap (λ (p : Places). gone p n) stands.places;
    parted = parts ∙ stands.parted;
  }
  ended (Later moment) id n past old new stands is conf parts = record {
    conf = conf ∙ stands.conf;
    limits = is.tape.limits ∙ stands.limits;
    tape = subst (TapeStands past.tape) (sym is.tape.tape) stands.tape;
    places = is.places ∙ ap (λ (p : Places). moved p n (LaterPlace moment)) stands.places;
    parted = parts ∙ stands.parted;
  }
  ended Back id n past old new stands is conf parts = record {
    conf = conf ∙ stands.conf;
    limits = is.tape.limits ∙ stands.limits;
    tape = subst (TapeStands past.tape) (sym is.tape.tape) stands.tape;
    places = is.places ∙ ap (λ (p : Places). moved p n Ready) stands.places;
    parted = parts ∙ stands.parted;
  }

  was_held : (s : Settled) (id n : ℕ) (old new : Station D g) → Settles id n s old new → IsHeldBy (places_of old) id n
  was_held (Answered code) id n old new is = is.held
  was_held (Dropped cause) id n old new is = is.held
  was_held (Later moment) id n old new is = is.held
  was_held Back id n old new is = is.held

  -- ---- the next outcome was settled

  pub settled_one : (id now : ℕ) (conn : ConnPast) (past : PeerPast) (before after : Connection) (old new : Peer D g)
      (was mid outputs : List Output)
      (outcome : Outcome) (cxn number : ℕ) (said_so : Settled) → PairStands id conn past before old
      → TakesNext (options_of past.conf) conn (Some outcome) after
      → after.waiting ≡ None → after.rank ≡ before.rank → after.conn.id ≡ before.conn.id → cxn ≡ id
      → number ≡ key_in outcome
      → said_so ≡ settled_by (station_limits old.station) now outcome → Finishes cxn now outcome old.station new.station
      → (IsBroken (tape_of old.station) → ⊥)
      → (IsEnded (settled_by (station_limits old.station) now outcome)
      → IsHeldBy (places_of old.station) cxn (key_in outcome)
      → pending_of (tape_of old.station) ≢ most_pending) → new.conf ≡ old.conf → new.parted ≡ old.parted → mid ≡ was
      → outputs ≡ mid ++ OutputSettled cxn number said_so ∷ []
      → SettledOne id now conn past was after new outputs
  settled_one id now conn past before after old new was mid outputs outcome cxn number said_so pair takes waits rank
      same_id own n_is so finishes works room conf parts
      same is =
      let options = options_of past.conf in
      let next = next_gone options conn outcome takes.0 in
      let by : settled_by (station_limits old.station) now outcome ≡ settling past now outcome =
      ap (λ (limits : Limits). settled_by limits now outcome) pair.stands.limits in
      let s = settling past now outcome in
      let n = key_in outcome in
      let settles : Settles id n s old.station new.station =
      subst (λ (c : ℕ). Settles c n s old.station new.station) own
      (subst (λ (x : Settled). Settles cxn n x old.station new.station) by finishes) in
      let held : IsHeldBy past.places id n =
      subst (λ (p : Places). IsHeldBy p id n) pair.stands.places
      (was_held s id n old.station new.station settles) in
      let numbers = numbers_gone options conn outcome next in
      let rest = numbers_at options (one_out conn) in
      let once = subst (IsDistinct (λ one other. one == other)) numbers pair.tied.once in
      let same_conf = settled_conf s n past in
      record {
        outcome = outcome;
        next = next;
        later = settled now outcome past;
        settles = record {
          works = tape_works past.tape (tape_of old.station) pair.stands.tape works;
          held = held;
          room = λ ends. room_here past.tape (tape_of old.station) pair.stands.tape works
              (room (subst IsEnded (sym by) ends)
              (was_held (settled_by (station_limits old.station) now outcome) cxn n old.station new.station finishes));
          changed = refl;
        };
        outputs_are = tells_push was mid outputs (OutputSettled cxn number said_so) same is
            ∙ ap (λ said. map view_of was ++ said ∷ []) (rw (own, n_is, so, by) refl);
        stand = record {
          id_is = ap (λ i. i.0) same_id ∙ pair.id_is;
          rank = rank ∙ pair.rank;
          holds = subst (λ c. HoldsTranscript c (one_out conn) after) (sym same_conf) takes.2;
          waits = subst (WaitsWith (settled now outcome past).conf (one_out conn)) (sym waits) takes.1;
          stands = ended s id n past old new pair.stands settles conf parts;
          tied = tied_as id (one_out conn) (settled now outcome past) options
              (ap options_of same_conf)
              (held_less past.places (settled now outcome past).places id n rest
              (λ m. subst (λ (l : List ℕ). IsHeldBy past.places id m ↔ Contains l m) numbers (pair.tied.held m))
              (first_apart n rest once) (settled_others s n past) (settled_leaves s n id past held))
              (others_apart n rest once);
        };
      }

  -- ---- the outcome was refused

  refused_end : (past : PeerPast) (old : Peer D g) (s : Settled) (fault : StationFault) (refusal : Fault)
      → TapeStands past.tape (tape_of old.station)
      → refusal ≡ fault_of_station fault → ((fault ≡ Broken) ↔ IsBroken (tape_of old.station)) → (fault ≡ NotHeld → ⊥)
      → (fault ≡ TapeRefused PendingFull → IsEnded s × (pending_of (tape_of old.station) ≡ most_pending))
      → ((IsBroken (tape_of old.station) → ⊥) → IsEnded s → pending_of (tape_of old.station) ≡ most_pending
      → fault ≡ TapeRefused PendingFull)
      → (fault ≡ NoMemory → IsEnded s) → IsEndFault fault → RefusesEnd s past.tape refusal
  refused_end past old s NotHeld refusal stands e broken held full never_full memory kind = absurd (held refl)
  refused_end past old s Broken refusal stands e broken held full never_full memory kind =
      inl (e, tape_broken past.tape (tape_of old.station) stands (broken.0 refl))
  refused_end past old s (TapeRefused fault) refusal stands e broken held full never_full memory kind =
      let works : IsBroken (tape_of old.station) → ⊥ = λ b. let never : TapeRefused fault ≡ Broken = broken.1 b in cc in
      let is = full (ap TapeRefused kind) in
      inr (
        is.0,
        inr (inl (
          e ∙ ap (λ f. fault_of_station (TapeRefused f)) kind,
          tape_works past.tape (tape_of old.station) stands works,
          no_room_here past.tape (tape_of old.station) stands works is.1,
        )),
      )
  refused_end past old s NoMemory refusal stands e broken held full never_full memory kind =
      let works : IsBroken (tape_of old.station) → ⊥ = λ b. let never : NoMemory ≡ Broken = broken.1 b in cc in
      inr (
        memory refl,
        inr (inr (
          e,
          tape_works past.tape (tape_of old.station) stands works,
          room_here past.tape (tape_of old.station) stands works
              (λ most. let never : NoMemory ≡ TapeRefused PendingFull = never_full works (memory refl) most in cc),
        )),
      )

  pub settled_not : (id now : ℕ) (conn : ConnPast) (past : PeerPast) (before after : Connection) (old new : Peer D g)
      (outcome back : Outcome) (cxn : ℕ) (fault : StationFault) (refusal : Fault) → PairStands id conn past before old
      → TakesNext (options_of past.conf) conn (Some outcome) after
      → after.waiting ≡ Some back → back ≡ outcome → after.rank ≡ before.rank → after.conn.id ≡ before.conn.id
      → cxn ≡ id
      → ((fault ≡ Broken) ↔ IsBroken (tape_of old.station))
      → ((fault ≡ NotHeld) ↔ ((IsBroken (tape_of old.station) → ⊥)
      × (IsHeldBy (places_of old.station) cxn (key_in outcome) → ⊥)))
      → ((fault ≡ TapeRefused PendingFull) ↔ (IsEnded (settled_by (station_limits old.station) now outcome)
      × MeetsFull old.station cxn (key_in outcome)))
      → (fault ≡ NoMemory → IsEnded (settled_by (station_limits old.station) now outcome)) → IsEndFault fault
      → refusal ≡ fault_of_station fault → IsSame old.station new.station → new.conf ≡ old.conf → new.parted
      ≡ old.parted
      → SettledNot id now conn past refusal after new
  settled_not id now conn past before after old new outcome back cxn fault refusal pair takes waits back_is rank same_id
      own broken not_held full memory kind e same conf
      parts =
      let options = options_of past.conf in
      let next = next_gone options conn outcome takes.0 in
      let by : settled_by (station_limits old.station) now outcome ≡ settling past now outcome =
      ap (λ (limits : Limits). settled_by limits now outcome) pair.stands.limits in
      let numbers = numbers_gone options conn outcome next in
      let rest = numbers_at options (one_out conn) in
      let has : Contains (numbers_at options conn) (key_in outcome) =
      subst (λ (l : List ℕ). Contains l (key_in outcome)) (sym numbers) (contains_first rest (key_in outcome)) in
      let held : IsHeldBy (places_of old.station) cxn (key_in outcome) =
      subst (λ (p : Places). IsHeldBy p cxn (key_in outcome)) (sym pair.stands.places)
      (subst (λ (c : ℕ). IsHeldBy past.places c (key_in outcome)) (sym own)
      ((pair.tied.held (key_in outcome)).1 has)) in
      record {
        later_conn = waiting conn;
        why = inr (
          outcome,
          unsettled options (one_out conn),
          next,
          refused_end past old (settling past now outcome) fault refusal pair.stands.tape e broken
              (λ is. (not_held.0 is).1 held)
              (λ is. (subst IsEnded by (full.0 is).0, (full.0 is).1.2))
              (λ works ends most. full.1 (subst IsEnded (sym by) ends, (works, held, most)))
              (λ is. subst IsEnded by (memory is)) kind,
          refl,
        );
        stand = record {
          id_is = ap (λ i. i.0) same_id ∙ pair.id_is;
          rank = rank ∙ pair.rank;
          holds = takes.2;
          waits = subst (WaitsWith past.conf (waiting conn)) (sym (waits ∙ ap Some back_is)) (
            takes.1,
            ap (λ (os : List Outcome). slice_get os conn.settled)
                (outcomes_out options (conn.settled + 1) conn.transcript) ∙ takes.0,
          );
          stands = same_peer past old new pair.stands same conf parts;
          tied = tied_as id (waiting conn) past options refl
              (λ m. subst (λ (l : List ℕ). IsHeldBy past.places id m ↔ Contains l m)
              (sym (numbers_wait options conn)) (pair.tied.held m))
              (subst (IsDistinct (λ one other. one == other)) (sym (numbers_wait options conn)) pair.tied.once);
        };
      }
