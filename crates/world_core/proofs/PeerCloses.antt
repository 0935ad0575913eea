-- What the close of a source at a station makes of its peer.
use Rattle.std.proofs.Common.{◌≡◌, ◌≢◌, ◌↔◌, ◌+◌, ◌<◌, ℕ, true, false, refl, sym, ap, ◌∙◌, subst, inl, inr, arith}
use Rattle.disk_model.specs.declared.Disk.{Ghosts}
use Rattle.ledger_core.specs.State.{IsLegal, Overflows, State}
use Rattle.ledger_core.specs.declared.ledger.LedgerFault.TheVariants.{CountFull}
use Rattle.ledger_core.specs.declared.note.Note.TheVariants.{Closed}
use Rattle.recovery.specs.Notes.{most_pending}
use Rattle.recovery.specs.Words.{IsBroken, ledger_of, pending_of}
use Rattle.recovery.specs.declared.fault.TapeFault.{TapeFault}
use Rattle.recovery.specs.declared.fault.TapeFault.TheVariants.{Damaged, Disk, Broken as BrokenTape, TapeFull}
use Rattle.recovery.specs.declared.fault.TapeFault.TheVariants.{GenerationFull, PendingFull, NoMemory as NoTapeMemory}
use Rattle.recovery.specs.declared.fault.TapeFault.TheVariants.{Note as RefusedNote}
use Rattle.peer_queue.specs.Faults.{IsOweFault, IsOweTapeFault}
use Rattle.peer_queue.specs.Words.{IsSame, Notes, closing as closing_at, places_of, tape_of}
use Rattle.peer_queue.specs.declared.fault.StationFault.{StationFault}
use Rattle.peer_queue.specs.declared.fault.StationFault.TheVariants.{NotHeld, Broken, Tape as TapeRefused, NoMemory}
use Rattle.sections.specs.Tapes.{ledger_at}
use Rattle.world_core.specs.Past.{PeerPast}
use Rattle.world_core.specs.Tapes.{RefusesClose}
use Rattle.world_core.specs.Events.{closing}
use Rattle.world_core.specs.Fault.{fault_of, fault_of_station}
use Rattle.world_core.specs.Stands.{ClosedPeer, PeerStands, UnclosedPeer}
use Rattle.world_core.specs.declared.fault.Fault.{Fault}
use Rattle.world_core.specs.declared.peer.Peer.{Peer}
use Rattle.world_core.proofs.PeerOwes.{no_room_here, noted_tape, room_here, same_peer}
use Rattle.world_core.proofs.PeerCalls.{tape_broken, tape_works}

module _ {D : Type 0} {g : Ghosts D} where
  pub closed_answered : (past : PeerPast) (old new : Peer D g) (source : ℕ) → PeerStands past old
      → (IsBroken (tape_of old.station) → ⊥) → source ≡ (ledger_of (tape_of old.station)).closed + 1
      → Notes old.station new.station (Closed source)
      → places_of new.station ≡ places_of old.station
      → (Overflows (ledger_of (tape_of old.station)) (closing_at old.station) → ⊥)
      → pending_of (tape_of old.station) ≢ most_pending
      → new.conf ≡ old.conf → new.parted ≡ old.parted → ClosedPeer past source new
  closed_answered past old new source stands works is notes places fits room conf parts =
      let open_here = is ∙ ap (λ (state : State). state.closed + 1) stands.tape.stands.ledger in
      let own = subst (λ (n : ℕ). Notes old.station new.station (Closed n)) open_here notes in
      record {
        works = tape_works past.tape (tape_of old.station) stands.tape works;
        source_is = open_here;
        room = room_here past.tape (tape_of old.station) stands.tape works room;
        fits = subst (λ (state : State). Overflows state (Closed (state.closed + 1)) → ⊥) stands.tape.stands.ledger
            fits;
        stands = record {
          conf = conf ∙ stands.conf;
          limits = own.limits ∙ stands.limits;
          tape = noted_tape past.tape old.station new.station (closing past) stands.tape own;
          places = places ∙ stands.places;
          parted = parts ∙ stands.parted;
        };
      }

  module _ (past : PeerPast) (old : Peer D g) (stands : PeerStands past old) where
    over : Overflows (ledger_of (tape_of old.station)) (closing_at old.station)
        → Overflows (ledger_at past.tape) (closing past)
    over is = subst (λ (state : State). Overflows state (Closed (state.closed + 1))) stands.tape.stands.ledger is

    over_not : (Overflows (ledger_of (tape_of old.station)) (closing_at old.station) → ⊥)
        → Overflows (ledger_at past.tape) (closing past) → ⊥
    over_not never =
        subst (λ (state : State). Overflows state (Closed (state.closed + 1)) → ⊥) stands.tape.stands.ledger never

    unclosed_tape : (fault : TapeFault) (refusal : Fault) → refusal ≡ fault_of fault
        → (IsBroken (tape_of old.station) → ⊥)
        → (TapeRefused fault ≡ TapeRefused (RefusedNote CountFull)
        → Overflows (ledger_of (tape_of old.station)) (closing_at old.station))
        → (TapeRefused fault ≡ TapeRefused PendingFull
        → (Overflows (ledger_of (tape_of old.station)) (closing_at old.station) → ⊥)
        × (pending_of (tape_of old.station) ≡ most_pending))
        → IsOweTapeFault fault → RefusesClose past.tape (closing past) refusal
    unclosed_tape (Damaged segment at) refusal e works full pending kind = absurd kind
    unclosed_tape Disk refusal e works full pending kind = absurd kind
    unclosed_tape BrokenTape refusal e works full pending kind = absurd kind
    unclosed_tape TapeFull refusal e works full pending kind = absurd kind
    unclosed_tape GenerationFull refusal e works full pending kind = absurd kind
    unclosed_tape PendingFull refusal e works full pending kind = inr (
      (λ _. over_not (pending refl).0),
      inr (inl (
        e,
        tape_works past.tape (tape_of old.station) stands.tape works,
        no_room_here past.tape (tape_of old.station) stands.tape works (pending refl).1,
      )),
    )
    unclosed_tape NoTapeMemory refusal e works full pending kind = absurd kind
    unclosed_tape (RefusedNote fault) refusal e works full pending kind = inl (
      e ∙ ap (λ f. fault_of (RefusedNote f)) kind,
      tape_works past.tape (tape_of old.station) stands.tape works,
      over (full (ap (λ f. TapeRefused (RefusedNote f)) kind)),
    )

    unclosed : (fault : StationFault) (refusal : Fault) → refusal ≡ fault_of_station fault
        → ((fault ≡ Broken) ↔ IsBroken (tape_of old.station))
        → (fault ≡ TapeRefused (RefusedNote CountFull)
        → Overflows (ledger_of (tape_of old.station)) (closing_at old.station))
        → (fault ≡ TapeRefused PendingFull
        → (Overflows (ledger_of (tape_of old.station)) (closing_at old.station) → ⊥)
        × (pending_of (tape_of old.station) ≡ most_pending))
        → (fault ≡ NoMemory → IsLegal (ledger_of (tape_of old.station)) (closing_at old.station)
        × (pending_of (tape_of old.station) < most_pending))
        → IsOweFault fault → RefusesClose past.tape (closing past) refusal
    unclosed NotHeld refusal e broken full pending memory kind = absurd kind
    unclosed Broken refusal e broken full pending memory kind =
        let is = tape_broken past.tape (tape_of old.station) stands.tape (broken.0 refl) in
        inr ((λ works. absurd (apart (sym works ∙ is))), inl (e, is))
      where
        apart : false ≡ true → ⊥
        apart never = cc
    unclosed (TapeRefused fault) refusal e broken full pending memory kind =
        unclosed_tape fault refusal e (λ b. let is : TapeRefused fault ≡ Broken = broken.1 b in cc) full pending kind
    unclosed NoMemory refusal e broken full pending memory kind =
        let works : IsBroken (tape_of old.station) → ⊥ = λ b. let is : NoMemory ≡ Broken = broken.1 b in cc in
        let own = memory refl in
        inr (
          (λ _. over_not (λ o. o.1 own.0.1)),
          inr (inr (
            e,
            tape_works past.tape (tape_of old.station) stands.tape works,
            room_here past.tape (tape_of old.station) stands.tape works (λ full. omega (arith, own.1, full)),
          )),
        )

  pub closed_refused : (past : PeerPast) (old new : Peer D g) → PeerStands past old
      → IsSame old.station new.station
      → new.conf ≡ old.conf → new.parted ≡ old.parted → (fault : StationFault) (refusal : Fault)
      → refusal ≡ fault_of_station fault
      → ((fault ≡ Broken) ↔ IsBroken (tape_of old.station))
      → (fault ≡ TapeRefused (RefusedNote CountFull)
      → Overflows (ledger_of (tape_of old.station)) (closing_at old.station))
      → (fault ≡ TapeRefused PendingFull
      → (Overflows (ledger_of (tape_of old.station)) (closing_at old.station) → ⊥)
      × (pending_of (tape_of old.station) ≡ most_pending))
      → (fault ≡ NoMemory → IsLegal (ledger_of (tape_of old.station)) (closing_at old.station)
      × (pending_of (tape_of old.station) < most_pending))
      → IsOweFault fault → UnclosedPeer past refusal new
  closed_refused past old new stands same conf parts fault refusal e broken full pending memory kind = record {
    refused = unclosed past old stands fault refusal e broken full pending memory kind;
    stands = same_peer past old new stands same conf parts;
  }
