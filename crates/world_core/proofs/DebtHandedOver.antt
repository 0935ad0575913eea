-- What a claim, an offer and a return make of a connection and its peer.
use Rattle.std.proofs.Common.{◌≡◌, ◌≢◌, ◌↔◌, ◌⊎◌, ℕ, Bool, true, false, Option, None, Some, List, [], ◌∷◌, ◌++◌, map}
use Rattle.std.proofs.Common.{refl, sym, ap, ◌∙◌, subst, inl, inr}
use Rattle.std.specs.Prelude.{Contains, IfNone, IfSome, IsSome, is_none, is_some, not, option_map}
use Rattle.std.proofs.lemmas.Bool.{cases_eq}
use Rattle.disk_model.specs.declared.Disk.{Ghosts}
use Rattle.feed_conf.specs.declared.conf.PeerConf.{PeerConf}
use Rattle.ledger_core.specs.State.{Owing, State}
use Rattle.recovery.specs.Words.{IsBroken, OneHasRisen, faults_of}
use Rattle.recovery.specs.declared.fault.TapeFault.TheVariants.{Broken as BrokenTape, Disk}
use Rattle.conn_core.specs.History.{Event as Happening, Offered, after, reason}
use Rattle.conn_core.specs.Stands.{StandsFor as ConnStands, ready_of}
use Rattle.conn_core.specs.declared.options.Options.{Options}
use Rattle.conn_core.specs.declared.reason.Reason.{Reason}
use Rattle.conn_core.specs.declared.ready.Ready.TheVariants.{Busy as NoRoom, Shut, Yes}
use Rattle.peer_queue.specs.Faults.{IsClaimFault}
use Rattle.peer_queue.specs.DebtPlace.{AreRising, DebtPlace, Held, IsHeldBy, IsUnheld, Places, Ready, is_held}
use Rattle.peer_queue.specs.DebtPlace.{least_candidate, moved, place_at}
use Rattle.peer_queue.specs.ClaimLaws.{candidate_unheld}
use Rattle.peer_queue.specs.Words.{IsRead, IsSameTape, ledger_of, places_of, tape_of}
use Rattle.peer_queue.specs.declared.fault.StationFault.{StationFault}
use Rattle.peer_queue.specs.declared.fault.StationFault.TheVariants.{NotHeld, Broken, Tape as TapeRefused, NoMemory}
use Rattle.sections.specs.Tapes.{TapePast}
use Rattle.world_core.specs.Past.{ConnPast, PeerPast, options_of, with_places, with_tape}
use Rattle.world_core.specs.Events.{RefusesClaim, claimed_peer}
use Rattle.world_core.specs.Exchange.{ClaimsAt, FailsToHand, GivesBackAt, HandsOver, Has_no_room, Is_shut, None_there}
use Rattle.world_core.specs.Exchange.{TakesHand, Taken_over, with_transcript}
use Rattle.world_core.specs.Fault.{fault_of_station}
use Rattle.world_core.specs.Pairs.{Followed, FollowedNot, HandedNot, HandedOver, PairMade, PairRefused, PairStands}
use Rattle.world_core.specs.Sound.{numbers_at}
use Rattle.world_core.specs.Stands.{HoldsTranscript, PeerStands, TapeStands, WaitsWith}
use Rattle.world_core.specs.Output.{Handed as SaidHanded, View, view_of}
use Rattle.world_core.specs.declared.connection.Connection.{Connection}
use Rattle.world_core.specs.declared.fault.Fault.{Fault}
use Rattle.world_core.specs.declared.fault.Fault.TheVariants.{NoMemory as NoStepMemory, Tape as TapeRefusal}
use Rattle.world_core.specs.declared.peer.Peer.{Peer}
use Rattle.world_core.specs.declared.output.Handed.{Handed as Handover}
use Rattle.world_core.specs.declared.output.Output.{Output}
use Rattle.world_core.specs.declared.output.Output.TheVariants.{Handed as OutputHanded}
use Rattle.world_core.specs.declared.output.Handed.TheVariants.{Busy, Closed, Debt, Nothing}
use Rattle.world_core.proofs.HeldOrOutcome.{more_numbers}
use Rattle.world_core.proofs.ConnectionBreaks.{open_said}
use Rattle.world_core.proofs.HeldNumbers.{moved_here, moved_other}
use Rattle.world_core.proofs.OutputLines.{reports_both}
use Rattle.world_core.proofs.PairTied.{settled_few, tied_more, waits_offered}
use Rattle.world_core.proofs.PeerCalls.{read_now, read_tape, tape_broken, tape_works}
use Rattle.world_core.proofs.OutcomeSettled.{tells_push}

-- ---- places

unheld_there : (o : Option DebtPlace) → option_map is_held o ≡ Some false → (q : DebtPlace) × (o ≡ Some q)
unheld_there None is = let never : None ≡ Some false = is in cc
unheld_there (Some q) is = (q, refl)

pub unheld_free : (p : Places) (n c : ℕ) → IsUnheld p n → IsHeldBy p c n → ⊥
unheld_free p n c is held = let never : Some true ≡ Some false = sym (ap (option_map is_held) held) ∙ is in cc

some_there : {A : Type 0} (o : Option A) → IsSome o → (x : A) × (o ≡ Some x)
some_there None is = absurd cc
some_there (Some x) is = (x, refl)

module _ {D : Type 0} {g : Ghosts D} where
  -- ---- the peer

  module _ (past : PeerPast) (old new : Peer D g) (stands : PeerStands past old)
      (reads : IsRead old.station new.station)
      (conf : new.conf ≡ old.conf) (parts : new.parted ≡ old.parted) where
    abbrev tape_now : TapePast
    tape_now = read_now past.tape (tape_of new.station)

    -- the peer's tape was read
    read_peer : places_of new.station ≡ places_of old.station → PeerStands (with_tape past tape_now) new
    read_peer places = record {
      conf = conf ∙ stands.conf;
      limits = reads.limits ∙ stands.limits;
      tape = (read_tape past.tape (tape_of old.station) (tape_of new.station) stands.tape reads.tape).1;
      places = places ∙ stands.places;
      parted = parts ∙ stands.parted;
    }

    -- and the connection now holds a number
    claimed_stands : (id n : ℕ) → places_of new.station ≡ moved (places_of old.station) n (Held id)
        → PeerStands (claimed_peer id n tape_now past) new
    claimed_stands id n places = record {
      conf = conf ∙ stands.conf;
      limits = reads.limits ∙ stands.limits;
      tape = (read_tape past.tape (tape_of old.station) (tape_of new.station) stands.tape reads.tape).1;
      places = places ∙ ap (λ (p : Places). moved p n (Held id)) stands.places;
      parted = parts ∙ stands.parted;
    }

  -- ---- a claim that is refused, and one that finds no candidate

  module _ (id now : ℕ) (conn : ConnPast) (past : PeerPast) (connection : Connection) (old new : Peer D g)
      (pair : PairStands id conn past connection old) (reads : IsRead old.station new.station)
      (conf : new.conf ≡ old.conf)
      (parts : new.parted ≡ old.parted) where
    abbrev tape_read : TapePast
    tape_read = tape_now past old new pair.stands reads conf parts

    -- the connection, and the peer whose tape was read
    pair_read : places_of new.station ≡ places_of old.station
        → PairStands id conn (with_tape past tape_read) connection new
    pair_read places = record {
      id_is = pair.id_is;
      rank = pair.rank;
      holds = pair.holds;
      waits = pair.waits;
      stands = read_peer past old new pair.stands reads conf parts places;
      tied = record { held = pair.tied.held; once = pair.tied.once };
    }

    refused_claim : (fault : StationFault) (refusal : Fault) → refusal ≡ fault_of_station fault
        → ((fault ≡ Broken) ↔ IsBroken (tape_of old.station))
        → (fault ≢ Broken → IsSome (least_candidate now (places_of old.station)))
        → (fault ≡ TapeRefused Disk → OneHasRisen (faults_of (tape_of old.station)) (faults_of (tape_of new.station)))
        → IsClaimFault fault
        → RefusesClaim now past refusal tape_read
    refused_claim fault refusal e broken some cause kind = (
      why fault e broken some cause kind,
      (read_tape past.tape (tape_of old.station) (tape_of new.station) pair.stands.tape reads.tape).0,
    )
      where
        there : (f : StationFault) → f ≢ Broken → (f ≢ Broken → IsSome (least_candidate now (places_of old.station)))
            → (number : ℕ) × (least_candidate now past.places ≡ Some number)
        there f not s = some_there (least_candidate now past.places)
            (subst (λ (p : Places). IsSome (least_candidate now p)) pair.stands.places (s not))

        why : (f : StationFault) → refusal ≡ fault_of_station f → ((f ≡ Broken) ↔ IsBroken (tape_of old.station))
            → (f ≢ Broken → IsSome (least_candidate now (places_of old.station)))
            → (f ≡ TapeRefused Disk → OneHasRisen (faults_of (tape_of old.station)) (faults_of (tape_of new.station)))
            → IsClaimFault f
            → ((refusal ≡ TapeRefusal BrokenTape) × (past.tape.broken ≡ true))
            ⊎ ((past.tape.broken ≡ false) × ((number : ℕ) × (least_candidate now past.places ≡ Some number))
            × ((refusal ≡ NoStepMemory) ⊎ ((refusal ≡ TapeRefusal Disk)
            × OneHasRisen past.tape.faults tape_read.faults)))
        why NotHeld e b s c k = absurd k
        why Broken e b s c k = inl (e, tape_broken past.tape (tape_of old.station) pair.stands.tape (b.0 refl))
        why (TapeRefused f) e b s c k = inr (
          tape_works past.tape (tape_of old.station) pair.stands.tape
              (λ is. let never : TapeRefused f ≡ Broken = b.1 is in
              cc),
          there (TapeRefused f) (λ is. cc) s,
          inr (
            e ∙ ap (λ t. fault_of_station (TapeRefused t)) k,
            subst (λ (n : ℕ × ℕ). OneHasRisen n (faults_of (tape_of new.station))) pair.stands.tape.faults
                (c (ap TapeRefused k)),
          ),
        )
        why NoMemory e b s c k = inr (
          tape_works past.tape (tape_of old.station) pair.stands.tape
              (λ is. let never : NoMemory ≡ Broken = b.1 is in cc),
          there NoMemory (λ is. cc) s,
          inl e,
        )

    pub claim_refused : (fault : StationFault) (refusal : Fault) → refusal ≡ fault_of_station fault
        → ((fault ≡ Broken) ↔ IsBroken (tape_of old.station))
        → (fault ≢ Broken → IsSome (least_candidate now (places_of old.station)))
        → (fault ≡ TapeRefused Disk → OneHasRisen (faults_of (tape_of old.station)) (faults_of (tape_of new.station)))
        → IsClaimFault fault
        → places_of new.station ≡ places_of old.station → HandedNot id now conn past refusal connection new
    claim_refused fault refusal e broken some cause kind places = record {
      later = with_tape past tape_read;
      why = inl (tape_read, refused_claim fault refusal e broken some cause kind, refl);
      stand = pair_read places;
    }

    pub none_claimed : (IsBroken (tape_of old.station) → ⊥) → least_candidate now (places_of old.station) ≡ None
        → places_of new.station ≡ places_of old.station → HandedOver id now conn past Nothing connection new
    none_claimed works none places = record {
      transcript = conn.transcript;
      later = with_tape past tape_read;
      hands = None_there tape_read (tape_works past.tape (tape_of old.station) pair.stands.tape works)
          (subst (λ (p : Places). least_candidate now p ≡ None) pair.stands.places none)
          (read_tape past.tape (tape_of old.station) (tape_of new.station) pair.stands.tape reads.tape).0;
      stand = pair_read places;
    }

    -- ---- a claim

    module _ (debt : Owing) (cxn : ℕ) (own : cxn ≡ id) (works : IsBroken (tape_of old.station) → ⊥)
        (least : least_candidate now (places_of old.station) ≡ Some debt.0)
        (places : places_of new.station ≡ moved (places_of old.station) debt.0 (Held cxn))
        (owed : Contains (ledger_of old.station).debts debt)
        (rising : AreRising (places_of old.station)) where
      least_here : least_candidate now past.places ≡ Some debt.0
      least_here = subst (λ (p : Places). least_candidate now p ≡ Some debt.0) pair.stands.places least

      is_unheld : IsUnheld past.places debt.0
      is_unheld = candidate_unheld now debt.0 past.places (subst AreRising pair.stands.places rising) least_here

      abbrev claimed : PeerPast
      claimed = claimed_peer id debt.0 tape_read past

      claims : ClaimsAt id now debt past claimed
      claims = record {
        tape = tape_read;
        works = tape_works past.tape (tape_of old.station) pair.stands.tape works;
        candidate = record {
          least = least_here;
          owed =
              subst (λ (s : State). Contains s.debts debt) pair.stands.tape.stands.ledger owed;
        };
        free = λ other. unheld_free past.places debt.0 other is_unheld;
        reads = (read_tape past.tape (tape_of old.station) (tape_of new.station) pair.stands.tape reads.tape).0;
        changed = refl;
      }

      peer_claimed : PeerStands claimed new
      peer_claimed = claimed_stands past old new pair.stands reads conf parts id debt.0
          (subst (λ (c : ℕ). places_of new.station ≡ moved (places_of old.station) debt.0 (Held c)) own places)

      held_now : IsHeldBy claimed.places id debt.0
      held_now =
          let was = unheld_there (place_at past.places debt.0) is_unheld in
          moved_here past.places debt.0 (Held id) was.0 was.1

      -- the station has it held by the connection
      pub held_there : IsHeldBy (places_of new.station) cxn debt.0
      held_there = subst (λ (p : Places). IsHeldBy p cxn debt.0) (sym peer_claimed.places)
          (subst (λ (c : ℕ). IsHeldBy claimed.places c debt.0) (sym own) held_now)

      -- the connection took the debt
      pub took_over : (number : ℕ) → number ≡ debt.0 → (new_c : Connection)
          → ready_of (options_of past.conf) conn.transcript ≡ Yes
          → ((o : Options) (unread : List ℕ) (h : List Happening) → ConnStands o connection.conn unread h
          → ConnStands o new_c.conn unread (after o h (Offered debt)))
          → new_c.waiting ≡ connection.waiting → new_c.rank ≡ connection.rank → new_c.conn.id ≡ connection.conn.id
          → HandedOver id now conn past (Debt number) new_c new
      took_over number own_number new_c ready stands waits rank same_id =
          let o = options_of past.conf in
          record {
            transcript = after o conn.transcript (Offered debt);
            later = claimed;
            hands = subst (λ (n : ℕ).
                HandsOver id now conn past (Debt n) (after o conn.transcript (Offered debt)) claimed)
                (sym own_number)
                (Taken_over debt claimed ready claims);
            stand = record {
              id_is = ap (λ i. i.0) same_id ∙ pair.id_is;
              rank = rank ∙ pair.rank;
              holds = stands o conn.unread conn.transcript pair.holds;
              waits = subst (WaitsWith past.conf (with_transcript conn (after o conn.transcript (Offered debt))))
                  (sym waits) (waits_offered past.conf conn debt connection.waiting pair.waits);
              stands = peer_claimed;
              tied = tied_more id debt.0 conn (with_transcript conn (after o conn.transcript (Offered debt))) past
                  claimed
                  (more_numbers o conn debt
                  (settled_few past.conf conn connection connection.waiting pair.holds pair.waits))
                  (unheld_free past.places debt.0 id is_unheld) held_now
                  (λ m apart. moved_other past.places debt.0 m (Held id) apart) pair.tied;
            };
          }

      -- the debt is given back
      module _ (last : Peer D g) (same_tape : IsSameTape new.station last.station)
          (back : places_of last.station ≡ moved (places_of new.station) debt.0 Ready)
          (same_conf : last.conf ≡ new.conf)
          (same_parts : last.parted ≡ new.parted) (new_c : Connection) (same_c : new_c ≡ connection) where
        abbrev returned : PeerPast
        returned = with_places claimed (moved claimed.places debt.0 Ready)

        gives_back : GivesBackAt id now debt past returned
        gives_back = record {
          mid = claimed;
          claims = claims;
          returns = record {
            works = tape_works past.tape (tape_of old.station) pair.stands.tape works;
            held =
                held_now;
            changed = refl;
          };
        }

        pair_back : PairStands id conn returned new_c last
        pair_back = subst (λ (c : Connection). PairStands id conn returned c last) (sym same_c) (record {
          id_is = pair.id_is;
          rank = pair.rank;
          holds = pair.holds;
          waits = pair.waits;
          stands = record {
            conf = same_conf ∙ peer_claimed.conf;
            limits = same_tape.limits ∙ peer_claimed.limits;
            tape = subst (TapeStands claimed.tape) (sym same_tape.tape) peer_claimed.tape;
            places = back ∙ ap (λ (p : Places). moved p debt.0 Ready) peer_claimed.places;
            parted = same_parts ∙ peer_claimed.parted;
          };
          tied = record { held = λ m. back_held m; once = pair.tied.once };
        })
          where
            ready_now : IsHeldBy returned.places id debt.0 → ⊥
            ready_now is =
                let same : Some Ready ≡ Some (Held id) =
                sym (moved_here claimed.places debt.0 Ready (Held id) held_now) ∙ is in cc

            others : (m : ℕ) → (m ≡ debt.0 → ⊥) → place_at returned.places m ≡ place_at past.places m
            others m apart = moved_other claimed.places debt.0 m Ready apart
                ∙ moved_other past.places debt.0 m (Held id) apart

            back_held : (m : ℕ) → IsHeldBy returned.places id m
                ↔ Contains (numbers_at (options_of past.conf) conn) m
            back_held m = elim (cases_eq m debt.0) [
              | inl here ↦ (
                λ is. absurd (ready_now (subst (IsHeldBy returned.places id) here is)),
                λ has. absurd (unheld_free past.places debt.0 id is_unheld
                    (subst (IsHeldBy past.places id) here ((pair.tied.held m).1 has))),
              )
              | inr apart ↦ (
                λ is. (pair.tied.held m).0 (sym (others m apart) ∙ is),
                λ has. others m apart ∙ (pair.tied.held m).1 has,
              )
            ]

        pub gave_back_busy : ready_of (options_of past.conf) conn.transcript ≡ NoRoom
            → HandedOver id now conn past Busy new_c last
        gave_back_busy ready =
            record {
              transcript = conn.transcript;
              later = returned;
              hands =
                  Has_no_room debt returned ready gives_back;
              stand = pair_back;
            }

        pub gave_back_shut : ready_of (options_of past.conf) conn.transcript ≡ Shut
            → HandedOver id now conn past Closed new_c last
        gave_back_shut ready =
            record {
              transcript = conn.transcript;
              later = returned;
              hands =
                  Is_shut debt returned ready gives_back;
              stand = pair_back;
            }

        pub gave_back_memory : (refusal : Fault) → refusal ≡ NoStepMemory
            → ready_of (options_of past.conf) conn.transcript ≡ Yes
            → HandedNot id now conn past refusal new_c last
        gave_back_memory refusal e ready =
            record { later = returned; why = inr (e, ready, (debt, gives_back)); stand = pair_back }

-- what is reported if there is none, and if there is one
pub if_none : {A : Type 0} (o : Option A) (P : Type 0) → IfNone o P → ((x : A) → o ≡ Some x → ⊥) → P
if_none None P is never = is
if_none (Some x) P is never = absurd (never x refl)

some_at : {A : Type 0} (x : A) (P : A → Type 0) → IfSome (Some x) P → P x
some_at x P is = is

pub if_some : {A : Type 0} (o : Option A) (x : A) (P : A → Type 0) → o ≡ Some x → IfSome o P → P x
if_some o x P is reports = some_at x P (subst (λ p. IfSome p P) is reports)

-- ---- what follows the offer

module _ (id now : ℕ) (conn : ConnPast) (past : PeerPast) where
  hands_conf : (handed : Handover) (transcript : List Happening) (later : PeerPast)
      → HandsOver id now conn past handed transcript later
      → later.conf ≡ past.conf
  hands_conf _ _ _ (None_there tape works none reads) = refl
  hands_conf _ _ _ (Taken_over debt later ready claims) = ap (λ (p : PeerPast). p.conf) claims.changed
  hands_conf _ _ _ (Has_no_room debt later ready gives) =
      ap (λ (p : PeerPast). p.conf) gives.returns.changed ∙ ap (λ (p : PeerPast). p.conf) gives.claims.changed
  hands_conf _ _ _ (Is_shut debt later ready gives) =
      ap (λ (p : PeerPast). p.conf) gives.returns.changed ∙ ap (λ (p : PeerPast). p.conf) gives.claims.changed

module _ {D : Type 0} {g : Ghosts D} (id now : ℕ) (conn : ConnPast) (past : PeerPast) where
  pub hand_memory : (fault : Fault) (c : Connection) (peer : Peer D g) → fault ≡ NoStepMemory
      → PairStands id conn past c peer
      → PairRefused (FailsToHand id now conn past fault) id c peer
  hand_memory fault c peer is pair =
      record { later_conn = conn; later = past; refuses = inl (is, refl, refl); stand = pair }

  pub hand_not : (fault refusal : Fault) (c : Connection) (peer : Peer D g) → refusal ≡ fault
      → HandedNot id now conn past fault c peer
      → PairRefused (FailsToHand id now conn past refusal) id c peer
  hand_not fault refusal c peer same is =
      subst (λ (f : Fault). PairRefused (FailsToHand id now conn past f) id c peer) (sym same)
      (record { later_conn = conn; later = is.later; refuses = inr (inl (is.why, refl)); stand = is.stand })

  module _ (handed : Handover) (mid_c : Connection) (mid_peer : Peer D g)
      (over : HandedOver id now conn past handed mid_c mid_peer) where
    -- it was open before exactly if the transcript says so
    pub open_over : (c : Connection) (none : Bool) (closed : Option Reason) → HoldsTranscript past.conf conn c
        → ((o : Options) (unread : List ℕ) (h : List Happening) → ConnStands o c.conn unread h → closed ≡ reason o h)
        → is_some closed ≡ not none → none ≡ is_none (reason (options_of over.later.conf) conn.transcript)
    open_over c none closed holds says is =
        open_said past.conf conn c none closed holds says is
        ∙ ap (λ (conf : PeerConf). is_none (reason (options_of conf) conn.transcript))
        (sym (hands_conf id now conn past handed over.transcript over.later over.hands))

    pub hand_on : (before mid outputs : List Output) (cxn : ℕ) (what : Handover) (c : Connection) (peer : Peer D g)
        → what ≡ handed
        → mid ≡ before ++ OutputHanded cxn what ∷ [] → cxn ≡ mid_c.conn.id.0
        → Followed id now conn.transcript (with_transcript conn over.transcript) over.later mid c peer outputs
        → PairMade (TakesHand id now conn past) id before c peer outputs
    hand_on before mid outputs cxn what c peer same is own followed = record {
      said = SaidHanded id handed ∷ followed.said;
      later_conn = followed.later_conn;
      later = followed.later;
      makes = record {
        handed = handed;
        transcript = over.transcript;
        mid = over.later;
        hands = over.hands;
        behind = followed.said;
        follows = followed.makes;
        outputs_are = refl;
      };
      outputs_are = reports_both before mid outputs (SaidHanded id handed ∷ []) followed.said
          (tells_push before before mid (OutputHanded cxn what) refl is
          ∙ ap (λ (said : View). map view_of before ++ said ∷ [])
          (ap (λ (n : ℕ). SaidHanded n what) (own ∙ over.stand.id_is) ∙ ap (λ (h : Handover). SaidHanded id h) same))
          followed.outputs_are;
      stand = followed.stand;
    }

    pub hand_on_not : (fault : Fault) (c : Connection) (peer : Peer D g)
        → FollowedNot id now (with_transcript conn over.transcript) over.later fault c peer
        → PairRefused (FailsToHand id now conn past fault) id c peer
    hand_on_not fault c peer followed = record {
      later_conn = followed.later_conn;
      later = followed.later;
      refuses = inr (inr (handed, over.transcript, over.later, over.hands, followed.refuses));
      stand = followed.stand;
    }
