-- Each step of a machine is a section, or a few, of the post for which it stands.
use Rattle.std.proofs.Common.{◌≡◌, ℕ, zero, suc, ◌+◌, ◌<◌, ◌≤◌, ◌⊎◌, Bool, true}
use Rattle.std.proofs.Common.{Some, List, [], ◌∷◌, ◌++◌, length, refl, sym, ap, ◌∙◌, subst, inl, inr, arith}
use Rattle.std.proofs.Common.{append_assoc, append-nil, length-append, length-set}
use Rattle.std.proofs.Math.ListN.{set}
use Rattle.std.specs.Prelude.{Result, Ok, Err}
use Rattle.std.specs.List.{AllZip, slice_get}
use Rattle.crossbeam_queue.specs.Passes.{view}
use Rattle.disk_model.specs.declared.Disk.{Ghosts}
use Rattle.flusher.specs.Sealed.{IsDoneBelow}
use Rattle.flusher.specs.declared.sealing.Receipt.{Receipt}
use Rattle.ledger_core.specs.declared.note.Note.{Note}
use Rattle.note_queue.specs.Words.{sending, tape_of}
use Rattle.note_queue.specs.declared.sender.Sender.{Sender}
use Rattle.note_queue.specs.declared.side.Side.{Side}
use Rattle.recovery.specs.Words.{IsBroken, IsDue, flushed_of}
use Rattle.recovery.specs.declared.fault.TapeFault.{TapeFault}
use Rattle.recovery.specs.declared.tape.Tape.{Tape}
use Rattle.sections.specs.ListLaws.{get_set}
use Rattle.sections.specs.Post.{PostPast, SealingPast, StationPast, with_intake, with_progress}
use Rattle.sections.specs.Post.{with_sealing, with_station}
use Rattle.sections.specs.Post.Progress.{Counted, Due as DueIs}
use Rattle.sections.specs.Sections.{Call, Does, OfTape, Runs, Section, begun_at}
use Rattle.sections.specs.Sections.Call.{Puts}
use Rattle.sections.specs.Sections.Does.{Is_called_at_intake, Is_shown}
use Rattle.sections.specs.Sections.Runs.{Next, Start}
use Rattle.sections.specs.Tapes.{TapePast}
use Rattle.sections.specs.Sections.Section.{Begins, Calls_intake, Counts, Dues, Seals, Shows}
use Rattle.section_steps.proofs.OfFronts.{fail, finish, keep, learn, move, send, shed, take}
use Rattle.section_steps.proofs.OfReceipts.{add, begin, rewrite_not_due, rewrite_step, seal, see_due, settled}
use Rattle.section_steps.proofs.OfSides.{flush, pull, read, rotate}
use Rattle.section_steps.proofs.Posts.{all_true, run_on}
use Rattle.section_steps.specs.At.{DoesThere, SideDoesThere}
use Rattle.section_steps.specs.Ends.{AreOnTape, HasFewNotes}
use Rattle.section_steps.specs.Machine.{AreFewAt, Comes, ComesByRuns, FrontCall, Machine, MachineStands}
use Rattle.section_steps.specs.Machine.{Peer, PeerStands, SideCall, Step}
use Rattle.section_steps.specs.Machine.Comes.{Next as NextStep, Start as StartThere}
use Rattle.section_steps.specs.Machine.FrontCall.{Fails, Finishes, Gives_back, Keeps, Learns, Puts_off, Sends, Sheds}
use Rattle.section_steps.specs.Machine.FrontCall.{Takes}
use Rattle.section_steps.specs.Machine.SideCall.{Flushes, Pulls, Reads, Rotates}
use Rattle.section_steps.specs.Machine.Step.{Adds, At_front, At_side, Begins as BeginsOne, Looks, Rewrites}
use Rattle.section_steps.specs.Machine.Step.{Seals_number}
use Rattle.section_steps.specs.Machine.Step.{Shows as ShowsNext}
use Rattle.section_steps.specs.Receipts.{SaysBegin, SealingSeen, SealingStands, SealsOrNot, SealsThere}
use Rattle.section_steps.specs.Steps.{DoAll}
use Rattle.section_steps.specs.TapeSteps.{TapeStands, TapeStep, call_of}

below_or_not : (m n : ℕ) → (m < n) ⊎ (n ≤ m)
below_or_not m n = grind arith

both_or_not : (a b c d : ℕ) → (a < b) × (c < d) ⊎ ((a < b) × (c < d) → ⊥)
both_or_not a b c d = elim (below_or_not a b) [
  | inl first ↦ elim (below_or_not c d) [
    | inl second ↦ inl (first, second)
    | inr not_second ↦ inr (λ both. let second = both.1 in omega (arith, second, not_second))
  ]
  | inr not_first ↦ inr (λ both. let first = both.0 in omega (arith, first, not_first))
]

-- ---- lists related element by element

module _ {A B : Type 0} (R : A → B → Type 0) where
  pub zip_there : (xs : List A) (ys : List B) (k : ℕ) (x : A) → AllZip R xs ys → slice_get xs k ≡ Some x
      → (y : B) × (slice_get ys k ≡ Some y) × R x y
  zip_there [] [] k x all here = absurd cc
  zip_there [] (b ∷ ys) k x all here = absurd all
  zip_there (a ∷ xs) [] k x all here = absurd all
  zip_there (a ∷ xs) (b ∷ ys) zero x all here = let same : a ≡ x = cc in (b, refl, subst (λ z. R z b) same all.0)
  zip_there (a ∷ xs) (b ∷ ys) (suc k) x all here = zip_there xs ys k x all.1 here

  zip_set_both : (xs : List A) (ys : List B) (k : ℕ) (x : A) (y : B) → AllZip R xs ys → R x y
      → AllZip R (set xs k x) (set ys k y)
  zip_set_both [] [] k x y all one = tt
  zip_set_both [] (b ∷ ys) k x y all one = absurd all
  zip_set_both (a ∷ xs) [] k x y all one = absurd all
  zip_set_both (a ∷ xs) (b ∷ ys) zero x y all one = (one, all.1)
  zip_set_both (a ∷ xs) (b ∷ ys) (suc k) x y all one = (all.0, zip_set_both xs ys k x y all.1 one)

  zip_push : (xs : List A) (ys : List B) (x : A) (y : B) → AllZip R xs ys → R x y
      → AllZip R (xs ++ x ∷ []) (ys ++ y ∷ [])
  zip_push [] [] x y all one = (one, tt)
  zip_push [] (b ∷ ys) x y all one = absurd all
  zip_push (a ∷ xs) [] x y all one = absurd all
  zip_push (a ∷ xs) (b ∷ ys) x y all one = (all.0, zip_push xs ys x y all.1 one)

  zip_long : (xs : List A) (ys : List B) → AllZip R xs ys → length xs ≡ length ys
  zip_long [] [] all = refl
  zip_long [] (b ∷ ys) all = absurd all
  zip_long (a ∷ xs) [] all = absurd all
  zip_long (a ∷ xs) (b ∷ ys) all = ap suc (zip_long xs ys all.1)

  zip_as : (Q : A → B → Type 0) → ((x : A) (y : B) → R x y → Q x y) → (xs : List A) (ys : List B) → AllZip R xs ys
      → AllZip Q xs ys
  zip_as Q each [] [] all = tt
  zip_as Q each [] (b ∷ ys) all = absurd all
  zip_as Q each (a ∷ xs) [] all = absurd all
  zip_as Q each (a ∷ xs) (b ∷ ys) all = (each a b all.0, zip_as Q each xs ys all.1)

-- ---- receipts

-- what is due stays so, as long as the station counts from the same opening
sealings_stay : (stations : List StationPast) (rank : ℕ) (was now : StationPast) → slice_get stations rank ≡ Some was
    → now.tape.history.opened ≡ was.tape.history.opened → (seen : List SealingSeen) (sealings : List SealingPast)
    → AllZip (SealingStands stations) seen sealings → AllZip (SealingStands (set stations rank now)) seen sealings
sealings_stay stations rank was now here opened seen sealings all =
    zip_as (SealingStands stations) (SealingStands (set stations rank now)) (λ sealing past one. record {
      number = one.number;
      long = one.long ∙ sym (length-set stations rank now);
      done = one.done;
      due = λ place due station is at. elim (get_set stations rank place now station at) [
        | inl same ↦
            let before = one.due place due was is
            (subst (λ (k : ℕ). slice_get stations k ≡ Some was) (sym same.0) here) in
            subst (λ (n : ℕ). slice_get past.progress place ≡ Some (DueIs (n + due)))
            (sym opened ∙ ap (λ (s : StationPast). s.tape.history.opened) (sym same.1)) before
        | inr other ↦ one.due place due station is other
      ];
    }) seen sealings all

-- ---- runs

one_section : (post later : PostPast) (section : Section) → Does post section later → Runs post (section ∷ []) later
one_section post later section does = Next [] section post later Start does

run_then : (begun mid later : PostPast) (first second : List Section) → Runs begun first mid → Runs mid second later
    → Runs begun (first ++ second) later
run_then begun mid later first second runs Start =
    subst (λ (l : List Section). Runs begun l mid) (sym (append-nil first)) runs
run_then begun mid later first second runs (Next sections section past next more does) =
    subst (λ (l : List Section). Runs begun l next) (append_assoc first sections (section ∷ []))
    (Next (first ++ sections) section past next (run_then begun mid past first sections runs more) does)

module _ {D : Type 0} {g : Ghosts D} where
  -- ---- calls at a peer

  -- what a front learns is on its tape
  there : (peer : Peer D g) (station : StationPast) (count : ℕ) → PeerStands peer station
      → count ≤ flushed_of (tape_of peer.side) → AreOnTape count station
  there peer station count stands below =
      omega (arith, below, stands.side.tape.stands.count, stands.side.tape.stands.opened)

  broken_there : (peer : Peer D g) (station : StationPast) → PeerStands peer station → IsBroken (tape_of peer.side)
      → station.tape.broken ≡ true
  broken_there peer station stands broken = sym stands.side.tape.broken ∙ broken

  front_call : (post : PostPast) (rank : ℕ) (peer : Peer D g) (station : StationPast) (new : Sender)
      (pushed : List Note) → PeerStands peer station → FrontCall post.last peer new pushed
      → (sections : List Section) × DoesThere g (record {
        before = peer.before;
        was = station;
        rank = rank;
        last = post.last;
      }) sections pushed new
  front_call post rank peer station new pushed stands
      (Takes place books mark number token id result above says) =
      (_, take g _ peer.sender new stands.sender place books mark number token id result says above)
  front_call post rank peer station new pushed stands (Finishes connection now outcome before after result says) =
      (_, finish g _ peer.sender new stands.sender connection now outcome before after result says)
  front_call post rank peer station new pushed stands (Sheds before after result says) =
      (_, shed g _ peer.sender new stands.sender before after result says)
  front_call post rank peer station new pushed stands (Keeps says) = (_, keep g _ peer.sender new stands.sender says)
  front_call post rank peer station new pushed stands (Puts_off result says) =
      (_, move g _ peer.sender new stands.sender result says)
  front_call post rank peer station new pushed stands (Gives_back result says) =
      (_, move g _ peer.sender new stands.sender result says)
  front_call post rank peer station new pushed stands (Learns flushed result below says) = (
    _,
    (learn g _ peer.sender new stands.sender flushed result (there peer station flushed.count stands below)
        says).does,
  )
  front_call post rank peer station new pushed stands (Fails has_broken is says) = (
    _,
    fail g _ peer.sender new stands.sender has_broken
        (λ yes. broken_there peer station stands (is yes)) says,
  )
  front_call post rank peer station new pushed stands (Sends says) =
      (_, send g _ peer.sender new stands.sender says)

  side_call : (post : PostPast) (rank : ℕ) (peer : Peer D g) (station : StationPast) (new : Side D g)
      (left : List Note) → PeerStands peer station → SideCall peer new left
      → (sections : List Section) × SideDoesThere (record {
        before = peer.before;
        was = station;
        rank = rank;
        last = post.last;
      }) sections new left
  side_call post rank peer station new left stands (Pulls rest says popped) =
      (_, pull _ peer.side new peer.items stands.side rest says popped)
  side_call post rank peer station new left stands (Flushes result says) =
      (_, (flush _ peer.side new peer.items stands.side result says).puts.does)
  side_call post rank peer station new left stands (Rotates result says) =
      (_, (rotate _ peer.side new peer.items stands.side result says).does)
  side_call post rank peer station new left stands (Reads says) =
      (_, read _ peer.side new peer.items stands.side says)

  -- ---- a machine, once something was done at a peer

  at_peer : (machine : Machine D g) (post : PostPast) (rank : ℕ) (peer : Peer D g) (was now : StationPast)
      (sections : List Section) → MachineStands machine post → slice_get post.stations rank ≡ Some was
      → DoAll post.last rank was sections now
      → PeerStands peer now → was.runs ≡ true → was.tape.history.kept ≤ length was.tape.history.notes
      → ComesByRuns post (record machine { peers = set machine.peers rank peer })
  at_peer machine post rank peer was now sections stands here does one runs within =
      let stays = all_true post.last rank was now sections does runs within in
      record {
        sections = [] ++ sections;
        later = with_station post rank now;
        runs = run_on post post [] sections rank was now Start here does;
        stands = record {
          peers = zip_set_both PeerStands machine.peers post.stations rank peer now stands.peers one;
          intake = stands.intake;
          runs = stands.runs;
          last = stands.last;
          sealings = sealings_stay post.stations rank was now here stays.opened machine.sealings post.sealings
              stands.sealings;
        };
      }

  -- ---- each step

  -- the intake's tape stands for this, and nothing else has changed
  with_tape_there : (machine : Machine D g) (post : PostPast) (new : Tape D g) (tape : TapePast)
      → MachineStands machine post → TapeStands tape new
      → MachineStands (record machine { intake = new }) (with_intake post tape)
  with_tape_there machine post new tape stands there = record {
    peers = stands.peers;
    intake = there;
    runs = stands.runs;
    last = stands.last;
    sealings = stands.sealings;
  }

  at_intake : (machine : Machine D g) (post : PostPast) (new : Tape D g) (call : Call) → MachineStands machine post
      → TapeStep post.intake call new → ComesByRuns post (record machine { intake = new })
  at_intake machine post new call stands step = record {
    sections = Calls_intake call ∷ [];
    later = with_intake post step.later;
    runs = one_section post (with_intake post step.later) (Calls_intake call)
        (Is_called_at_intake call step.later
        (subst (λ (b : Bool). OfTape post.intake b call step.later) (sym stands.runs) step.does));
    stands = with_tape_there machine post new step.later stands step.stands;
  }

  no_section : (machine : Machine D g) (post : PostPast) (new : Tape D g) → MachineStands machine post
      → TapeStands post.intake new → ComesByRuns post (record machine { intake = new })
  no_section machine post new stands there = record {
    sections = [];
    later = post;
    runs = Start;
    stands = with_tape_there machine post new post.intake stands there;
  }

  is_due : (tape : Tape D g) → IsDue tape ⊎ (IsDue tape → ⊥)
  is_due tape = both_or_not _ _ _ _

  few_there : (peer : Peer D g) (station : StationPast) → PeerStands peer station → AreFewAt peer → HasFewNotes station
  few_there peer station stands few =
      let notes = station.tape.history.notes in
      omega (
        arith,
        few,
        ap length stands.sender.noted,
        ap length stands.sender.unsent,
        length-append notes (station.queue ++ station.unsent),
        length-append station.queue station.unsent,
        length-append notes station.queue,
        length-append peer.before (view (sending peer.sender)).sent,
      )

  at_receipt : (machine : Machine D g) (post : PostPast) (id : ℕ) (section : Section) (sealing : SealingSeen)
      (past : SealingPast) → MachineStands machine post → Does post section (with_sealing post id past)
      → SealingStands post.stations sealing past
      → ComesByRuns post (record machine { sealings = set machine.sealings id sealing })
  at_receipt machine post id section sealing past stands does one = record {
    sections = section ∷ [];
    later = with_sealing post id past;
    runs = one_section post (with_sealing post id past) section does;
    stands = record {
      peers = stands.peers;
      intake = stands.intake;
      runs = stands.runs;
      last = stands.last;
      sealings = zip_set_both (SealingStands post.stations) machine.sealings post.sealings id sealing past
          stands.sealings one;
    };
  }

  sealed_there : (machine : Machine D g) (post : PostPast) (id : ℕ) (call : Call) (new : Tape D g)
      → MachineStands machine post → SealsThere post id call new → ComesByRuns post (record machine { intake = new })
  sealed_there machine post id call new stands does = record {
    sections = Seals id ∷ Calls_intake call ∷ [];
    later = with_intake post does.later;
    runs = Next (Seals id ∷ []) (Calls_intake call) (with_intake post does.sealed) (with_intake post does.later)
        (one_section post (with_intake post does.sealed) (Seals id) does.seals) does.calls;
    stands = with_tape_there machine post new does.later stands does.stands;
  }

  sealed_by : (machine : Machine D g) (post : PostPast) (id : ℕ) (new : Tape D g)
      (result : Result Receipt TapeFault) → MachineStands machine post → SealsOrNot post id new result
      → ComesByRuns post (record machine { intake = new })
  sealed_by machine post id new (Ok answer) stands does = sealed_there machine post id Puts new stands does.0
  sealed_by machine post id new (Err fault) stands does = elim does.1 [
    | inl still ↦ no_section machine post new stands still
    | inr sealed ↦ sealed_there machine post id _ new stands sealed
  ]

  step_runs : (machine later : Machine D g) (post : PostPast) → MachineStands machine post → Step machine later
      → ComesByRuns post later
  step_runs machine later post stands (At_front rank peer new pushed here call) =
      let at = zip_there PeerStands machine.peers post.stations rank peer stands.peers here in
      let does = front_call post rank peer at.0 new pushed at.2
      (subst (λ (n : ℕ). FrontCall n peer new pushed) stands.last call) in
      at_peer machine post rank (record peer { sender = new; items = peer.items ++ pushed }) at.0 does.1.later does.0
      stands at.1 does.1.does
      (record { sender = does.1.front; side = does.1.side _ peer.items at.2.side }) at.2.sender.runs
      at.2.side.tape.stands.kept_within
  step_runs machine later post stands (At_side rank peer new left here call) =
      let at = zip_there PeerStands machine.peers post.stations rank peer stands.peers here in
      let does = side_call post rank peer at.0 new left at.2 call in
      at_peer machine post rank (record peer { side = new; items = left }) at.0 does.1.later does.0 stands at.1
      does.1.does
      (record { sender = does.1.front _ at.2.sender; side = does.1.side }) at.2.sender.runs
      at.2.side.tape.stands.kept_within
  step_runs machine later post stands (Rewrites new result says) = elim (is_due machine.intake) [
    | inl due ↦
        at_intake machine post new (call_of result) stands
        (rewrite_step post.intake machine.intake new result stands.intake due says)
    | inr not_due ↦
        no_section machine post new stands (rewrite_not_due post machine.intake new result stands.intake not_due says)
  ]
  step_runs machine later post stands ShowsNext =
      let next : PostPast = record post { last = post.last + 1 } in
      record {
        sections = Shows ∷ [];
        later = next;
        runs = one_section post next Shows (Is_shown stands.runs);
        stands = record {
          peers = stands.peers;
          intake = stands.intake;
          runs = stands.runs;
          last = ap (λ (n : ℕ). n + 1) stands.last;
          sealings = stands.sealings;
        };
      }
  step_runs machine later post stands (BeginsOne new says) =
      let long = zip_long PeerStands machine.peers post.stations stands.peers in
      let begins = begin post machine.last new stands.runs stands.last
      (subst (λ (n : ℕ). SaysBegin machine.last n new) long says) in
      let past = begun_at post.last (length post.stations) in
      let next : PostPast = record post { sealings = post.sealings ++ past ∷ [] } in
      record {
        sections = Begins ∷ [];
        later = next;
        runs = one_section post next Begins begins.0;
        stands = record {
          peers = stands.peers;
          intake = stands.intake;
          runs = stands.runs;
          last = stands.last;
          sealings = zip_push (SealingStands post.stations) machine.sealings post.sealings new past stands.sealings
              begins.1;
        };
      }
  step_runs machine later post stands (Looks id rank due sealing new peer here at few says) =
      let there = zip_there PeerStands machine.peers post.stations rank peer stands.peers at in
      let past = zip_there (SealingStands post.stations) machine.sealings post.sealings id sealing stands.sealings here
      in
      let does = see_due post id rank past.0 there.0 peer.before peer.sender due sealing new past.1 there.1
      there.2.sender (few_there peer there.0 there.2 few) past.2 says in
      at_receipt machine post id (Dues id rank) new
      (with_progress past.0 rank (DueIs (there.0.tape.history.opened + due))) stands does.0 does.1
  step_runs machine later post stands (Adds id rank count sealing new peer here at has says) =
      let there = zip_there PeerStands machine.peers post.stations rank peer stands.peers at in
      let past = zip_there (SealingStands post.stations) machine.sealings post.sealings id sealing stands.sealings here
      in
      let does = add post id rank past.0 there.0 count sealing new past.1 there.1
      (settled peer.before peer.sender there.0 count there.2.sender has) past.2 says in
      at_receipt machine post id (Counts id rank) new (with_progress past.0 rank Counted) stands does.0 does.1
  step_runs machine later post stands (Seals_number id sealing new result here done says) =
      let past = zip_there (SealingStands post.stations) machine.sealings post.sealings id sealing stands.sealings here
      in
      let long = zip_long PeerStands machine.peers post.stations stands.peers in
      sealed_by machine post id new result stands
      (seal post id past.0 sealing machine.intake new result past.1 stands.runs past.2
      (subst (λ (n : ℕ). IsDoneBelow n sealing.places) long done) stands.intake says)

  -- ---- any steps

  pub comes_by_runs : (begun later : Machine D g) (post : PostPast) → MachineStands begun post → Comes begun later
      → ComesByRuns post later
  comes_by_runs begun later post stands StartThere =
      record { sections = []; later = post; runs = Start; stands = stands }
  comes_by_runs begun later post stands (NextStep past next comes step) =
      let first = comes_by_runs begun past post stands comes in
      let more = step_runs past next first.later first.stands step in
      record {
        sections = first.sections ++ more.sections;
        later = more.later;
        runs = run_then post first.later more.later first.sections more.sections first.runs more.runs;
        stands = more.stands;
      }
