-- How a receipt is made, by the clauses of the calls.
use Rattle.std.proofs.Common.{◌≡◌, ◌⊎◌, ℕ, zero, suc, ◌+◌, ◌-◌, ◌<◌, ◌≤◌, ◌^◌, min, Bool, true, false, Some}
use Rattle.std.proofs.Common.{List, [], ◌∷◌, ◌++◌, length, replicate, set, refl, sym, ap, ◌∙◌, subst, inl, inr, arith}
use Rattle.std.proofs.Common.{append-nil, if◌then◌else◌, length-set, nat_lt}
use Rattle.std.proofs.lemmas.Bool.{ltb-false}
use Rattle.std.proofs.lemmas.List.{length-replicate}
use Rattle.std.specs.Prelude.{Result, Ok, Err, slice_index_or}
use Rattle.std.specs.List.{AllByRecursion, AllZip, slice_get}
use Rattle.disk_model.specs.declared.Disk.{Ghosts}
use Rattle.flusher.specs.Sealed.{HasSettled, IsDoneBelow, SettlesDue}
use Rattle.flusher.specs.Sees.{seeing}
use Rattle.flusher.specs.declared.sealing.PlaceProgress.{PlaceProgress as Look}
use Rattle.flusher.specs.declared.sealing.PlaceProgress.TheVariants.{Done, Due as DueOf, Waits as Untried}
use Rattle.flusher.specs.declared.sealing.Receipt.{Receipt}
use Rattle.ledger_core.specs.State.{IsLegal, State, after}
use Rattle.ledger_core.specs.StateLaws.{AllLegal-back}
use Rattle.ledger_core.specs.declared.note.Note.{Note}
use Rattle.ledger_core.specs.declared.note.Note.TheVariants.{Seen}
use Rattle.note_queue.specs.Words.{front_of}
use Rattle.note_queue.specs.declared.sender.Sender.{Sender}
use Rattle.peer_queue.specs.Front.{settled_of, unsettled_of}
use Rattle.recovery.specs.Leaving.{broken_of}
use Rattle.recovery.specs.LeavingLaws.{same_disks}
use Rattle.recovery.specs.Notes.{AreLegal, History, noted_all}
use Rattle.recovery.specs.Tape.{StandsFor}
use Rattle.recovery.specs.Words.{IsBroken, IsDue, faults_of, ledger_of, log_of}
use Rattle.recovery.specs.declared.fault.TapeFault.{TapeFault}
use Rattle.recovery.specs.declared.fault.TapeFault.TheVariants.{Broken, Damaged, Disk, GenerationFull, NoMemory}
use Rattle.recovery.specs.declared.fault.TapeFault.TheVariants.{Note as NoteFault, PendingFull, TapeFull}
use Rattle.recovery.specs.declared.tape.Tape.{Tape}
use Rattle.sections.specs.ListLaws.{get_once, get_set, get_within}
use Rattle.sections.specs.Post.{PostPast, Progress, SealingPast, StationPast, with_intake, with_progress, with_sealing}
use Rattle.sections.specs.Post.Progress.{Counted, Due as DueIs, Waits}
use Rattle.sections.specs.Sections.{Call, Does, HasCountedAll, OfTape, begun_at}
use Rattle.sections.specs.Sections.Call.{Breaks, Puts, Reads}
use Rattle.sections.specs.Sections.Does.{Is_begun, Is_called_at_intake, Is_counted, Is_due, Is_sealed, Was_sealed}
use Rattle.sections.specs.Sections.Section.{Begins, Calls_intake, Counts, Dues, Seals}
use Rattle.sections.specs.Tapes.{TapePast}
use Rattle.section_steps.proofs.Senders.{noted_all_at}
use Rattle.section_steps.proofs.SideCalls.{rotation_refuses}
use Rattle.section_steps.proofs.Tapes.{cut_tape, not_true, put_tape, puts_tape, same_bool, still_tape}
use Rattle.section_steps.specs.Ends.{AreSettled, HasFewNotes, SenderStands}
use Rattle.section_steps.specs.Receipts.{DoesAtPost, IsCountedIf, SaysAdd, SaysBegin, SaysDue, SaysRewrite, SaysSeal}
use Rattle.section_steps.specs.Receipts.{SealingSeen, SealingStands, SealsOrNot, SealsThere}
use Rattle.section_steps.specs.TapeSteps.{TapeStands, TapeStep, call_of}

-- ---- what is known of places

none_done : (count : ℕ) → AllZip IsCountedIf (replicate count Untried) (replicate count Waits)
none_done zero = tt
none_done (suc count) = (tt, none_done count)

none_due : (places rank count : ℕ) → slice_get (replicate places Untried) rank ≡ Some (DueOf count) → ⊥
none_due zero rank count here = absurd cc
none_due (suc places) zero count here = absurd cc
none_due (suc places) (suc rank) count here = none_due places rank count here

one_known : (looks : List Look) (progress : List Progress) (place : ℕ) (look : Look) (one : Progress)
    → AllZip IsCountedIf looks progress → IsCountedIf look one
    → AllZip IsCountedIf (set looks place look) (set progress place one)
one_known [] [] place look one all is = tt
one_known [] (p ∷ progress) place look one all is = absurd all
one_known (f ∷ looks) [] place look one all is = absurd all
one_known (f ∷ looks) (p ∷ progress) zero look one all is = (is, all.1)
one_known (f ∷ looks) (p ∷ progress) (suc place) look one all is =
    (all.0, one_known looks progress place look one all.1 is)

done_is : (look : Look) (one : Progress) → IsCountedIf look one → look ≡ Done → one ≡ Counted
done_is Untried one is same = absurd cc
done_is (DueOf count) one is same = absurd cc
done_is Done one is same = is

all_done : (looks : List Look) (progress : List Progress) → AllZip IsCountedIf looks progress
    → IsDoneBelow (length progress) looks → AllByRecursion (λ (one : Progress). one ≡ Counted) progress
all_done [] [] all done = tt
all_done [] (p ∷ progress) all done = absurd all
all_done (f ∷ looks) [] all done = absurd all
all_done (f ∷ looks) (p ∷ progress) all done = (
  done_is f p all.0 (done 0 (omega arith)),
  all_done looks progress all.1 (λ place below. done (suc place) (omega (arith, below))),
)

-- a place that may be added is one where so much is due
due_at : (looks : List Look) (place count : ℕ) → SettlesDue count (slice_index_or looks place Untried)
    → (due : ℕ) × (slice_get looks place ≡ Some (DueOf due)) × (due ≤ count)
due_at [] place count settles = absurd settles
due_at (Untried ∷ looks) zero count settles = absurd settles
due_at (DueOf due ∷ looks) zero count settles = (due, refl, settles)
due_at (Done ∷ looks) zero count settles = absurd settles
due_at (look ∷ looks) (suc place) count settles = due_at looks place count settles

get_put_within : {A : Type 0} (xs : List A) (k : ℕ) (y : A) → k < length xs → slice_get (set xs k y) k ≡ Some y
get_put_within [] k y below = absurd (omega (arith, below))
get_put_within (x ∷ xs) zero y below = refl
get_put_within (x ∷ xs) (suc k) y below = get_put_within xs k y (omega (arith, below))

get_beside : {A : Type 0} (xs : List A) (i k : ℕ) (y x : A) → (k ≡ i → ⊥) → slice_get xs k ≡ Some x
    → slice_get (set xs i y) k ≡ Some x
get_beside [] i k y x apart here = here
get_beside (a ∷ xs) zero zero y x apart here = absurd (apart refl)
get_beside (a ∷ xs) zero (suc k) y x apart here = here
get_beside (a ∷ xs) (suc i) zero y x apart here = here
get_beside (a ∷ xs) (suc i) (suc k) y x apart here =
    get_beside xs i k y x (λ same. apart (ap suc same)) here

same_or_apart : (m n : ℕ) → (m ≡ n) ⊎ (m ≡ n → ⊥)
same_or_apart zero zero = inl refl
same_or_apart zero (suc n) = inr (λ same. omega (arith, same))
same_or_apart (suc m) zero = inr (λ same. omega (arith, same))
same_or_apart (suc m) (suc n) = elim (same_or_apart m n) [
  | inl same ↦ inl (ap suc same)
  | inr apart ↦ inr (λ same. apart (omega (arith, same)))
]

-- ---- a receipt

pub begin : (post : PostPast) (last : ℕ) (new : SealingSeen) → post.intake_runs ≡ true → last ≡ post.last
    → SaysBegin last (length post.stations) new
    → Does post Begins
    (record post { sealings = post.sealings ++ begun_at post.last (length post.stations) ∷ [] })
    × SealingStands post.stations new (begun_at post.last (length post.stations))
begin post last new runs is says =
    let count = length post.stations in (
      Is_begun runs,
      record {
        number = says.number ∙ is;
        long = length-replicate count Waits;
        done = subst (λ (l : List Look). AllZip IsCountedIf l (replicate count Waits)) (sym says.none)
            (none_done count);
        due = λ rank due station here there. absurd (none_due count rank due
            (subst (λ (l : List Look). slice_get l rank ≡ Some (DueOf due)) says.none here));
      },
    )

counts_all : (notes opened settled pending count : ℕ) → notes ≡ opened + (settled + pending)
    → notes < opened + 2 ^ 64 → count ≡ min (settled + pending) (2 ^ 64 - 1) → notes ≡ opened + count
counts_all notes opened settled pending count all below is = omega (arith, all, below, is)

-- the same station is at the same place
station_once : (stations : List StationPast) (rank place : ℕ) (station at : StationPast)
    → slice_get stations rank ≡ Some station → place ≡ rank → slice_get stations place ≡ Some at → at ≡ station
station_once stations rank place station at here same there =
    get_once stations rank station at here (subst (λ (k : ℕ). slice_get stations k ≡ Some at) same there)

pub see_due : (post : PostPast) (id rank : ℕ) (past : SealingPast) (station : StationPast) (before : List Note)
    (sender : Sender) (due : ℕ) (old new : SealingSeen) → slice_get post.sealings id ≡ Some past
    → slice_get post.stations rank ≡ Some station → SenderStands before sender station → HasFewNotes station
    → SealingStands post.stations old past → SaysDue rank sender due old new
    → Does post (Dues id rank)
    (with_sealing post id (with_progress past rank (DueIs (station.tape.history.opened + due))))
    × SealingStands post.stations new (with_progress past rank (DueIs (station.tape.history.opened + due)))
see_due post id rank past station before sender due old new here there stands few sealed says =
    let front = front_of sender in
    let opened = station.tape.history.opened in
    let found = DueIs (opened + due) in
    let all = counts_all _ opened (settled_of front) (length (unsettled_of front)) due
    (noted_all_at before sender station stands) few says.count in (
      subst (λ (n : ℕ). Does post (Dues id rank) (with_sealing post id (with_progress past rank (DueIs n)))) all
          (Is_due id rank past station here there),
      record {
        number = says.number ∙ sealed.number;
        long = length-set past.progress rank found ∙ sealed.long;
        done = subst (λ (l : List Look). AllZip IsCountedIf l (set past.progress rank found)) (sym says.due)
            (one_known old.places past.progress rank (DueOf due) found sealed.done tt);
        due = λ place count at look is. elim (same_or_apart place rank) [
          | inl same ↦
              let now = get_put_within old.places rank (DueOf due) says.within in
              let look' = subst (λ (k : ℕ). slice_get new.places k ≡ Some (DueOf count)) same look in
              let once = get_once (set old.places rank (DueOf due)) rank (DueOf due) (DueOf count) now
              (subst (λ (l : List Look). slice_get l rank ≡ Some (DueOf count)) says.due look') in
              let count_is : count ≡ due = cc in
              let at_is = station_once post.stations rank place station at there same is in
              let put = get_put_within past.progress rank found
              (omega (arith, sealed.long, get_within post.stations rank station there)) in
              subst (λ (k : ℕ). slice_get (set past.progress rank found) k
              ≡ Some (DueIs (at.tape.history.opened + count))) (sym same)
              (put ∙ (λ i. Some (DueIs ((sym at_is i).tape.history.opened + (sym count_is i)))))
          | inr apart ↦
              let was : slice_get old.places place ≡ Some (DueOf count) =
              elim (get_set old.places rank place (DueOf due) (DueOf count)
              (subst (λ (l : List Look). slice_get l place ≡ Some (DueOf count)) says.due look)) [
                | inl both ↦ absurd (apart both.0)
                | inr other ↦ other
              ] in
              get_beside past.progress rank place found (DueIs (at.tape.history.opened + count)) apart
              (sealed.due place count at was is)
        ];
      },
    )

pub settled : (before : List Note) (sender : Sender) (station : StationPast) (count : ℕ)
    → SenderStands before sender station → HasSettled count (front_of sender) → AreSettled count station
settled before sender station count stands has = omega (arith, stands.settled, has)

pub add : (post : PostPast) (id rank : ℕ) (past : SealingPast) (station : StationPast) (count : ℕ)
    (old new : SealingSeen) → slice_get post.sealings id ≡ Some past → slice_get post.stations rank ≡ Some station
    → AreSettled count station → SealingStands post.stations old past → SaysAdd rank count old new
    → Does post (Counts id rank) (with_sealing post id (with_progress past rank Counted))
    × SealingStands post.stations new (with_progress past rank Counted)
add post id rank past station count old new here there settled stands says =
    let due = due_at old.places rank count says.settles in
    let within = due.2 in (
      Is_counted id rank (station.tape.history.opened + due.0) past station here there
          (stands.due rank due.0 station due.1 there) (omega (arith, within, settled)),
      record {
        number = says.number ∙ stands.number;
        long = length-set past.progress rank Counted ∙ stands.long;
        done = subst (λ (l : List Look). AllZip IsCountedIf l (set past.progress rank Counted)) (sym says.done)
            (one_known old.places past.progress rank Done Counted stands.done refl);
        due = λ place other at look is. elim (get_set old.places rank place Done (DueOf other)
            (subst (λ (l : List Look). slice_get l place ≡ Some (DueOf other)) says.done look)) [
              | inl both ↦ let wrong : DueOf other ≡ Done = both.1 in absurd cc
              | inr was ↦ elim (same_or_apart place rank) [
                | inl same ↦
                    let now = get_put_within old.places rank Done says.within in
                    let look' = subst (λ (k : ℕ). slice_get new.places k ≡ Some (DueOf other)) same look in
                    let once : DueOf other ≡ Done = get_once (set old.places rank Done) rank Done (DueOf other) now
                    (subst (λ (l : List Look). slice_get l rank ≡ Some (DueOf other)) says.done look') in
                    absurd cc
                | inr apart ↦
                    get_beside past.progress rank place Counted (DueIs (at.tape.history.opened + other)) apart
                    (stands.due place other at was is)
              ]
            ];
      },
    )

counted_all : (post : PostPast) (past : SealingPast) (sealing : SealingSeen)
    → SealingStands post.stations sealing past → IsDoneBelow (length post.stations) sealing.places
    → HasCountedAll past
counted_all post past sealing stands done =
    all_done sealing.places past.progress stands.done
    (subst (λ (n : ℕ). IsDoneBelow n sealing.places) (sym stands.long) done)

-- ---- a number is sealed

-- the last of these notes was legal
last_legal : (h : History) (note : Note) → AreLegal h.base (h.notes ++ note ∷ [])
    → IsLegal (after h.base h.notes) note
last_legal h note are = (AllLegal-back h.base h.notes (note ∷ []) are.legal).0

seals_if : (post : PostPast) (id : ℕ) (past : SealingPast) (number : ℕ) (is_above : Bool)
    → slice_get post.sealings id ≡ Some past → HasCountedAll past → number ≡ past.number
    → post.intake.broken ≡ false
    → (is_above ≡ true → IsLegal (after post.intake.history.base post.intake.history.notes) (Seen number))
    → (is_above ≡ false → number ≤ (after post.intake.history.base post.intake.history.notes).mark)
    → Does post (Seals id) (with_intake post (record post.intake {
      history = noted_all post.intake.history (if is_above then Seen number ∷ [] else []);
    }))
seals_if post id past number true here all is works legal below =
    let h = post.intake.history in
    subst (λ (n : ℕ). Does post (Seals id) (with_intake post (record post.intake {
      history = noted_all h (Seen n ∷ []);
    }))) (sym is)
    (Is_sealed id past here all works
    (subst (λ (n : ℕ). IsLegal (after h.base h.notes) (Seen n)) is (legal refl)))
seals_if post id past number false here all is works legal below =
    let h = post.intake.history in
    subst (λ (l : List Note). Does post (Seals id) (with_intake post (record post.intake {
      history = record h { notes = l };
    }))) (sym (append-nil h.notes))
    (Was_sealed id past here all (subst (λ (n : ℕ). n ≤ (after h.base h.notes).mark) is (below refl)))

not_below : (mark number : ℕ) → nat_lt mark number ≡ false → number ≤ mark
not_below mark number is = ltb-false mark number is

seen_legal : (h : History) (number : ℕ) (is_above : Bool)
    → AreLegal h.base (h.notes ++ (if is_above then Seen number ∷ [] else [])) → is_above ≡ true
    → IsLegal (after h.base h.notes) (Seen number)
seen_legal h number true are is = last_legal h (Seen number) are
seen_legal h number false are is = absurd cc

module _ {D : Type 0} {g : Ghosts D} where
  -- the intake's tape once this number is noted, if it is above the mark
  abbrev with_seen : TapePast → ℕ → Tape D g → TapePast
  with_seen was number old = record was { history = seeing number old was.history }

  seals : (post : PostPast) (id : ℕ) (past : SealingPast) (number : ℕ) (old new : Tape D g) (kept : ℕ)
      → slice_get post.sealings id ≡ Some past → HasCountedAll past → number ≡ past.number
      → TapeStands post.intake old → (IsBroken old → ⊥)
      → StandsFor new (record (seeing number old post.intake.history) { kept = kept })
      → Does post (Seals id) (with_intake post (with_seen post.intake number old))
  seals post id past number old new kept here all is stands works noted =
      let h = post.intake.history in
      let mark = (ledger_of old).mark in
      seals_if post id past number (nat_lt mark number) here all is
      (sym stands.broken ∙ not_true (broken_of old) works)
      (seen_legal h number (nat_lt mark number) noted.are_legal)
      (λ below. subst (λ (s : State). number ≤ s.mark) stands.stands.ledger (not_below mark number below))

  called : (post : PostPast) (call : Call) (new : Tape D g) → post.intake_runs ≡ true
      → TapeStep post.intake call new
      → DoesAtPost post (Calls_intake call) (λ later. TapeStands later.intake new)
  called post call new runs step = record {
    later = with_intake post step.later;
    does = Is_called_at_intake call step.later
        (subst (λ (b : Bool). OfTape post.intake b call step.later) (sym runs) step.does);
    holds = step.stands;
  }

  both : (post : PostPast) (id number : ℕ) (call : Call) (old new : Tape D g) → post.intake_runs ≡ true
      → Does post (Seals id) (with_intake post (with_seen post.intake number old))
      → TapeStep (with_seen post.intake number old) call new → SealsThere post id call new
  both post id number call old new runs does step =
      record {
        sealed = with_seen post.intake number old;
        seals = does;
        later = step.later;
        calls = Is_called_at_intake call step.later
            (subst (λ (b : Bool). OfTape (with_seen post.intake number old) b call step.later) (sym runs) step.does);
        stands = step.stands;
      }

  -- a refusal that called no disk
  not_noted : (post : PostPast) (old new : Tape D g) → TapeStands post.intake old
      → StandsFor new post.intake.history → log_of new ≡ log_of old → faults_of new ≡ faults_of old
      → broken_of new ≡ broken_of old → TapeStands post.intake new
  not_noted post old new stands still log faults broken = record {
    stands = still;
    log = log ∙ stands.log;
    faults = faults ∙ stands.faults;
    broken = broken ∙ stands.broken;
  }

  module _ (post : PostPast) (id : ℕ) (past : SealingPast) (number : ℕ) (old new : Tape D g)
      (here : slice_get post.sealings id ≡ Some past) (runs : post.intake_runs ≡ true) (all : HasCountedAll past)
      (is : number ≡ past.number) (stands : TapeStands post.intake old) where
    abbrev h : History
    h = post.intake.history

    seal_ok : {T : Type 0} (answer : T) → SaysSeal number old new (Ok answer) → SealsThere post id Puts new
    seal_ok answer says =
        let sees = says.sees h stands.stands in
        let works : IsBroken old → ⊥ =
        λ broken. let same : Ok answer ≡ Err Broken = says.refuses.broken.1 broken in absurd cc in
        both post id number Puts old new runs
        (seals post id past number old new _ here all is stands works sees.ok)
        (put_tape (with_seen post.intake number old) old new stands.log stands.faults stands.broken works
        says.refuses.works says.refuses.quiet sees.ok sees.moments)

    seal_cut : {T : Type 0} → SaysSeal {T = T} number old new (Err Disk) → SealsThere post id Breaks new
    seal_cut says =
        let sees = says.sees h stands.stands in
        let works : IsBroken old → ⊥ =
        λ broken. let same : Err Disk ≡ Err Broken = says.refuses.broken.1 broken in absurd cc in
        let cause = sees.cause refl in
        both post id number Breaks old new runs
        (seals post id past number old new _ here all is stands works cause.0)
        (cut_tape (with_seen post.intake number old) old new stands.log stands.faults stands.broken works
        (says.refuses.breaks refl) cause.1 cause.0 sees.moments)

    seal_still : {T : Type 0} (fault : TapeFault) → (fault ≡ Disk → ⊥) → SaysSeal {T = T} number old new (Err fault)
        → TapeStands post.intake new ⊎ SealsThere post id Reads new
    seal_still fault other says =
        let sees = says.sees h stands.stands in
        let same = same_disks new old (says.refuses.still other) in
        let still = says.refuses.breaks_nothing other in
        let broken = same_bool (broken_of old) (broken_of new) still.0 still.1 in
        elim sees.stays [
          | inl unseen ↦ inl (not_noted post old new stands unseen same.0 same.1 broken)
          | inr noted ↦ inr (both post id number Reads old new runs
              (seals post id past number old new _ here all is stands noted.0 noted.1)
              (still_tape (with_seen post.intake number old) old new stands.log stands.faults stands.broken
              noted.1 same.0 same.1 broken))
        ]

    seal_by : {T : Type 0} (result : Result T TapeFault) → SaysSeal number old new result
        → SealsOrNot post id new result
    seal_by (Ok answer) says = (seal_ok answer says, tt)
    seal_by (Err Disk) says = (tt, inr (seal_cut says))
    seal_by (Err Broken) says = (tt, seal_still Broken (λ same. absurd cc) says)
    seal_by (Err PendingFull) says = (tt, seal_still PendingFull (λ same. absurd cc) says)
    seal_by (Err TapeFull) says = (tt, seal_still TapeFull (λ same. absurd cc) says)
    seal_by (Err GenerationFull) says = (tt, seal_still GenerationFull (λ same. absurd cc) says)
    seal_by (Err NoMemory) says = (tt, seal_still NoMemory (λ same. absurd cc) says)
    seal_by (Err (NoteFault fault)) says = (tt, seal_still (NoteFault fault) (λ same. absurd cc) says)
    seal_by (Err (Damaged segment at)) says = (tt, seal_still (Damaged segment at) (λ same. absurd cc) says)

  pub seal : (post : PostPast) (id : ℕ) (past : SealingPast) (sealing : SealingSeen) (old new : Tape D g)
      (result : Result Receipt TapeFault) → slice_get post.sealings id ≡ Some past → post.intake_runs ≡ true
      → SealingStands post.stations sealing past → IsDoneBelow (length post.stations) sealing.places
      → TapeStands post.intake old → SaysSeal sealing.number old new result → SealsOrNot post id new result
  seal post id past sealing old new result here runs sealed done stands says =
      seal_by post id past sealing.number old new here runs (counted_all post past sealing sealed done) sealed.number
      stands result says

  -- ---- the intake's tape is rewritten

  pub rewrite_step : {T : Type 0} (was : TapePast) (old new : Tape D g) (result : Result T TapeFault)
      → TapeStands was old → IsDue old → SaysRewrite old new result → TapeStep was (call_of result) new
  rewrite_step was old new result stands due says =
      let puts = says.acknowledges due was.history stands.stands in
      puts_tape was old new stands result
      (record { ok = puts.ok; stays = puts.stays; moments = puts.moments; cause = puts.cause })
      (rotation_refuses old new result (says.refuses due) says.quiet)

  pub rewrite : (post : PostPast) (old new : Tape D g) (result : Result (Unit {0}) TapeFault)
      → post.intake_runs ≡ true → TapeStands post.intake old → IsDue old → SaysRewrite old new result
      → DoesAtPost post (Calls_intake (call_of result)) (λ later. TapeStands later.intake new)
  rewrite post old new result runs stands due says =
      called post (call_of result) new runs (rewrite_step post.intake old new result stands due says)

  pub rewrite_not_due : (post : PostPast) (old new : Tape D g) (result : Result (Unit {0}) TapeFault)
      → TapeStands post.intake old → (IsDue old → ⊥) → SaysRewrite old new result → TapeStands post.intake new
  rewrite_not_due post old new result stands not_due says =
      subst (λ (t : Tape D g). TapeStands post.intake t) (sym (says.unchanged not_due).0) stands
