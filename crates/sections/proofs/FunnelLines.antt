-- Over the lines of a funnel: what each front has noted of them, and what is owed of them.
use Rattle.std.proofs.Common.{◌≡◌, ◌⊎◌, ℕ, zero, suc, ◌+◌, ◌<◌, ◌≤◌, ◌^◌, true, false, Bool, Some, List, [], ◌∷◌, ◌++◌}
use Rattle.std.proofs.Common.{length, take, refl, sym, ap, ◌∙◌, subst, inl, inr, arith, append-nil}
use Rattle.std.proofs.lemmas.Bool.{cases_lt, le-ltb, lt-ltb}
use Rattle.std.specs.Prelude.{if◌then◌else◌, nat_lt, slice_set}
use Rattle.std.specs.List.{AllByRecursion, slice_get}
use Rattle.ledger_core.specs.declared.note.Note.{Note}
use Rattle.ledger_core.specs.declared.note.Note.TheVariants.{Owe, Final, Drop, Seen, Closed}
use Rattle.ledger_core.specs.State.{State, after, start, step}
use Rattle.recovery.specs.Leaving.{EachLedger, IsPrefix, mark_of}
use Rattle.recovery.specs.LeavingLaws.{EachLedger-weaker}
use Rattle.recovery.specs.Notes.{History, begun as no_history}
use Rattle.sections.specs.Funnel.{Feeds, Funnel, FunnelIsOwed, FunnelIsOwedWithin, HasTaken, IsEmpty, IsFed}
use Rattle.sections.specs.Funnel.{IsFedNote, Names, OverFunnels, OwesLine, OwesUpTo, OwesUpToWithin}
use Rattle.sections.specs.Funnel.{ReceiptsAreOwed, note_of}
use Rattle.sections.specs.Funnel.Feeds.{Begin, Then}
use Rattle.sections.specs.Laws.{IsBegunStation}
use Rattle.sections.specs.ListLaws.{all_at, all_push, all_set, all_weaker, get_below, get_first, get_left, get_once}
use Rattle.sections.specs.ListLaws.{get_set, get_within, zip_get}
use Rattle.sections.specs.Post.{PostPast, SealingPast, StationPast, notes_of, with_progress, with_station}
use Rattle.sections.specs.Post.Progress.{Counted, Due}
use Rattle.sections.specs.Sections.{Does, IsStoppedStation, OfStation, Runs, Section, begun_at}
use Rattle.sections.specs.Sections.{seen}
use Rattle.sections.specs.Sections.Does.{At_station, Intake_is_opened, Is_begun, Is_called_at_intake}
use Rattle.sections.specs.Sections.Does.{Is_counted, Is_due, Is_sealed, Is_shown, Is_stopped, Was_sealed}
use Rattle.sections.specs.Sections.OfStation.{Is_called, Is_cut_off, Is_learnt, Is_noted, Is_opened, Is_pulled, Is_sent}
use Rattle.sections.specs.Sections.Runs.{Next, Start}
use Rattle.sections.specs.Sections.Section.{Notes, Shows}
use Rattle.sections.specs.Sound.{HasAcknowledged, IsSafe, IsSound, IsSoundSealing, IsSoundStation, KeepsNotes}
use Rattle.sections.specs.TapeLaws.{owed_by, prefix_mark}
use Rattle.sections.specs.Tapes.{OwesOrEnded, mark_at}
use Rattle.sections.proofs.AtPosts.{TapesKept, opened_mark, same_mark, section_keeps, seen_mark}
use Rattle.sections.proofs.AtStations.{Keeps, noted_all_of, opened_notes, pulled_all_of, sent_all_of, station_keeps}
use Rattle.sections.proofs.AtStations.{all_counted, stopped_notes}
use Rattle.sections.proofs.AtTapes.{call_keeps, opened_keeps, opened_kept, over_weaker, stopped_keeps}
use Rattle.sections.proofs.Lines.{below_kept}
use Rattle.sections.proofs.OverRuns.{begins, intake_safe, run_keeps}

-- ---- the notes of a front, in the order of the lines

-- the number that a note raises a ledger's mark to, or 0
abbrev mark_in : Note → ℕ
mark_in (Owe key token id) = if nat_lt key (2 ^ 64) then key else 0
mark_in (Final key code) = 0
mark_in (Drop key cause) = 0
mark_in (Seen number) = number
mark_in (Closed source) = 0

-- among these notes, not behind this place, is that of a line
record HasNote (funnel : Funnel) (notes : List Note) (number last : ℕ) : Type 0 where
  pub place : ℕ
  pub before : place ≤ last
  pub is : slice_get notes place ≡ Some (note_of funnel number)

-- before the note of a line are those of all lower lines that name the peer, too
abbrev InOrder : Funnel → ℕ → List Note → Type 0
InOrder funnel rank notes = (index : ℕ) (note : Note) (number : ℕ) → slice_get notes index ≡ Some note
    → number ≤ mark_in note → Names funnel number rank → HasNote funnel notes number index

order_first : (funnel : Funnel) (rank : ℕ) (notes more : List Note) → InOrder funnel rank (notes ++ more)
    → InOrder funnel rank notes
order_first funnel rank notes more order index note number here below names =
    let one = order index note number (get_left notes more index note here) below names in
    let within = get_within notes index note here in
    record {
      place = one.place;
      before = one.before;
      is = get_first notes more one.place (note_of funnel number) (omega (arith, one.before, within)) one.is;
    }

-- the last of a list, or one before it
get_last : (notes : List Note) (last : Note) (index : ℕ) (note : Note)
    → slice_get (notes ++ last ∷ []) index ≡ Some note
    → (slice_get notes index ≡ Some note) ⊎ ((index ≡ length notes) × (last ≡ note))
get_last [] last zero note here = inr (refl, cc)
get_last [] last (suc index) note here = absurd cc
get_last (x ∷ notes) last zero note here = inl here
get_last (x ∷ notes) last (suc index) note here = elim (get_last notes last index note here) [
  | inl is ↦ inl is
  | inr is ↦ inr (ap suc is.0, is.1)
]

get_end : (notes : List Note) (last : Note) → slice_get (notes ++ last ∷ []) (length notes) ≡ Some last
get_end [] last = refl
get_end (x ∷ notes) last = get_end notes last

order_push : (funnel : Funnel) (rank : ℕ) (notes : List Note) (last : Note) → InOrder funnel rank notes
    → ((number : ℕ) → number ≤ mark_in last → Names funnel number rank
    → HasNote funnel (notes ++ last ∷ []) number (length notes))
    → InOrder funnel rank (notes ++ last ∷ [])
order_push funnel rank notes last order at_last index note number here below names =
    elim (get_last notes last index note here) [
      | inl is ↦ (
          let one = order index note number is below names in
          record {
            place = one.place;
            before = one.before;
            is = get_left notes (last ∷ []) one.place (note_of funnel number) one.is;
          })
      | inr is ↦ subst (λ i. HasNote funnel (notes ++ last ∷ []) number i) (sym is.0)
          (at_last number (subst (λ n. number ≤ mark_in n) (sym is.1) below) names)
    ]

-- a number above a ledger's mark that notes have raised it to
step_noted : (state : State) (note : Note) (number : ℕ) → state.mark < number → number ≤ (step state note).mark
    → number ≤ mark_in note
step_noted state (Owe key token id) number below is = elim (cases_lt key (2 ^ 64)) [
  | inl line ↦ (
      let one = ap (λ (b : Bool). if b then key else state.mark) (lt-ltb key (2 ^ 64) line) in
      let other = ap (λ (b : Bool). if b then key else 0) (lt-ltb key (2 ^ 64) line) in
      omega (arith, one, other, is))
  | inr far ↦ absurd (
      let one = ap (λ (b : Bool). if b then key else state.mark) (le-ltb key (2 ^ 64) far) in
      omega (arith, one, below, is))
]
step_noted state (Final key code) number below is = absurd (omega (arith, below, is))
step_noted state (Drop key cause) number below is = absurd (omega (arith, below, is))
step_noted state (Seen n) number below is = is
step_noted state (Closed source) number below is = absurd (omega (arith, below, is))

record HasReached (notes : List Note) (number : ℕ) : Type 0 where
  pub index : ℕ
  pub note : Note
  pub here : slice_get notes index ≡ Some note
  pub above : number ≤ mark_in note

mark_noted : (state : State) (notes : List Note) (number : ℕ) → state.mark < number → number ≤ (after state notes).mark
    → HasReached notes number
mark_noted state [] number below is = absurd (omega (arith, below, is))
mark_noted state (note ∷ notes) number below is = elim (cases_lt (step state note).mark number) [
  | inl less ↦ (
      let one = mark_noted (step state note) notes number less is in
      record { index = suc one.index; note = one.note; here = one.here; above = one.above })
  | inr more ↦ record { index = 0; note = note; here = refl; above = step_noted state note number below more }
]

-- ---- what a front has of a line

-- A line's note at a front: the front runs, or the note is acknowledged.
record HasLine (funnel : Funnel) (number : ℕ) (station : StationPast) : Type 0 where
  pub index : ℕ
  pub is : slice_get (notes_of station) index ≡ Some (note_of funnel number)
  pub stands : (station.runs ≡ true) ⊎ (index < station.tape.history.kept)

record IsFedStation (funnel : Funnel) (rank : ℕ) (station : StationPast) : Type 0 where
  pub base : station.tape.history.base ≡ start
  pub order : InOrder funnel rank (notes_of station)

abbrev UpTo : Funnel → List StationPast → ℕ → Type 0
UpTo funnel stations mark = (number rank : ℕ) (station : StationPast) → number ≤ mark → Names funnel number rank
    → slice_get stations rank ≡ Some station → HasLine funnel number station

abbrev AllFed : Funnel → List StationPast → Type 0
AllFed funnel stations = (rank : ℕ) (station : StationPast) → slice_get stations rank ≡ Some station
    → IsFedStation funnel rank station

-- Each front has, of the lines up to the number that is shown, to that of each receipt, and to the intake's mark, the
-- notes of those that name its peer.
record HasLines (funnel : Funnel) (post : PostPast) : Type 0 where
  pub stations : AllFed funnel post.stations
  pub shown : post.intake_runs ≡ true → UpTo funnel post.stations post.last
  pub sealings : AllByRecursion (λ (sealing : SealingPast). UpTo funnel post.stations sealing.number) post.sealings
  pub marked : UpTo funnel post.stations (mark_at post.intake)

-- a front that has taken a line has the line's note
taken_line : (funnel : Funnel) (number rank : ℕ) (station : StationPast) → IsFedStation funnel rank station
    → Names funnel number rank → HasTaken number station → HasLine funnel number station
taken_line funnel number rank station fed names taken =
    let reached = mark_noted start (notes_of station) number names.0
    (subst (λ (base : State). number ≤ (after base (notes_of station)).mark) fed.base taken.taken) in
    let one = fed.order reached.index reached.note number reached.here reached.above names in
    record { index = one.place; is = one.is; stands = inl taken.runs }

-- ---- a section at a station

-- The front has the same notes, or the one more that the section makes; or the station was opened, and the last of its
-- notes are gone, none of which was acknowledged.
record HasMore (section : Section) (rank : ℕ) (was now : StationPast) : Type 0 where
  pub more : List Note
  pub is : notes_of now ≡ notes_of was ++ more
  pub one : (more ≡ []) ⊎ ((note : Note) × (section ≡ Notes rank note) × (more ≡ note ∷ []))
  pub runs : was.runs ≡ true → now.runs ≡ true

record HasLess (was now : StationPast) : Type 0 where
  pub gone : List Note
  pub is : notes_of was ≡ notes_of now ++ gone
  pub stopped : was.runs ≡ false
  pub enough : was.tape.history.kept ≤ length (notes_of now)

same_notes : (section : Section) (rank : ℕ) (was now : StationPast) → notes_of now ≡ notes_of was
    → now.runs ≡ was.runs → HasMore section rank was now
same_notes section rank was now is runs = record {
  more = [];
  is = is ∙ sym (append-nil (notes_of was));
  one = inl refl;
  runs = λ so. runs ∙ so;
}

station_goes : (last rank : ℕ) (was now : StationPast) (section : Section) → IsSoundStation was
    → OfStation last was section rank now → HasMore section rank was now ⊎ HasLess was now
station_goes last rank was now section sound (Is_noted r note runs works above) = inl (record {
  more = note ∷ [];
  is = noted_all_of was.tape.history.notes was.queue was.unsent (note ∷ []);
  one = inr (note, refl, refl);
  runs = λ so. so;
})
station_goes last rank was now section sound (Is_sent r note rest is) =
    inl (same_notes section rank was now (sent_all_of was.tape.history.notes was.queue was.unsent rest note is) refl)
station_goes last rank was now section sound (Is_pulled r note rest works is) =
    inl (same_notes section rank was now (pulled_all_of was.tape.history.notes was.queue was.unsent rest note is) refl)
station_goes last rank was now section sound (Is_called r call tape does) =
    let keeps = call_keeps was.tape was.runs call tape sound.within does in
    inl (same_notes section rank was now (ap (λ (l : List Note). l ++ (was.queue ++ was.unsent)) keeps.notes) refl)
station_goes last rank was now section sound (Is_learnt r count runs below) =
    inl (same_notes section rank was now refl refl)
station_goes last rank was now section sound (Is_cut_off r broken) =
    inl (same_notes section rank was now refl refl)
station_goes last rank was now section sound (Is_opened r tape stopped opens) =
    let notes = opened_notes was tape opens in
    let all = opened_kept was.tape tape opens in
    let keeps = opened_keeps was.tape tape opens in
    inr (record {
      gone = notes.0;
      is = notes.1;
      stopped = stopped;
      enough = omega (
        arith,
        keeps.kept,
        all,
        ap (λ (l : List Note). length l) (append-nil tape.history.notes),
      );
    })

line_goes : (funnel : Funnel) (number : ℕ) (section : Section) (rank : ℕ) (was now : StationPast)
    → was.tape.history.kept ≤ now.tape.history.kept → HasMore section rank was now ⊎ HasLess was now
    → HasLine funnel number was → HasLine funnel number now
line_goes funnel number section rank was now kept (inl more) line = record {
  index = line.index;
  is = subst (λ (l : List Note). slice_get l line.index ≡ Some (note_of funnel number)) (sym more.is)
      (get_left (notes_of was) more.more line.index (note_of funnel number) line.is);
  stands = elim line.stands [
    | inl runs ↦ inl (more.runs runs)
    | inr below ↦ inr (omega (arith, below, kept))
  ];
}
line_goes funnel number section rank was now kept (inr less) line = elim line.stands [
  | inl runs ↦ absurd (let no : true ≡ false = sym runs ∙ less.stopped in cc)
  | inr below ↦ record {
    index = line.index;
    is = get_first (notes_of now) less.gone line.index (note_of funnel number)
        (omega (arith, below, less.enough))
        (subst (λ (l : List Note). slice_get l line.index ≡ Some (note_of funnel number)) less.is line.is);
    stands = inr (omega (arith, below, kept));
  }
]

-- a note that goes by the funnel keeps the order, if the front has those of all lines whose numbers were shown
fed_order : (funnel : Funnel) (post : PostPast) (rank : ℕ) (station : StationPast) (note : Note)
    → (post.intake_runs ≡ true → UpTo funnel post.stations post.last)
    → slice_get post.stations rank ≡ Some station → IsFedNote funnel post note
    → (number : ℕ) → number ≤ mark_in note → Names funnel number rank
    → HasNote funnel (notes_of station ++ note ∷ []) number (length (notes_of station))
fed_order funnel post rank station (Owe key token id) shown here fed number below names =
    elim (cases_lt key (2 ^ 64)) [
      | inl line ↦ (
          let mark = ap (λ (b : Bool). if b then key else 0) (lt-ltb key (2 ^ 64) line) in
          let goes = fed line in
          elim (cases_lt post.last number) [
            | inl less ↦ (
                let same : number ≡ key = omega (arith, less, mark, below, goes.1) in
                record {
                  place = length (notes_of station);
                  before = omega arith;
                  is = get_end (notes_of station) (Owe key token id)
                      ∙ ap Some (goes.2 ∙ ap (λ n. note_of funnel n) (sym same));
                })
            | inr more ↦ (
                let has = shown goes.0 number rank station more names here in
                let within = get_within (notes_of station) has.index (note_of funnel number) has.is in
                record {
                  place = has.index;
                  before = omega (arith, within);
                  is = get_left (notes_of station) (Owe key token id ∷ []) has.index (note_of funnel number) has.is;
                })
          ])
      | inr far ↦ absurd (
          let mark = ap (λ (b : Bool). if b then key else 0) (le-ltb key (2 ^ 64) far) in
          omega (arith, mark, below, names.0))
    ]
fed_order funnel post rank station (Final key code) shown here fed number below names =
    absurd (omega (arith, below, names.0))
fed_order funnel post rank station (Drop key cause) shown here fed number below names =
    absurd (omega (arith, below, names.0))
fed_order funnel post rank station (Seen n) shown here fed number below names = absurd fed
fed_order funnel post rank station (Closed source) shown here fed number below names =
    absurd (omega (arith, below, names.0))

order_goes : (funnel : Funnel) (post : PostPast) (section : Section) (rank : ℕ) (was now : StationPast)
    → HasLines funnel post → IsFed funnel post section → slice_get post.stations rank ≡ Some was
    → HasMore section rank was now ⊎ HasLess was now → InOrder funnel rank (notes_of now)
order_goes funnel post section rank was now lines fed here (inl more) =
    let order = (lines.stations rank was here).order in
    subst (λ (l : List Note). InOrder funnel rank l) (sym more.is) (elim more.one [
      | inl none ↦ subst (λ (l : List Note). InOrder funnel rank (notes_of was ++ l)) (sym none)
          (subst (λ (l : List Note). InOrder funnel rank l) (sym (append-nil (notes_of was))) order)
      | inr (note, section_is, is) ↦ subst (λ (l : List Note). InOrder funnel rank (notes_of was ++ l)) (sym is)
          (order_push funnel rank (notes_of was) note order
          (fed_order funnel post rank was note lines.shown here (fed.notes rank note section_is)))
    ])
order_goes funnel post section rank was now lines fed here (inr less) =
    order_first funnel rank (notes_of now) less.gone
    (subst (λ (l : List Note). InOrder funnel rank l) less.is (lines.stations rank was here).order)

-- ---- a section at a post

up_less : (funnel : Funnel) (stations : List StationPast) (low high : ℕ) → low ≤ high → UpTo funnel stations high
    → UpTo funnel stations low
up_less funnel stations low high less up number rank station below names here =
    up number rank station (omega (arith, below, less)) names here

at_station : (funnel : Funnel) (past : PostPast) (section : Section) (rank : ℕ) (was now : StationPast) → IsSound past
    → HasLines funnel past → IsFed funnel past section → slice_get past.stations rank ≡ Some was
    → OfStation past.last was section rank now → HasLines funnel (with_station past rank now)
at_station funnel past section rank was now sound lines fed here does = record {
  stations = λ r station is. elim (get_set past.stations rank r now station is) [
    | inl same ↦ subst (λ i. IsFedStation funnel i station) (sym same.0)
        (subst (IsFedStation funnel rank) (sym same.1) (record {
          base = keeps.tape.stays.base ∙ (lines.stations rank was here).base;
          order = order_goes funnel past section rank was now lines fed here goes;
        }))
    | inr other ↦ lines.stations r station other
  ];
  shown = λ runs. up_set past.last (lines.shown runs);
  sealings = all_weaker (λ (sealing : SealingPast). UpTo funnel past.stations sealing.number)
      (λ (sealing : SealingPast). UpTo funnel (slice_set past.stations rank now) sealing.number)
      (λ sealing one. up_set sealing.number one) past.sealings lines.sealings;
  marked = up_set (mark_at past.intake) lines.marked;
}
  where
    one : IsSoundStation was
    one = all_at IsSoundStation past.stations rank was sound.stations here

    keeps : Keeps past.last was now
    keeps = station_keeps past.last rank was now section one does

    goes : HasMore section rank was now ⊎ HasLess was now
    goes = station_goes past.last rank was now section one does

    up_set : (mark : ℕ) → UpTo funnel past.stations mark → UpTo funnel (slice_set past.stations rank now) mark
    up_set mark up number r station below names is = elim (get_set past.stations rank r now station is) [
      | inl same ↦ subst (HasLine funnel number) (sym same.1)
          (line_goes funnel number section rank was now keeps.tape.kept goes
          (up number rank was below (subst (Names funnel number) same.0 names) here))
      | inr other ↦ up number r station below names other
    ]

shown_lines : (funnel : Funnel) (past : PostPast) → HasLines funnel past → IsFed funnel past Shows
    → past.intake_runs ≡ true → UpTo funnel past.stations (past.last + 1)
shown_lines funnel past lines fed runs number rank station below names here = elim (cases_lt past.last number) [
  | inl less ↦ (
      let same : number ≡ past.last + 1 = omega (arith, less, below) in
      let next = subst (λ n. Names funnel n rank) same names in
      subst (λ n. HasLine funnel n station) (sym same)
      (taken_line funnel (past.last + 1) rank station (lines.stations rank station here) next
      (fed.shows refl rank station here next)))
  | inr more ↦ lines.shown runs number rank station more names here
]

-- what was acknowledged of a line is there after a stop
stopped_line : (funnel : Funnel) (mark number : ℕ) (was now : StationPast) → IsSoundStation was
    → HasAcknowledged mark was → number ≤ mark → IsStoppedStation was now → HasLine funnel number was
    → HasLine funnel number now
stopped_line funnel mark number was now sound has le stops line =
    let note = note_of funnel number in
    let below = below_kept mark line.index number was (funnel number).token (funnel number).id has le line.is in
    let kept = (stopped_keeps was.tape now.tape sound.within stops.tape).keeps.kept in
    record {
      index = line.index;
      is = subst (λ (l : List Note). slice_get l line.index ≡ Some note) (sym (stopped_notes was now sound stops))
          (get_first was.tape.history.notes (was.queue ++ was.unsent) line.index note
          (omega (arith, below, sound.within)) line.is);
      stands = inr (omega (arith, below, kept));
    }

stopped_fed : (funnel : Funnel) (rank : ℕ) (was now : StationPast) → IsSoundStation was → IsStoppedStation was now
    → IsFedStation funnel rank was → IsFedStation funnel rank now
stopped_fed funnel rank was now sound stops fed = record {
  base = (stopped_keeps was.tape now.tape sound.within stops.tape).base ∙ fed.base;
  order = subst (λ (l : List Note). InOrder funnel rank l) (sym (stopped_notes was now sound stops))
      (order_first funnel rank was.tape.history.notes (was.queue ++ was.unsent) fed.order);
}

section_feeds : (funnel : Funnel) (past later : PostPast) (section : Section) → IsSound past → HasLines funnel past
    → IsFed funnel past section → Does past section later → HasLines funnel later
section_feeds funnel past later section sound lines fed (At_station s rank was now here does) =
    at_station funnel past s rank was now sound lines fed here does
section_feeds funnel past later section sound lines fed (Is_shown runs) = record {
  stations = lines.stations;
  shown = λ same. shown_lines funnel past lines fed runs;
  sealings = lines.sealings;
  marked = lines.marked;
}
section_feeds funnel past later section sound lines fed (Is_begun runs) = record {
  stations = lines.stations;
  shown = lines.shown;
  sealings = all_push (λ (s : SealingPast). UpTo funnel past.stations s.number) past.sealings
      (begun_at past.last (length past.stations)) lines.sealings (lines.shown runs);
  marked = lines.marked;
}
section_feeds funnel past later section sound lines fed (Is_due id rank sealing station is here) = record {
  stations = lines.stations;
  shown = lines.shown;
  sealings = all_set (λ (s : SealingPast). UpTo funnel past.stations s.number) past.sealings id
      (with_progress sealing rank (Due (length (notes_of station)))) lines.sealings
      (all_at (λ (s : SealingPast). UpTo funnel past.stations s.number) past.sealings id sealing lines.sealings is);
  marked = lines.marked;
}
section_feeds funnel past later section sound lines fed (Is_counted id rank count sealing one is here due le) = record {
  stations = lines.stations;
  shown = lines.shown;
  sealings = all_set (λ (s : SealingPast). UpTo funnel past.stations s.number) past.sealings id
      (with_progress sealing rank Counted) lines.sealings
      (all_at (λ (s : SealingPast). UpTo funnel past.stations s.number) past.sealings id sealing lines.sealings is);
  marked = lines.marked;
}
section_feeds funnel past later section sound lines fed (Is_sealed id sealing is all works legal) = record {
  stations = lines.stations;
  shown = lines.shown;
  sealings = lines.sealings;
  marked = subst (UpTo funnel past.stations) (sym (seen_mark sealing.number past.intake))
      (all_at (λ (s : SealingPast). UpTo funnel past.stations s.number) past.sealings id sealing lines.sealings is);
}
section_feeds funnel past later section sound lines fed (Was_sealed id sealing is all below) = lines
section_feeds funnel past later section sound lines fed (Is_called_at_intake call tape does) = record {
  stations = lines.stations;
  shown = lines.shown;
  sealings = lines.sealings;
  marked = subst (UpTo funnel past.stations)
      (sym (same_mark past.intake tape (call_keeps past.intake past.intake_runs call tape sound.within does)))
      lines.marked;
}
section_feeds funnel past later section sound lines fed (Is_stopped stations intake stop stops) = record {
  stations = λ rank now here.
      let was = zip_get IsStoppedStation past.stations stations rank now stop here in
      stopped_fed funnel rank was.0 now (all_at IsSoundStation past.stations rank was.0 sound.stations was.1) was.2
      (lines.stations rank was.0 was.1);
  shown = λ runs. absurd cc;
  sealings = tt;
  marked = subst (UpTo funnel stations)
      (sym (same_mark past.intake intake (stopped_keeps past.intake intake sound.within stops)))
      (λ number rank now below names here.
      let was = zip_get IsStoppedStation past.stations stations rank now stop here in
      stopped_line funnel (mark_at past.intake) number was.0 now
      (all_at IsSoundStation past.stations rank was.0 sound.stations was.1)
      (all_at (HasAcknowledged (mark_at past.intake)) past.stations rank was.0 sound.acknowledged was.1) below was.2
      (lines.marked number rank was.0 below names was.1));
}
section_feeds funnel past later section sound lines fed (Intake_is_opened tape stopped opens) =
    let less = opened_mark past tape sound opens in
    let up = up_less funnel past.stations (mark_at tape) (mark_at past.intake) less lines.marked in
    record { stations = lines.stations; shown = λ runs. up; sealings = tt; marked = up }

-- ---- runs

-- such a run is a run
runs_of : (funnel : Funnel) (begun later : PostPast) (sections : List Section) → Feeds funnel begun sections later
    → Runs begun sections later
runs_of funnel begun later sections Begin = Start
runs_of funnel begun later sections (Then before section past next feeds fed does) =
    Next before section past next (runs_of funnel begun past before feeds) does

run_feeds : (funnel : Funnel) (begun later : PostPast) (sections : List Section) → IsSound begun → IsSafe begun
    → HasLines funnel begun → Feeds funnel begun sections later → HasLines funnel later
run_feeds funnel begun later sections sound safe lines Begin = lines
run_feeds funnel begun later sections sound safe lines (Then before section past next feeds fed does) =
    section_feeds funnel past next section
    (run_keeps begun past before sound safe (runs_of funnel begun past before feeds)).0
    (run_feeds funnel begun past before sound safe lines feeds) fed does

-- no line was read
none_up_to : (funnel : Funnel) (stations : List StationPast) (mark : ℕ) → mark ≡ 0 → UpTo funnel stations mark
none_up_to funnel stations mark none number rank station below names here =
    absurd (omega (arith, none, below, names.0))

empty_fed : (funnel : Funnel) (rank : ℕ) (station : StationPast) → IsBegunStation station
    → station.tape.history ≡ no_history → IsFedStation funnel rank station
empty_fed funnel rank station begun empty =
    let none : notes_of station ≡ [] =
    ap (λ (s : StationPast). notes_of s) begun.all ∙ ap (λ (h : History). h.notes ++ []) empty in
    record {
      base = ap (λ (h : History). h.base) empty;
      order = subst (λ (l : List Note). InOrder funnel rank l) (sym none) (λ index note number here below names.
          absurd cc);
    }

empty_has : (funnel : Funnel) (post : PostPast) → IsEmpty post → HasLines funnel post
empty_has funnel post empty =
    let mark : mark_at post.intake ≡ 0 = ap (λ (h : History). mark_of h) empty.intake in
    record {
      stations = λ rank station here. empty_fed funnel rank station
          (all_at IsBegunStation post.stations rank station empty.made.stations here)
          (all_at (λ (s : StationPast). s.tape.history ≡ no_history) post.stations rank station empty.stations here);
      shown = λ runs. none_up_to funnel post.stations post.last (empty.made.last ∙ mark);
      sealings = subst (AllByRecursion (λ (s : SealingPast). UpTo funnel post.stations s.number))
          (sym empty.made.none) tt;
      marked = none_up_to funnel post.stations (mark_at post.intake) mark;
    }

-- what holds after a run over the lines of a funnel
record IsFedPost (funnel : Funnel) (post : PostPast) : Type 0 where
  pub sound : IsSound post
  pub safe : IsSafe post
  pub lines : HasLines funnel post

fed_post : OverFunnels IsFedPost
fed_post funnel begun later sections empty feeds =
    let first = begins begun empty.made in
    let is = run_keeps begun later sections first.0 first.1 (runs_of funnel begun later sections feeds) in
    record {
      sound = is.0;
      safe = is.1;
      lines = run_feeds funnel begun later sections first.0 first.1 (empty_has funnel begun empty) feeds;
    }

-- ---- what is owed

-- an acknowledged line's debt is owed after each prefix of the notes that has all acknowledged ones, or ended in it
owes_line : (funnel : Funnel) (mark number : ℕ) (station : StationPast) → IsSoundStation station
    → HasAcknowledged mark station → number ≤ mark → HasLine funnel number station
    → (state : State) → IsPrefix station.tape.history state → OwesLine funnel number station state
owes_line funnel mark number station sound has le line state prefix =
    let h = station.tape.history in
    let token = (funnel number).token in
    let id = (funnel number).id in
    let below = below_kept mark line.index number station token id has le line.is in
    let on_tape = get_first h.notes (station.queue ++ station.unsent) line.index (note_of funnel number)
    (omega (arith, below, sound.within)) line.is in
    let among = get_below prefix.count h.notes line.index (note_of funnel number)
    (omega (arith, below, prefix.enough)) on_tape in
    record {
      prefix = prefix;
      owes = subst (λ (s : State). OwesOrEnded (take prefix.count h.notes) number token id s) (sym prefix.is)
          (owed_by h.base (take prefix.count h.notes) line.index number token id prefix.legal among);
    }

-- the same of each line up to the mark that a stop may leave on the intake's tape
owes_seen : (funnel : Funnel) (post : PostPast) → IsFedPost funnel post → (seen : State)
    → IsPrefix post.intake.history seen
    → (number rank : ℕ) (station : StationPast) → number ≤ seen.mark → Names funnel number rank
    → slice_get post.stations rank ≡ Some station
    → (state : State) → IsPrefix station.tape.history state → OwesLine funnel number station state
owes_seen funnel post fed seen prefix number rank station le names here =
    let mark = mark_at post.intake in
    let less : number ≤ mark = omega (arith, le, prefix_mark post.intake.history seen fed.sound.legal prefix) in
    owes_line funnel mark number station (all_at IsSoundStation post.stations rank station fed.sound.stations here)
    (all_at (HasAcknowledged mark) post.stations rank station fed.sound.acknowledged here) less
    (fed.lines.marked number rank station less names here)

pub stopped_owed : OverFunnels FunnelIsOwed
stopped_owed funnel begun later sections empty feeds =
    let fed = fed_post funnel begun later sections empty feeds in
    EachLedger-weaker (IsPrefix later.intake.history) (λ (seen : State). OwesUpTo funnel later seen.mark)
    (λ seen prefix number rank station le names here.
    EachLedger-weaker (IsPrefix station.tape.history) (OwesLine funnel number station)
    (owes_seen funnel later fed seen prefix number rank station le names here) station.tape.log
    (all_at (λ (s : StationPast). EachLedger (KeepsNotes s) s.tape.log) later.stations rank station
    fed.safe.stations here)) later.intake.log (intake_safe later fed.safe)

pub receipts_owed : OverFunnels ReceiptsAreOwed
receipts_owed funnel begun later sections empty feeds index sealing is all number rank station le names here =
    let fed = fed_post funnel begun later sections empty feeds in
    let one = all_at (IsSoundSealing later.stations later.last) later.sealings index sealing fed.sound.sealings is in
    let up = all_at (λ (s : SealingPast). UpTo funnel later.stations s.number) later.sealings index sealing
    fed.lines.sealings is in
    EachLedger-weaker (IsPrefix station.tape.history) (OwesLine funnel number station)
    (owes_line funnel sealing.number number station
    (all_at IsSoundStation later.stations rank station fed.sound.stations here)
    (all_at (HasAcknowledged sealing.number) later.stations rank station
    (all_counted sealing.number sealing.progress later.stations all one.known) here) le
    (up number rank station le names here)) station.tape.log
    (all_at (λ (s : StationPast). EachLedger (KeepsNotes s) s.tape.log) later.stations rank station
    fed.safe.stations here)

pub moments_owed : OverFunnels FunnelIsOwedWithin
moments_owed funnel begun past sections empty feeds later section does =
    let fed = fed_post funnel begun past sections empty feeds in
    let keeps = section_keeps past later section fed.sound does in
    over_weaker (IsPrefix past.intake.history) (λ (seen : State). OwesUpToWithin funnel past later seen.mark)
    (λ seen prefix number rank old new le names here there.
    let was = zip_get TapesKept past.stations later.stations rank new keeps.stations there in
    let same = get_once past.stations rank was.0 old was.1 here in
    let kept : TapesKept old new = subst (λ (s : StationPast). TapesKept s new) (sym same) was.2 in
    over_weaker (IsPrefix old.tape.history) (OwesLine funnel number old)
    (owes_seen funnel past fed seen prefix number rank old le names here) old.tape.log new.tape.log
    ((kept (all_at IsSoundStation past.stations rank old fed.sound.stations here)).moments
    (all_at (λ (s : StationPast). EachLedger (KeepsNotes s) s.tape.log) past.stations rank old
    fed.safe.stations here))) past.intake.log later.intake.log (keeps.intake.moments (intake_safe past fed.safe))
