-- Each section keeps what is sound.
use Rattle.std.proofs.Common.{◌≡◌, ℕ, ◌+◌, ◌≤◌, true, false, Some, List, [], ◌∷◌, ◌++◌, length}
use Rattle.std.proofs.Common.{sym, ap, ◌∙◌, subst, arith}
use Rattle.std.specs.Prelude.{slice_set}
use Rattle.std.specs.List.{AllByRecursion, AllZip, slice_get}
use Rattle.ledger_core.specs.declared.note.Note.TheVariants.{Seen}
use Rattle.ledger_core.specs.State.{AllLegal, IsLegal, State, after}
use Rattle.ledger_core.specs.StateLaws.{AllLegal-append, after-append}
use Rattle.sections.specs.ListLaws.{all_at, all_push, all_set, all_weaker, at_all, drop_later, get_once, none_behind}
use Rattle.sections.specs.ListLaws.{zip_all, zip_at, zip_get, zip_put, zip_same, zip_second, zip_set_first}
use Rattle.sections.specs.ListLaws.{zip_set_second}
use Rattle.sections.specs.Post.{PostPast, Progress, SealingPast, StationPast, front_history, notes_of, with_intake}
use Rattle.sections.specs.Post.{with_progress, with_sealing, with_station}
use Rattle.sections.specs.Post.Progress.{Counted, Due}
use Rattle.sections.specs.Sections.{Does, HasCountedAll, IsReopened, IsStopped, IsStoppedStation, Section, begun_at}
use Rattle.sections.specs.Sections.{seen}
use Rattle.sections.specs.Sections.Does.{At_station, Intake_is_opened, Is_begun, Is_called_at_intake}
use Rattle.sections.specs.Sections.Does.{Is_counted, Is_due, Is_sealed, Is_shown, Is_stopped, Was_sealed}
use Rattle.sections.specs.Sound.{HasAcknowledged, IsKnown, IsSound, IsSoundSealing, IsSoundStation}
use Rattle.sections.specs.TapeLaws.{pends_less, prefix_mark}
use Rattle.sections.specs.Tapes.{IsAbove, TapePast, ledger_at, mark_at}
use Rattle.sections.proofs.AtTapes.{KeepsNotesOf, KeepsTape, call_keeps, noted_keeps, opened_keeps}
use Rattle.sections.proofs.AtTapes.{same_tape, stopped_keeps}
use Rattle.sections.proofs.AtStations.{Keeps, all_counted, all_wait, station_keeps, stays_acknowledged, stays_known}
use Rattle.sections.proofs.AtStations.{stopped_station}

-- what a section keeps of the tapes of all stations
abbrev pub TapesKept : StationPast → StationPast → Type 0
TapesKept was now = IsSoundStation was → KeepsTape was.tape now.tape

-- what a section keeps of a post
pub record KeepsPost (past later : PostPast) : Type 0 where
  pub sound : IsSound later
  pub stations : AllZip TapesKept past.stations later.stations
  pub intake : KeepsTape past.intake later.intake

same_stations : (stations : List StationPast) → AllZip TapesKept stations stations
same_stations stations = zip_same TapesKept (λ station sound. same_tape station.tape sound.within) stations

-- ---- a section at a station

at_station : (past : PostPast) (rank : ℕ) (was now : StationPast) → IsSound past
    → slice_get past.stations rank ≡ Some was
    → Keeps past.last was now → KeepsPost past (with_station past rank now)
at_station past rank was now sound here keeps = record {
  sound = record {
    stations = all_set IsSoundStation past.stations rank now sound.stations keeps.sound;
    legal = sound.legal;
    within = sound.within;
    marked = sound.marked;
    acknowledged = all_set (HasAcknowledged (mark_at past.intake)) past.stations rank now sound.acknowledged
        (stays_acknowledged past.last (mark_at past.intake) was now sound.marked keeps
        (all_at (HasAcknowledged (mark_at past.intake)) past.stations rank was sound.acknowledged here));
    sealings = all_weaker (IsSoundSealing past.stations past.last)
        (IsSoundSealing (slice_set past.stations rank now) past.last) (λ sealing one. record {
          below = one.below;
          known = zip_set_second (IsKnown sealing.number) sealing.progress past.stations rank now one.known (λ p is.
              stays_known past.last sealing.number p was now one.below keeps
              (zip_at (IsKnown sealing.number) sealing.progress past.stations rank p was one.known is here));
        }) past.sealings sound.sealings;
  };
  stations = zip_put TapesKept (λ station one. same_tape station.tape one.within) past.stations rank was now here
      (λ one. keeps.tape);
  intake = same_tape past.intake sound.within;
}

-- ---- sealings

-- the tapes are the same
abbrev sealed_so : (past : PostPast) (sealings : List SealingPast) → IsSound past
    → AllByRecursion (IsSoundSealing past.stations past.last) sealings
    → KeepsPost past (record past { sealings = sealings })
sealed_so past sealings sound all = record {
  sound = record {
    stations = sound.stations;
    legal = sound.legal;
    within = sound.within;
    marked = sound.marked;
    acknowledged = sound.acknowledged;
    sealings = all;
  };
  stations = same_stations past.stations;
  intake = same_tape past.intake sound.within;
}

-- it knows of the station at this rank what is so
abbrev known_sound : (past : PostPast) (sealing : SealingPast) (rank : ℕ) (one : Progress)
    → IsSoundSealing past.stations past.last sealing
    → ((station : StationPast) → slice_get past.stations rank ≡ Some station → IsKnown sealing.number one station)
    → IsSoundSealing past.stations past.last (with_progress sealing rank one)
known_sound past sealing rank one sound is = record {
  below = sound.below;
  known = zip_set_first (IsKnown sealing.number) sealing.progress past.stations rank one sound.known is;
}

due_sound : (past : PostPast) (sealing : SealingPast) (rank : ℕ) (station : StationPast)
    → IsSoundSealing past.stations past.last sealing → slice_get past.stations rank ≡ Some station
    → IsSoundSealing past.stations past.last (with_progress sealing rank (Due (length (notes_of station))))
due_sound past sealing rank station sound here =
    known_sound past sealing rank (Due (length (notes_of station))) sound (λ other is.
    subst (IsKnown sealing.number (Due (length (notes_of station))))
    (sym (get_once past.stations rank station other here is)) (none_behind (IsAbove sealing.number) (notes_of station)))

counted_sound : (past : PostPast) (sealing : SealingPast) (rank : ℕ) (station : StationPast) (count : ℕ) → IsSound past
    → IsSoundSealing past.stations past.last sealing → slice_get past.stations rank ≡ Some station
    → slice_get sealing.progress rank ≡ Some (Due count) → count ≤ station.settled
    → IsSoundSealing past.stations past.last (with_progress sealing rank Counted)
counted_sound past sealing rank station count sound one here due le =
    let settled = (all_at IsSoundStation past.stations rank station sound.stations here).settled in
    let known = zip_at (IsKnown sealing.number) sealing.progress past.stations rank (Due count) station one.known due
    here in
    known_sound past sealing rank Counted one (λ other is.
    subst (HasAcknowledged sealing.number) (sym (get_once past.stations rank station other here is))
    (drop_later (IsAbove sealing.number) count station.tape.history.kept (notes_of station)
    (omega (arith, le, settled)) known))

-- ---- the intake

-- the mark that a Seen leaves
pub seen_mark : (number : ℕ) (tape : TapePast) → mark_at (seen number tape) ≡ number
seen_mark number tape =
    ap (λ (s : State). s.mark) (after-append tape.history.base tape.history.notes (Seen number ∷ []))

sealed_keeps : (past : PostPast) (sealing : SealingPast) → IsSound past
    → IsSoundSealing past.stations past.last sealing
    → HasCountedAll sealing → IsLegal (ledger_at past.intake) (Seen sealing.number)
    → KeepsPost past (with_intake past (seen sealing.number past.intake))
sealed_keeps past sealing sound one all legal =
    let tape = noted_keeps past.intake (Seen sealing.number) sound.within in
    record {
      sound = record {
        stations = sound.stations;
        legal = AllLegal-append past.intake.history.base past.intake.history.notes (Seen sealing.number ∷ [])
            sound.legal (legal, tt);
        within = tape.within;
        marked = omega (arith, seen_mark sealing.number past.intake, one.below);
        acknowledged = subst (λ mark. AllByRecursion (HasAcknowledged mark) past.stations)
            (sym (seen_mark sealing.number past.intake))
            (all_counted sealing.number sealing.progress past.stations all one.known);
        sealings = sound.sealings;
      };
      stations = same_stations past.stations;
      intake = tape;
    }

-- the same notes leave the same mark
pub same_mark : (was now : TapePast) → KeepsNotesOf was now → mark_at now ≡ mark_at was
same_mark was now keeps =
    ap (λ (base : State). (after base now.history.notes).mark) keeps.base
    ∙ ap (λ notes. (after was.history.base notes).mark) keeps.notes

intake_called : (past : PostPast) (tape : TapePast) → IsSound past → KeepsNotesOf past.intake tape
    → KeepsPost past (with_intake past tape)
intake_called past tape sound keeps =
    let mark = same_mark past.intake tape keeps in
    record {
      sound = record {
        stations = sound.stations;
        legal = subst (λ (base : State). AllLegal base tape.history.notes) (sym keeps.base)
            (subst (AllLegal past.intake.history.base) (sym keeps.notes) sound.legal);
        within = keeps.keeps.within;
        marked = omega (arith, mark, sound.marked);
        acknowledged = subst (λ m. AllByRecursion (HasAcknowledged m) past.stations) (sym mark) sound.acknowledged;
        sealings = sound.sealings;
      };
      stations = same_stations past.stations;
      intake = keeps.keeps;
    }

-- an opening finds no mark above the last
pub opened_mark : (past : PostPast) (tape : TapePast) → IsSound past → IsReopened past.intake tape
    → mark_at tape ≤ mark_at past.intake
opened_mark past tape sound opens =
    let state : ledger_at tape ≡ opens.state =
    ap (λ (t : TapePast). ledger_at t) opens.all ∙ sym opens.prefix.is in
    subst (λ (s : State). s.mark ≤ mark_at past.intake) (sym state)
    (prefix_mark past.intake.history opens.state sound.legal opens.prefix)

intake_opened : (past : PostPast) (tape : TapePast) → IsSound past → IsReopened past.intake tape
    → KeepsPost past (record {
      stations = past.stations;
      intake = tape;
      intake_runs = true;
      last = mark_at tape;
      sealings = [];
    })
intake_opened past tape sound opens =
    let less = opened_mark past tape sound opens in
    let keeps = opened_keeps past.intake tape opens in
    record {
      sound = record {
        stations = sound.stations;
        legal = subst (λ (t : TapePast). AllLegal t.history.base t.history.notes) (sym opens.all)
            opens.prefix.legal.legal;
        within = keeps.within;
        marked = omega arith;
        acknowledged = all_weaker (HasAcknowledged (mark_at past.intake)) (HasAcknowledged (mark_at tape))
            (λ station has. pends_less (mark_at tape) (mark_at past.intake) less (front_history station) has)
            past.stations sound.acknowledged;
        sealings = tt;
      };
      stations = same_stations past.stations;
      intake = keeps;
    }

-- ---- a stop

stopped : (past : PostPast) (stations : List StationPast) (intake : TapePast) → IsSound past
    → AllZip IsStoppedStation past.stations stations → IsStopped past.intake intake
    → KeepsPost past (record {
      stations = stations;
      intake = intake;
      intake_runs = false;
      last = past.last;
      sealings = [];
    })
stopped past stations intake sound stop stops =
    let keeps = stopped_keeps past.intake intake sound.within stops in
    let at_intake = (intake_called past intake sound keeps).sound in
    let mark = same_mark past.intake intake keeps in
    record {
      sound = record {
        stations = zip_second IsStoppedStation IsSoundStation IsSoundStation
            (λ was now one is. (stopped_station past.last was now one is).sound) past.stations stations sound.stations
            stop;
        legal = at_intake.legal;
        within = at_intake.within;
        marked = at_intake.marked;
        acknowledged = at_all (HasAcknowledged (mark_at intake)) stations (λ rank now here.
            let was = zip_get IsStoppedStation past.stations stations rank now stop here in
            subst (λ m. HasAcknowledged m now) (sym mark)
            (stays_acknowledged past.last (mark_at past.intake) was.0 now sound.marked
            (stopped_station past.last was.0 now (all_at IsSoundStation past.stations rank was.0 sound.stations was.1)
            was.2)
            (all_at (HasAcknowledged (mark_at past.intake)) past.stations rank was.0 sound.acknowledged was.1)));
        sealings = tt;
      };
      stations = zip_all IsStoppedStation IsSoundStation TapesKept
          (λ was now one is. λ sound. (stopped_station past.last was now one is).tape) past.stations stations
          sound.stations stop;
      intake = keeps.keeps;
    }

-- ---- all

with_sealing_so : (past : PostPast) (id : ℕ) (sealing : SealingPast) → IsSound past
    → IsSoundSealing past.stations past.last sealing → KeepsPost past (with_sealing past id sealing)
with_sealing_so past id sealing sound one =
    sealed_so past (slice_set past.sealings id sealing) sound
    (all_set (IsSoundSealing past.stations past.last) past.sealings id sealing sound.sealings one)

at_sealing : (past : PostPast) (id : ℕ) (sealing : SealingPast) → IsSound past
    → slice_get past.sealings id ≡ Some sealing → IsSoundSealing past.stations past.last sealing
at_sealing past id sealing sound is =
    all_at (IsSoundSealing past.stations past.last) past.sealings id sealing sound.sealings is

pub section_keeps : (past later : PostPast) (section : Section) → IsSound past → Does past section later
    → KeepsPost past later
section_keeps past later section sound (At_station s rank was now here does) =
    at_station past rank was now sound here
    (station_keeps past.last rank was now s (all_at IsSoundStation past.stations rank was sound.stations here) does)
section_keeps past later section sound (Is_shown runs) = record {
  sound = record {
    stations = sound.stations;
    legal = sound.legal;
    within = sound.within;
    marked = omega (arith, sound.marked);
    acknowledged = sound.acknowledged;
    sealings = all_weaker (IsSoundSealing past.stations past.last) (IsSoundSealing past.stations (past.last + 1))
        (λ sealing one. record { below = omega (arith, one.below); known = one.known }) past.sealings sound.sealings;
  };
  stations = same_stations past.stations;
  intake = same_tape past.intake sound.within;
}
section_keeps past later section sound (Is_begun runs) =
    sealed_so past (past.sealings ++ begun_at past.last (length past.stations) ∷ []) sound
    (all_push (IsSoundSealing past.stations past.last) past.sealings (begun_at past.last (length past.stations))
    sound.sealings (record { below = omega arith; known = all_wait past.last past.stations }))
section_keeps past later section sound (Is_due id rank sealing station is here) =
    with_sealing_so past id _ sound (due_sound past sealing rank station (at_sealing past id sealing sound is) here)
section_keeps past later section sound (Is_counted id rank count sealing station is here due le) =
    with_sealing_so past id _ sound
    (counted_sound past sealing rank station count sound (at_sealing past id sealing sound is) here due le)
section_keeps past later section sound (Is_sealed id sealing is all works legal) =
    sealed_keeps past sealing sound (at_sealing past id sealing sound is) all legal
section_keeps past later section sound (Was_sealed id sealing is all below) =
    sealed_so past past.sealings sound sound.sealings
section_keeps past later section sound (Is_called_at_intake call tape does) =
    intake_called past tape sound (call_keeps past.intake past.intake_runs call tape sound.within does)
section_keeps past later section sound (Is_stopped stations intake stop stops) =
    stopped past stations intake sound stop stops
section_keeps past later section sound (Intake_is_opened tape stopped opens) = intake_opened past tape sound opens
