-- Worked runs, computed: of a post of one station whose tapes are empty, none of whose sections writes to a disk; and a
-- receipts that have counted their stations.
use Rattle.std.proofs.Common.{◌≡◌, ◌+◌, ◌<◌, ℕ, zero, suc, true, false, Some, [], ◌∷◌, refl}
use Rattle.std.proofs.Common.{List, sym, ap, subst, arith}
use Rattle.std.specs.Prelude.{codes}
use Rattle.std.specs.List.{slice_get}
use Rattle.disk_model.specs.Disk.Event.{Made}
use Rattle.ledger_core.specs.State.{start}
use Rattle.ledger_core.specs.WrittenLaws.{whole-start}
use Rattle.ledger_core.specs.declared.note.Note.{Note}
use Rattle.ledger_core.specs.declared.note.Note.TheVariants.{Owe}
use Rattle.recovery.specs.Leaving.{IsPrefix}
use Rattle.recovery.specs.Notes.{History, begun, noted}
use Rattle.recovery.specs.Pairs.LeavesPair.{at_start}
use Rattle.sections.specs.Funnel.{Feeds, Funnel, HasTaken, IsEmpty, IsFed, IsFedNote, Names}
use Rattle.sections.specs.Funnel.Feeds.{Begin, Then}
use Rattle.sections.specs.Laws.{AllAreRecovered, IsBegun}
use Rattle.sections.specs.Post.{PostPast, Progress, SealingPast, StationPast, with_station}
use Rattle.sections.specs.Post.Progress.{Counted, Due, Waits}
use Rattle.sections.specs.Sections.{HasCountedAll, IsReopened, IsStopped, Lost_power, Runs, Section, begun_at, opened}
use Rattle.sections.specs.Sections.Does.{At_station, Intake_is_opened, Is_begun, Is_counted, Is_due}
use Rattle.sections.specs.Sections.Does.{Is_shown, Is_stopped, Was_sealed}
use Rattle.sections.specs.Sections.OfStation.{Is_noted, Is_opened, Is_pulled, Is_sent}
use Rattle.sections.specs.Sections.Runs.{Next, Start}
use Rattle.sections.specs.Sections.Section.{Begins, Counts, Dues, Notes, Opens, Opens_intake, Pulls}
use Rattle.sections.specs.Sections.Section.{Seals, Sends, Shows, Stops}
use Rattle.sections.specs.Sound.{IsSafe, IsSound}
use Rattle.sections.specs.TapeLaws.{no_notes, nothing_left, nothing_lies}
use Rattle.sections.specs.Tapes.{IsAcknowledgedBy, TapePast}
use Rattle.sections.proofs.Lines.{sealed_stand}
use Rattle.sections.proofs.OverRuns.{begins, recover_all, run_keeps}

-- ---- a post is made; a flush of all finds nothing; a line is taken, and is in no flush before the machine stops

abbrev tape : TapePast
tape = record { history = begun; log = ([], []); faults = (0, 0); broken = false }

abbrev made : PostPast
made = record { stations = opened tape ∷ []; intake = tape; intake_runs = true; last = 0; sealings = [] }

made_begun : IsBegun made
made_begun = record {
  stations = (record { all = refl; kept = refl; left = nothing_left (IsPrefix begun) no_notes }, tt);
  legal = tt;
  within = omega arith;
  last = refl;
  none = refl;
  left = nothing_left (IsPrefix begun) no_notes;
}

abbrev line : Note
line = Owe 1 (codes "a/1") (codes "<x@y>")

-- the receipt of the flush, which has counted the station
abbrev receipt : SealingPast
receipt = record { number = 0; progress = Counted ∷ [] }

abbrev sealed : PostPast
sealed = record made { sealings = receipt ∷ [] }

sealed_run : Runs made (Begins ∷ Dues 0 0 ∷ Counts 0 0 ∷ Seals 0 ∷ []) sealed
sealed_run =
    Next (Begins ∷ Dues 0 0 ∷ Counts 0 0 ∷ []) (Seals 0) sealed sealed
    (Next (Begins ∷ Dues 0 0 ∷ []) (Counts 0 0) _ sealed
    (Next (Begins ∷ []) (Dues 0 0) _ _
    (Next [] Begins made _ Start (Is_begun refl))
    (Is_due 0 0 (begun_at 0 1) (opened tape) refl refl))
    (Is_counted 0 0 0 (record { number = 0; progress = Due 0 ∷ [] }) (opened tape) refl refl refl (omega arith)))
    (Was_sealed 0 receipt refl (refl, tt) (omega arith))

-- the line's note at the front, in the queue, and on the tape
abbrev front : StationPast
front = record (opened tape) { unsent = line ∷ [] }

abbrev queued : StationPast
queued = record (opened tape) { queue = line ∷ [] }

abbrev tape_taken : TapePast
tape_taken = record tape { history = noted begun line }

abbrev station_taken : StationPast
station_taken = record (opened tape) { tape = tape_taken }

abbrev taken : PostPast
taken = record sealed { stations = station_taken ∷ []; last = 1 }

taken_run : Runs sealed (Notes 0 line ∷ Sends 0 ∷ Pulls 0 ∷ Shows ∷ []) taken
taken_run =
    Next (Notes 0 line ∷ Sends 0 ∷ Pulls 0 ∷ []) Shows _ taken
    (Next (Notes 0 line ∷ Sends 0 ∷ []) (Pulls 0) (with_station sealed 0 queued) _
    (Next (Notes 0 line ∷ []) (Sends 0) (with_station sealed 0 front) _
    (Next [] (Notes 0 line) sealed _ Start
    (At_station (Notes 0 line) 0 (opened tape) front refl (Is_noted 0 line refl refl (omega arith))))
    (At_station (Sends 0) 0 front queued refl (Is_sent 0 line [] refl)))
    (At_station (Pulls 0) 0 queued station_taken refl (Is_pulled 0 line [] refl refl)))
    (Is_shown refl)

-- the stop: the disks are still empty, so the opening finds no note
abbrev left_of : TapePast → TapePast
left_of tape = record tape { log = (Made [] ∷ [], Made [] ∷ []) }

stops : (history : History)
    → IsStopped (record tape { history = history }) (left_of (record tape { history = history }))
stops history = record {
  left = record { first = Lost_power [] refl; second = Lost_power [] refl };
  all = refl;
}

abbrev stopped_station : StationPast
stopped_station =
    record { tape = left_of tape_taken; queue = []; unsent = []; settled = 0; cut_off = false; runs = false }

abbrev stopped : PostPast
stopped =
    record { stations = stopped_station ∷ []; intake = left_of tape; intake_runs = false; last = 1; sealings = [] }

-- no note is found of any that pend
abbrev nothing_found : (notes : List Note)
    → IsPrefix (record { base = start; notes = notes; kept = 0; opened = 0 }) start
nothing_found notes = record {
  count = 0;
  enough = omega arith;
  within = omega arith;
  legal = record { whole = whole-start; notes_are = tt; legal = tt };
  is = refl;
}

station_opens : IsReopened (left_of tape_taken) (left_of tape)
station_opens = record {
  state = start;
  prefix = nothing_found (line ∷ []);
  found = nothing_lies;
  moments = at_start (nothing_left (IsPrefix (noted begun line)) (nothing_found (line ∷ [])));
  left = nothing_left (IsPrefix begun) no_notes;
  all = refl;
}

intake_opens : IsReopened (left_of tape) (left_of tape)
intake_opens = record {
  state = start;
  prefix = nothing_found [];
  found = nothing_lies;
  moments = at_start (nothing_left (IsPrefix begun) no_notes);
  left = nothing_left (IsPrefix begun) no_notes;
  all = refl;
}

abbrev restarted : PostPast
restarted = record {
  stations = opened (left_of tape) ∷ [];
  intake = left_of tape;
  intake_runs = true;
  last = 0;
  sealings = [];
}

restarted_run : Runs taken (Stops ∷ Opens 0 ∷ Opens_intake ∷ []) restarted
restarted_run =
    Next (Stops ∷ Opens 0 ∷ []) Opens_intake _ restarted
    (Next (Stops ∷ []) (Opens 0) stopped _
    (Next [] Stops taken stopped Start
    (Is_stopped (stopped_station ∷ []) (left_of tape)
    (record { tape = stops (noted begun line); all = refl }, tt) (stops begun)))
    (At_station (Opens 0) 0 stopped_station (opened (left_of tape)) refl
    (Is_opened 0 (left_of tape) refl station_opens)))
    (Intake_is_opened (left_of tape) refl intake_opens)

-- the laws' premises are met: after each of the three runs the post is sound and safe, and the tape is recovered
all_sound : IsSound restarted × IsSafe restarted
all_sound =
    let first = begins made made_begun in
    let second = run_keeps made sealed _ first.0 first.1 sealed_run in
    let third = run_keeps sealed taken _ second.0 second.1 taken_run in
    run_keeps taken restarted _ third.0 third.1 restarted_run

recovered_here : AllAreRecovered made sealed
recovered_here =
    let first = begins made made_begun in
    recover_all made sealed _ first.0 first.1 sealed_run

-- a stop may leave the mark 0 on the intake's tape
mark_there : IsAcknowledgedBy tape 0
mark_there = record { seen = start; may = ([], [], refl, refl, nothing_lies); below = omega arith }

-- ---- a receipt of the number 5 has counted a station, all of whose notes are acknowledged

abbrev kept_station : StationPast
kept_station = opened (record tape { history = record { base = start; notes = line ∷ []; kept = 1; opened = 0 } })

abbrev counted : PostPast
counted = record {
  stations = kept_station ∷ [];
  intake = tape;
  intake_runs = true;
  last = 5;
  sealings = record { number = 5; progress = Counted ∷ [] } ∷ [];
}

counted_sound : IsSound counted
counted_sound = record {
  stations = (record { within = omega arith; settled = omega arith }, tt);
  legal = tt;
  within = omega arith;
  marked = omega arith;
  acknowledged = (tt, tt);
  sealings = (record { below = omega arith; known = (tt, tt) }, tt);
}

line_stands : 0 < 1
line_stands =
    sealed_stand counted counted_sound 0 0 0 1 (record { number = 5; progress = Counted ∷ [] }) kept_station
    (codes "a/1") (codes "<x@y>") refl (refl, tt) (omega arith) refl refl

-- ---- a receipt looks at two stations, the second first, and counts them

abbrev two : PostPast
two = record made { stations = opened tape ∷ opened tape ∷ [] }

abbrev receipt_of : List Progress → SealingPast
receipt_of progress = record { number = 0; progress = progress }

abbrev two_at : List Progress → PostPast
two_at progress = record two { sealings = receipt_of progress ∷ [] }

two_run : Runs two (Begins ∷ Dues 0 1 ∷ Dues 0 0 ∷ Counts 0 1 ∷ Counts 0 0 ∷ Seals 0 ∷ [])
    (two_at (Counted ∷ Counted ∷ []))
two_run =
    Next (Begins ∷ Dues 0 1 ∷ Dues 0 0 ∷ Counts 0 1 ∷ Counts 0 0 ∷ []) (Seals 0) (two_at (Counted ∷ Counted ∷ [])) _
    (Next (Begins ∷ Dues 0 1 ∷ Dues 0 0 ∷ Counts 0 1 ∷ []) (Counts 0 0) (two_at (Due 0 ∷ Counted ∷ [])) _
    (Next (Begins ∷ Dues 0 1 ∷ Dues 0 0 ∷ []) (Counts 0 1) (two_at (Due 0 ∷ Due 0 ∷ [])) _
    (Next (Begins ∷ Dues 0 1 ∷ []) (Dues 0 0) (two_at (Waits ∷ Due 0 ∷ [])) _
    (Next (Begins ∷ []) (Dues 0 1) (two_at (Waits ∷ Waits ∷ [])) _
    (Next [] Begins two _ Start (Is_begun refl))
    (Is_due 0 1 (begun_at 0 2) (opened tape) refl refl))
    (Is_due 0 0 (receipt_of (Waits ∷ Due 0 ∷ [])) (opened tape) refl refl))
    (Is_counted 0 1 0 (receipt_of (Due 0 ∷ Due 0 ∷ [])) (opened tape) refl refl refl (omega arith)))
    (Is_counted 0 0 0 (receipt_of (Due 0 ∷ Counted ∷ [])) (opened tape) refl refl refl (omega arith)))
    (Was_sealed 0 (receipt_of (Counted ∷ Counted ∷ [])) refl (refl, (refl, tt)) (omega arith))

-- while the first is not counted, the receipt has not counted all
not_all : HasCountedAll (receipt_of (Due 0 ∷ Counted ∷ [])) → ⊥
not_all all = let is : Due 0 ≡ Counted = all.0 in cc

-- ---- the same line, of a funnel whose every line names the peer: it is taken, and again after a stop that loses it

abbrev funnel : Funnel
funnel = λ number. record { token = codes "a/1"; id = codes "<x@y>"; peers = 0 ∷ [] }

made_empty : IsEmpty made
made_empty = record { made = made_begun; stations = (refl, tt); intake = refl }

-- a section that makes no note and shows no number goes by any funnel
goes_by : (post : PostPast) (section : Section) → ((rank : ℕ) (note : Note) → section ≡ Notes rank note → ⊥)
    → (section ≡ Shows → ⊥) → IsFed funnel post section
goes_by post section notes shows = record {
  notes = λ rank note is. absurd (notes rank note is);
  shows = λ is. absurd (shows is);
}

line_fed : (post : PostPast) → post.intake_runs ≡ true → post.last ≡ 0 → IsFed funnel post (Notes 0 line)
line_fed post runs none = record {
  notes = λ rank note is.
      let same : line ≡ note = cc in
      subst (IsFedNote funnel post) same (λ is_line. (runs, ap (λ n. n + 1) (sym none), refl));
  shows = λ is. absurd cc;
}

line_shown : IsFed funnel (with_station made 0 station_taken) Shows
line_shown = record {
  notes = λ rank note is. absurd cc;
  shows = λ is. each;
}
  where
    each : (rank : ℕ) (station : StationPast) → slice_get (station_taken ∷ []) rank ≡ Some station
        → Names funnel 1 rank → HasTaken 1 station
    each zero station here names =
        let same : station_taken ≡ station = cc in
        subst (HasTaken 1) same (record { runs = refl; taken = omega arith })
    each (suc rank) station here names = absurd cc

-- it may not be shown before the front has it
not_shown : IsFed funnel made Shows → ⊥
not_shown fed = omega (arith, (fed.shows refl 0 (opened tape) refl (omega arith, (0, omega arith, refl))).taken)

-- the stop leaves both disks empty: neither the tape nor the intake has the line, which is read again
abbrev shown : PostPast
shown = record made { stations = station_taken ∷ []; last = 1 }

abbrev lost : PostPast
lost = record { stations = stopped_station ∷ []; intake = left_of tape; intake_runs = false; last = 1; sealings = [] }

taken_feeds : Feeds funnel made (Notes 0 line ∷ Sends 0 ∷ Pulls 0 ∷ Shows ∷ []) shown
taken_feeds =
    Then (Notes 0 line ∷ Sends 0 ∷ Pulls 0 ∷ []) Shows (with_station made 0 station_taken) shown
    (Then (Notes 0 line ∷ Sends 0 ∷ []) (Pulls 0) (with_station made 0 queued) _
    (Then (Notes 0 line ∷ []) (Sends 0) (with_station made 0 front) _
    (Then [] (Notes 0 line) made _ Begin (line_fed made refl refl)
    (At_station (Notes 0 line) 0 (opened tape) front refl (Is_noted 0 line refl refl (omega arith))))
    (goes_by _ (Sends 0) (λ rank note is. cc) (λ is. cc))
    (At_station (Sends 0) 0 front queued refl (Is_sent 0 line [] refl)))
    (goes_by _ (Pulls 0) (λ rank note is. cc) (λ is. cc))
    (At_station (Pulls 0) 0 queued station_taken refl (Is_pulled 0 line [] refl refl)))
    line_shown (Is_shown refl)

again_feeds : Feeds funnel shown (Stops ∷ Opens 0 ∷ Opens_intake ∷ Notes 0 line ∷ [])
    (with_station restarted 0 (record (opened (left_of tape)) { unsent = line ∷ [] }))
again_feeds =
    Then (Stops ∷ Opens 0 ∷ Opens_intake ∷ []) (Notes 0 line) restarted _
    (Then (Stops ∷ Opens 0 ∷ []) Opens_intake (with_station lost 0 (opened (left_of tape))) restarted
    (Then (Stops ∷ []) (Opens 0) lost _
    (Then [] Stops shown lost Begin (goes_by shown Stops (λ rank note is. cc) (λ is. cc))
    (Is_stopped (stopped_station ∷ []) (left_of tape)
    (record { tape = stops (noted begun line); all = refl }, tt) (stops begun)))
    (goes_by lost (Opens 0) (λ rank note is. cc) (λ is. cc))
    (At_station (Opens 0) 0 stopped_station (opened (left_of tape)) refl
    (Is_opened 0 (left_of tape) refl station_opens)))
    (goes_by _ Opens_intake (λ rank note is. cc) (λ is. cc))
    (Intake_is_opened (left_of tape) refl intake_opens))
    (line_fed restarted refl refl)
    (At_station (Notes 0 line) 0 (opened (left_of tape)) _ refl (Is_noted 0 line refl refl (omega arith)))
