-- What holds after any sections, and at each moment within the next.
use Rattle.std.proofs.Common.{◌≡◌, ℕ, List, [], ◌∷◌, drop, refl, sym, ap, ◌∙◌, subst}
use Rattle.std.proofs.Common.{arith, append-nil}
use Rattle.std.specs.List.{AllByRecursion, AllZip}
use Rattle.ledger_core.specs.State.{State}
use Rattle.recovery.specs.Leaving.{IsPrefix}
use Rattle.recovery.specs.LeavingLaws.{EachLedger-weaker}
use Rattle.sections.specs.Laws.{AllAreRecovered, AllMomentsAreRecovered, AllStayAcknowledged, IsBegun, IsBegunStation}
use Rattle.sections.specs.Laws.{LeavesOver, OverRuns}
use Rattle.sections.specs.ListLaws.{all_weaker, none_behind, zip_all, zip_same, zip_second, zip_then, zip_weaker}
use Rattle.sections.specs.Post.{PostPast, StationPast, front_history, notes_of}
use Rattle.sections.specs.Sections.{Runs, Section}
use Rattle.sections.specs.Sections.Runs.{Next, Start}
use Rattle.sections.specs.Sound.{HasAcknowledged, IsSafe, IsSound, IsSoundSealing, IsSoundStation, KeepsLines}
use Rattle.sections.specs.TapeLaws.{keeps_lines, still_owes, tape_same, tape_then}
use Rattle.sections.specs.Tapes.{IsAbove, IsRecovered, StaysAcknowledged, StillOwes, mark_at}
use Rattle.sections.proofs.AtPosts.{KeepsPost, TapesKept, section_keeps}
use Rattle.sections.proofs.AtTapes.{IsSafeTape, over_weaker}

-- ---- whatever a stop leaves

abbrev AreSafe : PostPast → Type 0
AreSafe post = AllByRecursion (λ (station : StationPast). IsSafeTape station.tape) post.stations

-- a prefix of the intake's notes keeps the lines
lines_kept : (post : PostPast) → IsSound post → (state : State) → IsPrefix post.intake.history state
    → KeepsLines post state
lines_kept post sound state prefix =
    keeps_lines front_history post.intake.history post.stations state sound.legal sound.acknowledged prefix

safe_of : (post : PostPast) → IsSound post → AreSafe post → IsSafeTape post.intake → IsSafe post
safe_of post sound stations intake = record {
  stations = stations;
  intake = EachLedger-weaker (IsPrefix post.intake.history) (KeepsLines post) (lines_kept post sound) post.intake.log
      intake;
}

pub intake_safe : (post : PostPast) → IsSafe post → IsSafeTape post.intake
intake_safe post safe = EachLedger-weaker (KeepsLines post) (IsPrefix post.intake.history)
    (λ state keeps. keeps.prefix) post.intake.log safe.intake

-- of each station both
abbrev IsKept : StationPast → Type 0
IsKept station = IsSoundStation station × IsSafeTape station.tape

all_kept : (stations : List StationPast) → AllByRecursion IsSoundStation stations
    → AllByRecursion (λ (station : StationPast). IsSafeTape station.tape) stations → AllByRecursion IsKept stations
all_kept [] sound safe = tt
all_kept (station ∷ stations) sound safe = ((sound.0, safe.0), all_kept stations sound.1 safe.1)

section_safe : (past later : PostPast) → IsSound past → IsSafe past → KeepsPost past later → IsSafe later
section_safe past later sound safe keeps =
    safe_of later keeps.sound
    (zip_second TapesKept IsKept (λ (station : StationPast). IsSafeTape station.tape)
    (λ was now is kept. (kept is.0).safe is.1) past.stations later.stations
    (all_kept past.stations sound.stations safe.stations) keeps.stations)
    (keeps.intake.safe (intake_safe past safe))

pub run_keeps : (begun later : PostPast) (sections : List Section) → IsSound begun → IsSafe begun
    → Runs begun sections later → IsSound later × IsSafe later
run_keeps begun later sections sound safe Start = (sound, safe)
run_keeps begun later sections sound safe (Next before section past next runs does) =
    let is = run_keeps begun past before sound safe runs in
    let keeps = section_keeps past next section is.0 does in
    (keeps.sound, section_safe past next is.0 is.1 keeps)

-- ---- how a post begins

begun_station : (station : StationPast) → IsBegunStation station → IsSoundStation station
begun_station station begun = record {
  within = omega (arith, begun.kept);
  settled = omega (arith, ap (λ (s : StationPast). s.settled) begun.all);
}

begun_has : (mark : ℕ) (station : StationPast) → IsBegunStation station → HasAcknowledged mark station
begun_has mark station begun =
    let notes : notes_of station ≡ station.tape.history.notes =
    ap (λ (s : StationPast). notes_of s) begun.all ∙ append-nil station.tape.history.notes in
    subst (λ l. AllByRecursion (IsAbove mark) (drop station.tape.history.kept l)) (sym notes)
    (subst (λ k. AllByRecursion (IsAbove mark) (drop k station.tape.history.notes)) (sym begun.kept)
    (none_behind (IsAbove mark) station.tape.history.notes))

pub begins : (post : PostPast) → IsBegun post → IsSound post × IsSafe post
begins post begun =
    let sound : IsSound post = record {
      stations = all_weaker IsBegunStation IsSoundStation begun_station post.stations begun.stations;
      legal = begun.legal;
      within = begun.within;
      marked = omega (arith, begun.last);
      acknowledged = all_weaker IsBegunStation (HasAcknowledged (mark_at post.intake))
          (begun_has (mark_at post.intake)) post.stations begun.stations;
      sealings = subst (AllByRecursion (IsSoundSealing post.stations post.last)) (sym begun.none) tt;
    } in (
      sound,
      safe_of post sound
          (all_weaker IsBegunStation (λ (station : StationPast). IsSafeTape station.tape) (λ station one. one.left)
          post.stations begun.stations) begun.left,
    )

-- ---- what was acknowledged

abbrev Stays : StationPast → StationPast → Type 0
Stays was now = StaysAcknowledged was.tape now.tape

section_stays : (past later : PostPast) → IsSound past → KeepsPost past later → AllStayAcknowledged past later
section_stays past later sound keeps =
    zip_all TapesKept IsSoundStation Stays (λ was now one kept. (kept one).stays) past.stations later.stations
    sound.stations keeps.stations

pub run_stays : OverRuns AllStayAcknowledged
run_stays begun later sections sound safe Start =
    zip_same Stays (λ station. tape_same station.tape station.tape refl) begun.stations
run_stays begun later sections sound safe (Next before section past next runs does) =
    let is = run_keeps begun past before sound safe runs in
    zip_then Stays Stays Stays (λ was mid now one other. tape_then was.tape mid.tape now.tape one other)
    begun.stations past.stations next.stations (run_stays begun past before sound safe runs)
    (section_stays past next is.0 (section_keeps past next section is.0 does))

owes_still : (begun later : PostPast) → AllStayAcknowledged begun later
    → AllZip (λ (was now : StationPast). StillOwes was.tape.history now.tape.history) begun.stations later.stations
owes_still begun later stay =
    zip_weaker Stays (λ (was now : StationPast). StillOwes was.tape.history now.tape.history)
    (λ was now stays. still_owes was.tape now.tape stays) begun.stations later.stations stay

recovered_all : (was now : List StationPast) → AllZip Stays was now
    → AllByRecursion (λ (station : StationPast). IsSafeTape station.tape) now
    → AllZip (λ (one other : StationPast). IsRecovered one.tape other.tape) was now
recovered_all [] [] stay safe = tt
recovered_all [] (b ∷ now) stay safe = absurd stay
recovered_all (a ∷ was) [] stay safe = absurd stay
recovered_all (a ∷ was) (b ∷ now) stay safe = (
  record { prefix = safe.0; owes = still_owes a.tape b.tape stay.0 },
  recovered_all was now stay.1 safe.1,
)

pub recover_all : OverRuns AllAreRecovered
recover_all begun later sections sound safe runs =
    recovered_all begun.stations later.stations (run_stays begun later sections sound safe runs)
    (run_keeps begun later sections sound safe runs).1.stations

-- ---- each moment

pub moments_recover : AllMomentsAreRecovered
moments_recover begun past later sections section sound safe runs does =
    let is = run_keeps begun past sections sound safe runs in
    let keeps = section_keeps past later section is.0 does in
    record {
      prefixes = zip_all TapesKept IsKept
          (λ (old new : StationPast). LeavesOver (IsPrefix old.tape.history) old.tape.log new.tape.log)
          (λ was now one kept. (kept one.0).moments one.1) past.stations later.stations
          (all_kept past.stations is.0.stations is.1.stations) keeps.stations;
      owes = owes_still begun past (run_stays begun past sections sound safe runs);
      lines = over_weaker (IsPrefix past.intake.history) (KeepsLines past) (lines_kept past is.0) past.intake.log
          later.intake.log (keeps.intake.moments (intake_safe past is.1));
    }
