-- What an acknowledged line made at a front is acknowledged at the station's tape, and stays owed.
use Rattle.std.proofs.Common.{◌≡◌, ℕ, ◌<◌, ◌≤◌, Some, List, ◌++◌, inl, inr}
use Rattle.std.proofs.Common.{subst, sym, arith}
use Rattle.std.proofs.lemmas.Bool.{cases_lt}
use Rattle.std.specs.List.{slice_get}
use Rattle.ledger_core.specs.declared.note.Note.TheVariants.{Owe}
use Rattle.recovery.specs.Leaving.{IsPrefix}
use Rattle.recovery.specs.LeavingLaws.{EachLedger-weaker, each_may}
use Rattle.sections.specs.Laws.{LinesAreAcknowledged, LinesAreKept, OverRuns, SealedLinesAreAcknowledged}
use Rattle.sections.specs.ListLaws.{all_at, drop_at, get_first, get_once, zip_get}
use Rattle.sections.specs.Post.{PostPast, StationPast, notes_of}
use Rattle.sections.specs.Sound.{HasAcknowledged, IsSafe, IsSound, IsSoundStation, KeepsLines}
use Rattle.sections.specs.Tapes.{IsAbove, IsRecovered, OwesOrEnded}
use Rattle.sections.proofs.AtStations.{all_counted}
use Rattle.sections.proofs.OverRuns.{recover_all}

-- a note of a line whose number is not above a mark is acknowledged, if all that lines up to the mark made is
pub below_kept : (mark index number : ℕ) (station : StationPast) (token id : List ℕ) → HasAcknowledged mark station
    → number ≤ mark → slice_get (notes_of station) index ≡ Some (Owe number token id)
    → index < station.tape.history.kept
below_kept mark index number station token id has below noted = elim (cases_lt index station.tape.history.kept) [
  | inl less ↦ less
  | inr more ↦ absurd (
      let above = drop_at (IsAbove mark) station.tape.history.kept index (notes_of station) (Owe number token id) has
      more noted in
      omega (arith, above, below))
]

pub lines_stand : (post : PostPast) → IsSafe post → LinesAreAcknowledged post
lines_stand post safe rank index number station token id line here noted =
    let keeps = each_may (KeepsLines post) post.intake.log line.seen safe.intake line.may in
    below_kept line.seen.mark index number station token id
    (all_at (HasAcknowledged line.seen.mark) post.stations rank station keeps.lines here) line.below noted

pub sealed_stand : (post : PostPast) → IsSound post → SealedLinesAreAcknowledged post
sealed_stand post sound index rank place number sealing station token id is all below here noted =
    let one = all_at _ post.sealings index sealing sound.sealings is in
    below_kept sealing.number place number station token id
    (all_at (HasAcknowledged sealing.number) post.stations rank station
    (all_counted sealing.number sealing.progress post.stations all one.known) here) below noted

pub lines_are_kept : OverRuns LinesAreKept
lines_are_kept begun later sections sound safe runs rank index number was now token id line here there noted =
    let below = lines_stand begun safe rank index number was token id line here noted in
    let within = (all_at IsSoundStation begun.stations rank was sound.stations here).within in
    let on_tape = get_first was.tape.history.notes (was.queue ++ was.unsent) index (Owe number token id)
    (omega (arith, below, within)) noted in
    let one = zip_get (λ (x y : StationPast). IsRecovered x.tape y.tape) begun.stations later.stations rank now
    (recover_all begun later sections sound safe runs) there in
    let same = get_once begun.stations rank one.0 was one.1 here in
    let recovered : IsRecovered was.tape now.tape =
    subst (λ (s : StationPast). IsRecovered s.tape now.tape) (sym same) one.2 in
    EachLedger-weaker (IsPrefix now.tape.history) (OwesOrEnded now.tape.history.notes number token id)
    (λ state prefix. recovered.owes.owed index number token id on_tape below state prefix) now.tape.log
    recovered.prefix
