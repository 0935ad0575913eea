-- A note that an acknowledged line made is acknowledged at its peer.
use Rattle.std.proofs.Common.{◌≡◌, ◌<◌, ◌≤◌, ℕ, Some, List, inl, inr, arith}
use Rattle.std.specs.List.{slice_get}
use Rattle.std.proofs.lemmas.Bool.{cases_lt}
use Rattle.ledger_core.specs.declared.note.Note.TheVariants.{Owe}
use Rattle.recovery.specs.LeavingLaws.{each_may}
use Rattle.sections.specs.ListLaws.{all_at, drop_at}
use Rattle.sections.specs.Tapes.{IsAbove}
use Rattle.world_core.specs.Laws.{LinesAreAcknowledged}
use Rattle.world_core.specs.Past.{Past, PeerPast}
use Rattle.world_core.specs.Safe.{HasAcknowledged, IsSafe, KeepsLines}

-- if no note of a line up to a mark pends, each of them stands among the acknowledged ones
pub below_kept : (mark index number : ℕ) (token id : List ℕ) (peer : PeerPast) → HasAcknowledged mark peer
    → number ≤ mark → slice_get peer.tape.history.notes index ≡ Some (Owe number token id)
    → index < peer.tape.history.kept
below_kept mark index number token id peer has below noted = elim (cases_lt index peer.tape.history.kept) [
  | inl less ↦ less
  | inr more ↦ absurd (
      let above = drop_at (IsAbove mark) peer.tape.history.kept index peer.tape.history.notes (Owe number token id) has
      more noted in
      omega (arith, above, below))
]

pub lines_stand : (past : Past) → IsSafe past → LinesAreAcknowledged past
lines_stand past safe rank index number peer token id line here noted =
    let keeps = each_may (KeepsLines past.intake.history past.peers) past.intake.log line.seen safe.intake line.may in
    below_kept line.seen.mark index number token id peer
    (all_at (HasAcknowledged line.seen.mark) past.peers rank peer keeps.lines here) line.below noted
