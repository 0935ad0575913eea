use Rattle.std.proofs.Common.{[], ℕ, List}
use Rattle.std.specs.Prelude.{OnOk}
use Rattle.tape_journal.specs.Records.{HasComeTo, left_of}
use Rattle.ledger_core.specs.Restoring.{HasTaken}
use Rattle.recovery.proofs.Judging.{IsSameDisk}
use Rattle.recovery.proofs.read.judge_each.Given as goal

abbrev pub invariant-loop-restoring : goal.invariant-loop-restoring
invariant-loop-restoring g l = record {
  come : HasComeTo l.fn.reader [] → (payloads : List (List ℕ)) × HasComeTo l.reader payloads
      × OnOk l.judged (HasTaken l.restoring payloads);
  same : IsSameDisk l.fn.reader l.reader;
}

abbrev pub decreases-loop-restoring : goal.decreases-loop-restoring
decreases-loop-restoring g l = left_of l.reader
