-- The segment of a tape, whose payloads are judged as they are read.
use Rattle.std.specs.Prelude.{ℕ, List, length}
use Rattle.disk_model.specs.declared.Disk.{Ghosts}
use Rattle.tape_journal.specs.Records.{HasEnded}
use Rattle.tape_journal.specs.declared.records.SegmentReader.{SegmentReader}
use Rattle.ledger_core.specs.Base.{Restores}
use Rattle.ledger_core.specs.Index.{Indexes}
use Rattle.ledger_core.specs.Ledger.{state_of}
use Rattle.ledger_core.specs.Restoring.{HasTaken}
use Rattle.ledger_core.specs.declared.restore.Restored.{Restored}
use Rattle.ledger_core.specs.declared.restoring.Restoring.{Restoring}

module _ {D : Type 0} {g : Ghosts D} where
  -- the segment was read to its end, and each of its payloads was judged
  pub record HasJudged (reader : SegmentReader D g) (restoring : Restoring) : Type 0 where
    pub payloads : List (List ℕ)
    pub ended : HasEnded reader payloads
    pub taken : HasTaken restoring payloads

  -- the segment was read to its end, and its payloads leave this ledger, which says where its debts are among them
  pub record LeavesLedger (reader : SegmentReader D g) (restored : Restored) : Type 0 where
    pub payloads : List (List ℕ)
    pub ended : HasEnded reader payloads
    pub restores : Restores payloads restored.generation (state_of restored.ledger)
    pub indexes : Indexes (length payloads) payloads restored.ledger
