use Rattle.std.proofs.Common.{◌≡◌, map, take}
use Rattle.recovery.specs.Notes.{History}
use Rattle.recovery.specs.Tape.{IsRead, StandsFor}
use Rattle.recovery.specs.Texts.{debts_at, lengths_of}
use Rattle.recovery.specs.Words.{faults_of, ledger_of}
use Rattle.recovery.proofs.tape.Tape.debts_each.Given as goal

abbrev pub invariant-loop-key : goal.invariant-loop-key
invariant-loop-key g l = record {
  reads : IsRead l.initial.self l.self;
  quiet : faults_of l.self ≡ faults_of l.initial.self;
  debts : (h : History) → StandsFor l.initial.self h
      → l.debts.items ≡ debts_at (ledger_of l.initial.self) (take l.key-index l.keys);
  owed : map lengths_of l.debts.items ≡ map lengths_of (debts_at (ledger_of l.initial.self) (take l.key-index l.keys));
}
