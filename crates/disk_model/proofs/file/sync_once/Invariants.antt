use Rattle.std.proofs.Common.{◌≡◌, ◌↔◌}
use Rattle.disk_model.specs.Asks.{WereInterrupted}
use Rattle.disk_model.proofs.file.sync_once.Given as goal

abbrev pub invariant-loop-try : goal.invariant-loop-try
invariant-loop-try g l = record {
  honest : g.F.RawFile.honest l.initial.file ↔ g.F.RawFile.honest l.file;
  log : g.F.RawFile.honest l.initial.file → g.F.RawFile.log l.file ≡ g.F.RawFile.log l.initial.file;
  interrupted : WereInterrupted g.F.RawFile.syncs l.initial.file l._try l.file;
}
