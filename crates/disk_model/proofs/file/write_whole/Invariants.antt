use Rattle.std.proofs.Common.{◌↔◌, ◌≤◌, length}
use Rattle.disk_model.specs.RawFile.{UnderWay}
use Rattle.disk_model.specs.Asks.{WentOn}
use Rattle.disk_model.proofs.file.write_whole.Given as goal

abbrev pub invariant-loop-call : goal.invariant-loop-call
invariant-loop-call g l = record {
  within : l.done ≤ length l.from;
  honest : g.F.RawFile.honest l.initial.file ↔ g.F.RawFile.honest l.file;
  log : g.F.RawFile.honest l.initial.file
      → UnderWay l.at l.from l.done (g.F.RawFile.log l.initial.file) (g.F.RawFile.log l.file);
  went : WentOn (λ old done told new. g.F.RawFile.writes old l.at l.from done told new)
      l.initial.file l._call l.done l.file;
}
