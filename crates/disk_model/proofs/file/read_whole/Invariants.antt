use Rattle.std.proofs.Common.{◌≡◌, ◌↔◌, ◌≤◌, length, ℕ, List}
use Rattle.disk_model.specs.Disk.{content}
use Rattle.disk_model.specs.RawFile.{IsRead}
use Rattle.disk_model.specs.Asks.{WentOn}
use Rattle.disk_model.proofs.file.read_whole.Given as goal

abbrev pub invariant-loop-call : goal.invariant-loop-call
invariant-loop-call g l = record {
  within : l.done ≤ length l.into;
  honest : g.F.RawFile.honest l.initial.file ↔ g.F.RawFile.honest l.file;
  log : g.F.RawFile.honest l.initial.file → g.F.RawFile.log l.file ≡ g.F.RawFile.log l.initial.file;
  read : g.F.RawFile.honest l.initial.file
      → IsRead (content (g.F.RawFile.log l.initial.file)) l.at l.done l.into;
  went : WentOn
      (λ (old : g.row.F.Denot × List ℕ) done told new. g.F.RawFile.reads old.0 l.at old.1 done told new.1 new.0)
      (l.initial.file, l.initial.into) l._call l.done (l.file, l.into);
}
