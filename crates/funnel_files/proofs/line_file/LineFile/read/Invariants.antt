use Rattle.std.specs.Prelude.{◌≡◌}
use Rattle.std.specs.Io.KnownBytes.{Keeps}
use Rattle.funnel_files.proofs.line_file.LineFile.read.Given as goal

-- what was interrupted gave nothing
abbrev pub invariant-loop : goal.invariant-loop
invariant-loop g l = Keeps (g.R.Read.remaining l.initial.self.reader) (g.R.Read.remaining l.self.reader)
    × (l.self.cutter ≡ l.initial.self.cutter)
    × (l.self.has_rest ≡ l.initial.self.has_rest)
