use Rattle.std.specs.Prelude.{[]}
use Rattle.funnel_files.specs.Funnel.{IsPassing}
use Rattle.funnel.specs.Stream.{StandsFor}
use Rattle.funnel_files.proofs.line_file.LineFile.skip.Given as goal

-- what was read so far ends some of the lines
abbrev pub invariant-loop : goal.invariant-loop
invariant-loop g l = IsPassing l.lines l.left (g.R.Read.remaining l.initial.self.reader)
    (g.R.Read.remaining l.self.reader)
    × StandsFor l.self.cutter [] []
