use Rattle.funnel_files.specs.Funnel.{IsBehind}
use Rattle.funnel_files.proofs.line_file.behind.Given as goal

-- the lines so far come before the rest
abbrev pub invariant-loop-passed : goal.invariant-loop-passed
invariant-loop-passed l = IsBehind l.passed l.piece l.rest
