use Rattle.std.proofs.Common.{Global, Vec, inl, ℕ}
use Rattle.std.specs.Prelude.{option_map}
use Rattle.cli.specs.Ends.{Checks, PrintsBeside, reported}
use Rattle.cli.proofs.Reporting.{comes_as}
use Rattle.cli.proofs.runner.check_file.Goals as goal

pub returns-in_ok-check-in-Ok : goal.returns-in_ok-check-in-Ok
returns-in_ok-check-in-Ok g c =
    let outcome = c.in_ok-check-in-Ok.ensures in
    let checked = c.in_ok-check-in-Ok.field-0 in
    let means = rw c.deref.ensures.value at outcome.1 in
    let old = g.W.Write.contents c.args.out.now in
    let new = g.W.Write.contents c.print_checked.new.out in
    let said = option_map (λ (lines : Vec ℕ Global). lines.items) checked.advice in
    comes_as (PrintsBeside said checked.report.items old new)
    (Checks (g.F.ReadFile.says c.args.files.now c.args.path.now) (reported c.args.verbose c.args.path.now)
    c.args.path.now c.args.verbose old new)
    (λ exit line prints. inl (
      c.in-Ok.text.items,
      c.in-Ok.ensures.read,
      (outcome.0, means, rw (outcome.2, outcome.3) at prints),
    ))
    c.print_checked.result c.print_checked.ensures
