use Rattle.kept_lines.proofs.Files.{kept_by_nothing}
use Rattle.kept_lines.proofs.kept_file.KeptFile.add.Goals as goal

pub returns-then-is_empty-clause-moments : goal.returns-then-is_empty-clause-moments
returns-then-is_empty-clause-moments g c honest works =
    kept_by_nothing (g.D.Disk.log c.args.self.now.disk) (c.args.self.now.only works honest)
