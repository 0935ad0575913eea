use Rattle.disk_model.proofs.Pieces.{given_up}
use Rattle.disk_model.proofs.disk_file.DiskFileRawFile.pwrite.Goals as goal

pub returns-then-done-gt0-clause-log : goal.returns-then-done-gt0-clause-log
returns-then-done-gt0-clause-log g c = λ is. λ before. λ under_way. λ fault.
    given_up c.args.at c.args.from.now c.args.done before (g.D.Disk.log c.args.self.now.0) fault
    c.requires.done under_way
