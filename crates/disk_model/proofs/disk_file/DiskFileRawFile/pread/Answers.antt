use Rattle.std.proofs.Common.{◌+◌, ◌-◌, ◌≤◌, length, arith}
use Rattle.std.proofs.lemmas.Grind.{common_steps}
use Rattle.disk_model.specs.Disk.{content}
use Rattle.disk_model.proofs.Pieces.{read_on}
use Rattle.disk_model.proofs.disk_file.DiskFileRawFile.pread.Goals as goal

pub returns-in-Ok-clause-read : goal.returns-in-Ok-clause-read
returns-in-Ok-clause-read g c = λ is. λ begun.
    let octets = content (g.D.Disk.log c.args.self.now.0) in
    let done = c.args.done in
    let count = c.min-count.result in
    let into = c.args.into.now in
    let within : done + count ≤ length into = grind (arith, common_steps) in
    read_on octets c.args.at done count (done + count - done) into c.read_at.new.into within
    (omega arith) c.read_at.auto.into begun (c.in-Ok.ensures.read is)
