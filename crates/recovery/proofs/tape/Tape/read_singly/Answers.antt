use Rattle.recovery.proofs.Readings.{read_so}
use Rattle.recovery.proofs.tape.Tape.read_singly.Goals as goal

pub returns-clause-reads : goal.returns-clause-reads
returns-clause-reads g c =
    let said = c.read_singly.ensures in
    read_so c.args.self.now c.read_singly.new.self _ said.disk said.end said.works said.stays
