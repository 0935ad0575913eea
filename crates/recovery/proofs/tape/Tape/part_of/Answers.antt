-- A part of a payload on the disk.
use Rattle.std.proofs.Common.{Err, ap}
use Rattle.recovery.proofs.Counts.{live_risen}
use Rattle.recovery.proofs.Readings.{read_kept}
use Rattle.recovery.proofs.tape.Tape.part_of.Goals as goal

pub returns-in-Err-Disk-clause-cause : goal.returns-in-Err-Disk-clause-cause
returns-in-Err-Disk-clause-cause g c = λ prefix more payload holds at told.
    live_risen c.args.self.now.segments.second _ _ _
    (c.in-Err-Disk.ensures.cause prefix more payload holds at (ap Err c.in-Err-Disk.field-0-is))

pub returns-in-Ok-clause-reads : goal.returns-in-Ok-clause-reads
returns-in-Ok-clause-reads g c =
    read_kept c.args.self.now c.part_at.new.self _ c.in-Ok.ensures.keeps c.in-Ok.ensures.continues

pub returns-in-Err-NoMemory-clause-reads : goal.returns-in-Err-NoMemory-clause-reads
returns-in-Err-NoMemory-clause-reads g c =
    let said = c.in-Err-NoMemory.ensures in
    read_kept c.args.self.now c.part_at.new.self _ said.keeps said.continues

pub returns-in-Err-Disk-clause-reads : goal.returns-in-Err-Disk-clause-reads
returns-in-Err-Disk-clause-reads g c =
    let said = c.in-Err-Disk.ensures in
    read_kept c.args.self.now c.part_at.new.self _ said.keeps said.continues
