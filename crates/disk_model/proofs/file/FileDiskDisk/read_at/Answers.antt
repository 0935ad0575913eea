use Rattle.disk_model.proofs.file.FileDiskDisk.read_at.Goals as goal

pub returns-in-Err-clause-asks : goal.returns-in-Err-clause-asks
returns-in-Err-clause-asks g c = rw c.fault.ensures.file c.in-Err.ensures.asks
