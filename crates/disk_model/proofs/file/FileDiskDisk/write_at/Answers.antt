use Rattle.disk_model.proofs.file.FileDiskDisk.write_at.Goals as goal

pub returns-in-Err-clause-asks : goal.returns-in-Err-clause-asks
returns-in-Err-clause-asks g c = λ _. rw c.fault-in-Err.ensures.file c.in-Err.ensures.asks
