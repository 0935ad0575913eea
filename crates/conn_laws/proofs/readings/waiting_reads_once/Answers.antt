-- The readings of octets that wait.
use Rattle.conn_laws.proofs.Waiting.{fault-apart, long-apart, short-apart, some-reading, whole-apart}
use Rattle.conn_laws.proofs.readings.waiting_reads_once.Goals as goal

pub returns-clause-some : goal.returns-clause-some
returns-clause-some c = some-reading

pub returns-clause-fault : goal.returns-clause-fault
returns-clause-fault c = fault-apart

pub returns-clause-short : goal.returns-clause-short
returns-clause-short c = short-apart

pub returns-clause-whole : goal.returns-clause-whole
returns-clause-whole c = λ unread rest given. whole-apart unread rest given

pub returns-clause-one : goal.returns-clause-one
returns-clause-one c = long-apart
