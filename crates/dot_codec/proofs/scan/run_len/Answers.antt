use Rattle.dot_codec.proofs.Offsets.{run_found}
use Rattle.dot_codec.proofs.scan.run_len.Goals as goal

pub returns-clause-within : goal.returns-clause-within
returns-clause-within c = rw c.unwrap_or.ensures (run_found c.args.octets.now c.next.result c.memchr3_iter.result c.next.new.self c.memchr3_iter.ensures.value c.next.ensures.steps).0

pub returns-clause-run : goal.returns-clause-run
returns-clause-run c = rw c.unwrap_or.ensures (run_found c.args.octets.now c.next.result c.memchr3_iter.result c.next.new.self c.memchr3_iter.ensures.value c.next.ensures.steps).1

pub returns-clause-end : goal.returns-clause-end
returns-clause-end c = rw c.unwrap_or.ensures (run_found c.args.octets.now c.next.result c.memchr3_iter.result c.next.new.self c.memchr3_iter.ensures.value c.next.ensures.steps).2
