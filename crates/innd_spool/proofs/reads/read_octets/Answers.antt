-- All octets that have a text, or as many as are read.
use Rattle.innd_spool.proofs.Pieces.{read_whole}
use Rattle.innd_spool.proofs.reads.read_octets.Goals as goal

pub returns-clause-whole : goal.returns-clause-whole
returns-clause-whole g c =
    let read = c.in_ok-count.ensures in
    read_whole 16777217 c.args.form _ _ _ _ read.gave read.within read.short read.end
