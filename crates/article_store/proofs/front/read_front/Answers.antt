-- The reader's octets up to its end, or as many as are read.
use Rattle.article_store.proofs.Pieces.{read_whole}
use Rattle.article_store.proofs.front.read_front.Goals as goal

pub returns-clause-whole : goal.returns-clause-whole
returns-clause-whole g c =
    let read = c.in_ok-count.ensures in
    read_whole _ _ _ _ 16777217 read.gave read.within read.short read.end
