use Rattle.std.proofs.Common.{arith}
use Rattle.article_store.proofs.Pieces.{read_as}
use Rattle.article_store.proofs.folder.read_judged.Goals as goal

pub returns-clause-whole : goal.returns-clause-whole
returns-clause-whole g c =
    let said = rw c.deref.ensures.value at c.in_ok-judge.ensures.said in
    read_as 16777217 (λ text sent. omega (arith, sent.short)) _ _ _ c.in_ok-count.ensures.whole
    c.in_ok-judge.ensures.sendable
    said
