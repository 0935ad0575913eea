use Rattle.innd_spool.proofs.buffer_article.find_front.Goals as goal

-- what came behind the head is a part of what came
pub returns-clause-text : goal.returns-clause-text
returns-clause-text g c size = c.in_ok-count.ensures.parts 24 size
