use Rattle.flusher.specs.Post.{names_of}
use Rattle.feed_run.proofs.run.feed_open.Given as goal

-- the ledgers are named after their blanks and the stations
abbrev pub ghosts-work : goal.ghosts-work
ghosts-work g a = record { names = names_of a.blanks a.stations.items }
