-- The status of how a feed ended (docs/MANUAL.md).
use Rattle.std.specs.Prelude.{Bool, true, false, List, [], ◌∷◌}
use Rattle.cli.specs.declared.exit.Exit.{Exit}
use Rattle.cli.specs.declared.exit.Exit.TheVariants.{Done, Tape, Unreadable, NoMemory}
use Rattle.feed_ends.specs.declared.feed_end.FeedEnd.{FeedEnd}
use Rattle.feed_ends.specs.declared.feed_end.FileError.{FileError}
use Rattle.feed_ends.specs.declared.feed_end.TapeError.{TapeError}

-- the status, by the errors of tapes, whether memory, a thread or a system resource for sockets was refused, and the
-- errors of other files
abbrev pub worst : List TapeError → Bool → List FileError → Exit
worst (error ∷ more) lacks_resources files = Tape
worst [] true files = NoMemory
worst [] false (error ∷ more) = Unreadable
worst [] false [] = Done

-- errors of tapes go first, then refused resources, then errors of other files
abbrev pub exit_of_end : FeedEnd → Exit
exit_of_end end = worst end.tapes.items end.lacks_resources end.files.items
