-- The file of accounts.
use Rattle.std.specs.Prelude.{◌≡◌, ◌⊎◌, ℕ, List, Vec}
use Rattle.std.specs.declared.alloc.Global.{Global}
use Rattle.feed_ends.specs.declared.feed_end.FileError.TheVariants.{Unread}
use Rattle.intake.specs.declared.run_error.RunError.{RunError}
use Rattle.intake.specs.declared.run_error.RunError.TheVariants.{OutOfResources, File}

-- The error that the file at this path cannot be read. If memory was refused, it is that.
abbrev pub IsUnreadAt : List ℕ → RunError → Type 0
IsUnreadAt path error =
    (error ≡ OutOfResources) ⊎ ((held : Vec ℕ Global) × (held.items ≡ path) × (error ≡ File (Unread held)))
