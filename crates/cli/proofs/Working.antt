-- What feeds is asked by the settings that a file has.
use Rattle.std.proofs.Common.{◌≡◌, ◌⊎◌, ℕ, Bool, List, Option, Some, Ok, inl, inr}
use Rattle.feed_conf.specs.Settings.{Outcome}
use Rattle.feed_ends.specs.declared.feed_end.FeedEnd.{FeedEnd}
use Rattle.cli.specs.Ends.{Means, TriesOn, Works}
use Rattle.cli.specs.declared.exit.Exit.{Exit}

pub works_by : (says : Option (List ℕ) → Type 0) (stranger : Outcome → Option (List ℕ))
    (did : Outcome → FeedEnd → Type 0) (unasked : Type 0) (path : List ℕ) (verbose : Bool) (old new : Option (List ℕ))
    (text : List ℕ) (outcome : Outcome) → says (Some text) → Means text (Ok outcome)
    → (exit : Exit) (line : Option (List ℕ)) → TriesOn stranger did unasked path old new outcome exit line
    → Works says stranger did unasked path verbose old new exit line
works_by says stranger did unasked path verbose old new text outcome read means exit line (inl works) =
    inl (text, outcome, read, means, works)
works_by says stranger did unasked path verbose old new text outcome read means exit line (inr lacks) =
    inr (inr (inr lacks))
