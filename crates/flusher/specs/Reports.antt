-- What is reported of a front once a flush of its tape has failed.
use Rattle.std.specs.Prelude.{◌≡◌}
use Rattle.flusher.specs.declared.front_desk.FrontDesk.{FrontDesk}
use Rattle.flusher.specs.declared.naming.Naming.{Ghosts}

module _ {N : Type 0} {n : Ghosts N} where
  -- These two stay as they were: whether a flush or a rotation has failed, and what the tape counted at the last one
  -- that succeeded, or when it was opened.
  pub record KeepsReport (old new : FrontDesk N n) : Type 0 where
    pub has_failed : new.has_failed ≡ old.has_failed
    pub acknowledged : new.acknowledged ≡ old.acknowledged
