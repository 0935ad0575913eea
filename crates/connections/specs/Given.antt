-- What became of a debt, as a connection gave it (profile).
use Rattle.std.specs.Prelude.{List, [], ◌∷◌, Option, Some, None}
use Rattle.conn_core.specs.declared.outcome.Outcome.{Outcome}
use Rattle.conn_core.specs.declared.outcome.Outcome.TheVariants.{Final, Deferred, Lost, Back}

-- the outcome that was given, if there is one
abbrev pub outcomes_in : Option Outcome → List Outcome
outcomes_in None = []
outcomes_in (Some outcome) = outcome ∷ []

-- its debt has not ended: it was lost, or goes back
abbrev pub IsReturned : Outcome → Type 0
IsReturned (Lost debt cause) = Unit {0}
IsReturned (Back debt) = Unit {0}
IsReturned (Final verdict) = ⊥
IsReturned (Deferred deferral) = ⊥
