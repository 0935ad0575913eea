-- The error of a named tape.
use Rattle.std.specs.Prelude.{◌≡◌, ℕ, List, Some, option_map, slice_get}
use Rattle.std.proofs.Common.{sym, subst}
use Rattle.recovery.specs.declared.fault.TapeFault.{TapeFault}
use Rattle.intake.specs.Errors.{IsErrorOf, IsTapeError}
use Rattle.intake.specs.declared.run_error.RunError.{RunError}

-- The tape at this place is reported, by its name.
pub error_of_named : (names : List (List ℕ)) (place : ℕ) (name : List ℕ) (fault : TapeFault) (error : RunError)
    → slice_get names place ≡ Some name → IsTapeError name fault error
    → IsErrorOf (option_map (λ name. (name, fault)) (slice_get names place)) error
error_of_named names place name fault error at is =
    subst (λ found. IsErrorOf (option_map (λ name. (name, fault)) found) error) (sym at) is
