-- Octets after the last LF (profile).
use Rattle.std.specs.Prelude.{◌==◌, ℕ, Bool, not, List, fold}

-- whether a rest without LF is left after these octets, if one was left before them
abbrev pub leaves_rest : Bool → List ℕ → Bool
leaves_rest before octets = fold (λ (left : Bool) octet. not (octet == 10)) before octets
