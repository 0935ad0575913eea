-- Where an octet stands.
use Rattle.std.specs.Prelude.{◌==◌, ℕ, List}
use Rattle.std.specs.List.{position_or_len}

-- where an octet stands first, or how many octets there are
unfoldable pub place_of : ℕ → List ℕ → ℕ
place_of octet octets = position_or_len (λ other. other == octet) octets
