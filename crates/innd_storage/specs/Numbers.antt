-- Numbers as innd's files have them: digits, and octets of C structures.
use Rattle.std.specs.Prelude.{◌&&◌, ◌+◌, ◌^◌, ℕ, if◌then◌else◌, nat_lt, List, [], ◌∷◌, length, slice_index}
use Rattle.std.specs.Prelude.{Option, Some, None}
use Rattle.std.specs.Char.{is_digit}
use Rattle.std.specs.Int.{from_be_bytes, w32}
use Rattle.std.specs.List.{list_all}
use Rattle.std.specs.Str.Parse.{digits_value}

-- the number that one or more digits of this radix write, if it is below 2 ^ 64
unfoldable pub number_of : ℕ → List ℕ → Option ℕ
number_of radix digits =
    if nat_lt 0 (length digits) && list_all (λ octet. is_digit octet radix) digits
    && nat_lt (digits_value radix digits) (2 ^ 64)
    then Some (digits_value radix digits)
    else None

-- the number of four octets, the highest first
unfoldable pub number_at : List ℕ → ℕ → ℕ
number_at octets at =
    from_be_bytes w32
    (slice_index octets at ∷ slice_index octets (at + 1) ∷ slice_index octets (at + 2) ∷ slice_index octets (at + 3)
    ∷ [])
