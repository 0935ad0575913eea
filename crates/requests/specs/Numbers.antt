-- Numbers in decimal, each with one spelling (profile): no sign and no leading zero.
use Rattle.std.specs.Prelude.{◌^◌, ◌&&◌, ℕ, Bool, if◌then◌else◌, nat_lt, List, Option, Some, None, is_some, decimal}
use Rattle.std.specs.Str.{bytes_eq}
use Rattle.std.specs.Str.Parse.{digits_value}

-- the number below 2 ^ 64 that a text writes
abbrev pub number_in : List ℕ → Option ℕ
number_in text =
    let number = digits_value 10 text in
    if nat_lt number (2 ^ 64) && bytes_eq text (decimal number) then Some number else None

abbrev pub is_number : List ℕ → Bool
is_number text = is_some (number_in text)
