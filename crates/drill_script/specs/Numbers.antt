-- The numbers of a script (docs/FORMATS.md): only digits, and at most 64 bits.
use Rattle.std.specs.Prelude.{ℕ, ◌^◌, nat_lt, if◌then◌else◌, List, Option, None, Some}
use Rattle.feed_conf.specs.Values.{is_number, decimal}

-- a number that fits into 64 bits
abbrev pub within_u64 : ℕ → Option ℕ
within_u64 number = if nat_lt number (2 ^ 64) then Some number else None

-- the number that these digits spell, if it fits into 64 bits
abbrev pub u64_of : List ℕ → Option ℕ
u64_of octets = if is_number octets then within_u64 (decimal 0 octets) else None
