-- What may be sent as a user or a password, and the commands that send them (RFC 4643, section 2.3).
use Rattle.std.specs.Prelude.{◌&&◌, ℕ, Bool, List, [], ◌∷◌, ◌++◌, codes, length, nat_le, nat_lt}
use Rattle.std.specs.List.{list_all}

-- a printable octet of ASCII that is no blank
abbrev pub is_printable : ℕ → Bool
is_printable octet = nat_le 33 octet && nat_le octet 126

-- the most octets of a user or a password, with which the command is a line of 512 octets (RFC 3977, section 3.1)
abbrev pub longest_argument : ℕ
longest_argument = 496

-- printable octets without a blank, of which there is one, and not more than a command line takes
abbrev pub is_argument : List ℕ → Bool
is_argument octets = nat_lt 0 (length octets) && nat_le (length octets) longest_argument && list_all is_printable octets

-- the line that sends a user
abbrev pub user_line : List ℕ → List ℕ
user_line user = codes "AUTHINFO USER " ++ user ++ 13 ∷ 10 ∷ []

-- the line that sends a password
abbrev pub password_line : List ℕ → List ℕ
password_line password = codes "AUTHINFO PASS " ++ password ++ 13 ∷ 10 ∷ []
