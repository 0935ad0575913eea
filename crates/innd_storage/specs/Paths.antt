-- The files of articles below the directory `articles` of the spool (INN's storage/timehash and storage/tradspool).
use Rattle.std.specs.Prelude.{◌/◌, ◌%◌, ℕ, List, [], ◌∷◌, ◌++◌, codes, slice_index}
use Rattle.std.specs.Char.{digit_char}
use Rattle.std.specs.Fmt.{decimal}
use Rattle.std.specs.Int.{to_be_bytes, w16, w32}
use Rattle.innd_storage.specs.declared.token.TimehashToken.{TimehashToken}

-- an octet in hexadecimal digits of lower case
abbrev pub two_digits : ℕ → List ℕ
two_digits octet = digit_char (octet / 16) ∷ digit_char (octet % 16) ∷ []

-- an octet of a number, the highest first, in digits
abbrev pub arrival_digits : TimehashToken → ℕ → List ℕ
arrival_digits token index = two_digits (slice_index (to_be_bytes w32 token.arrival) index)

abbrev pub sequence_digits : TimehashToken → ℕ → List ℕ
sequence_digits token index = two_digits (slice_index (to_be_bytes w16 token.sequence) index)

-- the class, the second and third octet of the arrival, the sequence number, and the other octets of the arrival
abbrev pub timehash_path : TimehashToken → List ℕ
timehash_path token =
    codes "time-" ++ two_digits token.class ++ codes "/" ++ arrival_digits token 1 ++ codes "/"
    ++ arrival_digits token 2 ++ codes "/" ++ sequence_digits token 0 ++ sequence_digits token 1 ++ codes "-"
    ++ arrival_digits token 0 ++ arrival_digits token 3

-- the directory of the newsgroup, and the number in it
abbrev pub tradspool_path : List ℕ → ℕ → List ℕ
tradspool_path group number = group ++ (codes "/" ++ decimal number)
