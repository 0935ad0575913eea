-- The names of the files of requests and answers, and whose requests are taken (profile).
use Rattle.std.specs.Prelude.{◌==◌, ℕ, Bool, List, ◌∷◌, ◌++◌, codes, decimal, nat_lt, not, bit_and, if◌then◌else◌}
use Rattle.std.specs.Prelude.{Option, Some, None}
use Rattle.requests.specs.declared.files.PassedReason.{PassedReason}
use Rattle.requests.specs.declared.files.PassedReason.TheVariants.{NoFile, OtherOwner, OthersWrite, TooOld}

-- the file of the request of the process with this id
abbrev pub ask_name : ℕ → List ℕ
ask_name pid = codes "~ask." ++ decimal pid

-- the file of the answer to it
abbrev pub answer_name : ℕ → List ℕ
answer_name pid = codes "~answer." ++ decimal pid

-- what a file is called while it is made
abbrev pub new_name : List ℕ → List ℕ
new_name name = name ++ codes ".new"

-- a file in a directory
abbrev pub path_in : List ℕ → List ℕ → List ℕ
path_in directory name = directory ++ 47 ∷ name

-- why a file with this age in seconds is passed over in a directory with this owner
abbrev pub passed_for : (owner oldest : ℕ) → (is_file : Bool) → (uid mode age : ℕ) → Option PassedReason
passed_for owner oldest is_file uid mode age =
    if not is_file then Some NoFile
    else (if not (uid == owner) then Some OtherOwner
    else (if not (bit_and mode 18 == 0) then Some OthersWrite
    else (if nat_lt oldest age then Some TooOld else None)))
