-- What is found under the name of a request (profile).
use Rattle.std.specs.Prelude.{◌≡◌, ℕ, List, string_bytes}
use Rattle.requests.specs.Names.{answer_name, ask_name, path_in}
use Rattle.requests.specs.declared.take.Found.{Found}
use Rattle.requests.specs.declared.take.Found.TheVariants.{Taken, PassedOver}
use Rattle.requests.specs.declared.take.PassedOver.TheVariants.{Passed, Failed}

-- it is that of this process: a request is answered under its id, and a file is told by its path
abbrev pub IsOfProcess : (directory : List ℕ) → (pid : ℕ) → Found → Type 0
IsOfProcess directory pid (Taken taken) =
    (taken.pid ≡ pid) × (string_bytes taken.answer ≡ path_in directory (answer_name pid))
IsOfProcess directory pid (PassedOver (Passed path reason)) = string_bytes path ≡ path_in directory (ask_name pid)
IsOfProcess directory pid (PassedOver (Failed fault)) = Unit {0}
