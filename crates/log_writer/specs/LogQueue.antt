-- The lines of a log that wait to be written, and those that are missing (profile).
use Rattle.std.specs.Prelude.{◌≡◌, ℕ, ◌+◌, ◌-◌, ◌^◌, ◌==◌, List, [], ◌∷◌, ◌++◌, length, min}
use Rattle.std.specs.Prelude.{Some, None, if◌then◌else◌}
use Rattle.std.specs.Global.{Vec}
use Rattle.log_writer.specs.declared.log_queue.Portion.{Portion}

-- the lines that wait, the oldest first, each with how many are missing before it, and how many are missing behind them
pub record State : Type 0 where
  pub waiting : List Portion
  pub missing : ℕ

-- one more line waits, with those that are missing before it
abbrev pub with_line : State → Vec ℕ → State
with_line state line =
    record { waiting = state.waiting ++ record { missing = state.missing; line = Some line } ∷ []; missing = 0 }

-- one more is missing at the end; the count stops at the greatest number of its type
abbrev pub lost : State → State
lost state = record { waiting = state.waiting; missing = min (state.missing + 1) (2 ^ 64 - 1) }

-- what is to be written at the end, where so many lines are missing
abbrev pub end_of : ℕ → List Portion
end_of missing = if missing == 0 then [] else record { missing = missing; line = None } ∷ []

-- all that is to be written, in order
abbrev pub portions_of : State → List Portion
portions_of state = state.waiting ++ end_of state.missing

-- the line of a portion, if it has one
abbrev pub line_of : Portion → List (List ℕ)
line_of portion = elim portion.line [ None ↦ [] | Some line ↦ line.items ∷ [] ]

-- These portions tell of these lines: each line is written, or is one of those that are counted as missing in its place
abbrev pub Tells : List Portion → List (List ℕ) → Type 0
Tells [] lines = lines ≡ []
Tells (portion ∷ others) lines =
    (absent rest : List (List ℕ)) × (lines ≡ absent ++ (line_of portion ++ rest)) × (length absent ≡ portion.missing)
    × Tells others rest

-- what was written, and then what is to be written, tells of all lines that were put
abbrev pub StandsFor : State → List Portion → List (List ℕ) → Type 0
StandsFor state written lines = Tells (written ++ portions_of state) lines
