-- What a drill prints (docs/FORMATS.md): the lines of its steps are those of the world.
use Rattle.std.specs.Prelude.{ℕ, List, [], ◌∷◌, ◌++◌, codes, decimal, flat_map}
use Rattle.ledger_core.specs.declared.ledger.Totals.{Totals}
use Rattle.world_core.specs.Fault.{fault_name}
use Rattle.world_core.specs.Lines.{line_text}
use Rattle.world_core.specs.Output.{View}
use Rattle.world_core.specs.declared.fault.Fault.{Fault}

-- what a step outputs, a line each
abbrev pub step_text : List View → List ℕ
step_text said = flat_map line_text said

-- what steps output, one after another
abbrev pub steps_text : List (List View) → List ℕ
steps_text lines = flat_map step_text lines

-- a peer's counts, by its name
abbrev pub totals_text : List ℕ × Totals → List ℕ
totals_text (name, totals) =
    name ++ codes " taken " ++ decimal totals.taken ++ codes " answered " ++ decimal totals.answered
    ++ codes " dropped " ++ decimal totals.dropped ++ codes " owed " ++ decimal totals.owed
    ++ codes " bytes " ++ decimal totals.owed_bytes ++ 10 ∷ []

-- how many steps were taken, at the end
abbrev pub end_text : ℕ → List ℕ
end_text steps = codes "end " ++ decimal steps ++ 10 ∷ []

-- the first line that breaks the rules of a script
abbrev pub broken_text : ℕ → List ℕ
broken_text line = codes "script " ++ decimal line ++ 10 ∷ []

-- the step that was refused, and why
abbrev pub refused_text : ℕ → Fault → List ℕ
refused_text step fault = codes "step " ++ decimal step ++ codes ": " ++ fault_name fault ++ 10 ∷ []
