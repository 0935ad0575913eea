-- How much waits for a name, and the line of a summary that says so (docs/FORMATS.md).
use Rattle.std.specs.Prelude.{◌+◌, ◌-◌, ◌^◌, ◌==◌, [], ◌∷◌, ◌++◌, if◌then◌else◌, ℕ, List, Option, None, Some, codes}
use Rattle.std.specs.Prelude.{decimal, length, min}
use Rattle.ledger_core.specs.Keys.{key_text}
use Rattle.ledger_core.specs.State.{State, keys, line_octets, owed_bytes}
use Rattle.owed_list.specs.declared.summary.Waiting.{Waiting}

-- a figure, which stays at the greatest of 64 bits
abbrev pub figure : ℕ → ℕ
figure count = min count (2 ^ 64 - 1)

abbrev pub none_waits : Waiting
none_waits = record { articles = 0; octets = 0 }

-- one article more
abbrev pub with_article : Waiting → (token id : List ℕ) → Waiting
with_article waiting token id =
    record { articles = figure (waiting.articles + 1); octets = figure (waiting.octets + line_octets token id) }

-- both together
abbrev pub together : Waiting → Waiting → Waiting
together one other =
    record { articles = figure (one.articles + other.articles); octets = figure (one.octets + other.octets) }

-- what a ledger owes
abbrev pub waiting_of : State → Waiting
waiting_of state = record { articles = length state.debts; octets = owed_bytes state }

-- the first of these, if there is one
abbrev pub first_of : List ℕ → Option ℕ
first_of [] = None
first_of (key ∷ keys) = Some key

-- the key of the oldest debt: of the least number of a funnel line, or if there is none, of backlog files
abbrev pub oldest_of : State → Option ℕ
oldest_of state = first_of (keys state)

-- `-` if there is none
abbrev pub oldest_text : Option ℕ → List ℕ
oldest_text None = codes "-"
oldest_text (Some key) = key_text key

-- `-` if no article waits
abbrev pub octets_text : Waiting → List ℕ
octets_text waiting = if waiting.articles == 0 then codes "-" else decimal waiting.octets

-- the line of a name: how many articles wait, their octets, and the number of the oldest debt
abbrev pub summary_text : (name : List ℕ) → Waiting → (oldest : Option ℕ) → List ℕ
summary_text name waiting oldest =
    name ++ codes " " ++ decimal waiting.articles ++ codes " " ++ octets_text waiting ++ codes " " ++ oldest_text oldest
    ++ 10 ∷ []
