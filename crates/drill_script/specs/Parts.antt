-- What the first word of a line says with the text after it: the forms of a line, cut at their first spaces.
use Rattle.std.specs.Prelude.{◌≡◌, ◌≢◌, ◌⊎◌, ◌==◌, ℕ, List, [], Option, None, Some, IsTrue, codes}
use Rattle.std.specs.List.{slice_split}
use Rattle.article_store.specs.declared.store.Found.TheVariants.{Article, Gone, Unsendable}
use Rattle.funnel.specs.Names.{is_peer_name}
use Rattle.drill_script.specs.Action.{ActionView, Hands, Receives, Supplies, Breaks, IsWritten, Spells, line_of}
use Rattle.drill_script.specs.StopRequest.{request_of}
use Rattle.drill_script.specs.Line.{NamesText}
use Rattle.drill_script.specs.Numbers.{u64_of}
use Rattle.drill_script.specs.Step.{StepView, Lines, Flushes, Begins, Parts, Seals, Connects, Acts, Ticks, Sheds}
use Rattle.drill_script.specs.Step.{Rotates}
use Rattle.drill_script.specs.Step.{Imports, Stops, Arms, Restarts}
use Rattle.drill_script.specs.Words.{IsCut}

-- a word says this action, with the text after the connection's number
abbrev pub ActionOf : List ℕ → Option (List ℕ) → ActionView → Type 0
ActionOf word None Hands = word ≡ codes "hand"
ActionOf word None (Receives octets) = ⊥
ActionOf word None (Supplies found) = ⊥
ActionOf word None Breaks = word ≡ codes "break"
ActionOf word (Some text) Hands = ⊥
ActionOf word (Some text) (Receives octets) =
    ((word ≡ codes "say") × (octets ≡ line_of text)) ⊎ ((word ≡ codes "raw") × Spells text octets)
ActionOf word (Some text) (Supplies (Article octets)) =
    (word ≡ codes "article") × (text ≢ codes "gone") × IsWritten text octets
ActionOf word (Some text) (Supplies Gone) = (word ≡ codes "article") × (text ≡ codes "gone")
ActionOf word (Some text) (Supplies Unsendable) = ⊥
ActionOf word (Some text) Breaks = ⊥

-- a word says this action of the connection with this number, with the text after the number
pub record SaysOn (word rest : List ℕ) (number : ℕ) (action : ActionView) : Type 0 where
  pub written : List ℕ
  pub text : Option (List ℕ)
  pub cut : IsCut rest written text
  pub connection : u64_of written ≡ Some number
  pub says : ActionOf word text action

-- a word says this step, with the text after it
abbrev pub StepOf : List ℕ → Option (List ℕ) → StepView → Type 0
StepOf word None (Lines text) = (word ≡ codes "line") × (text ≡ [])
StepOf word (Some rest) (Lines text) = (word ≡ codes "line") × (text ≡ rest)
StepOf word None Flushes = word ≡ codes "flush"
StepOf word (Some rest) Flushes = ⊥
StepOf word None Begins = word ≡ codes "begin"
StepOf word (Some rest) Begins = ⊥
StepOf word None (Parts name) = ⊥
StepOf word (Some rest) (Parts name) = (word ≡ codes "part") × IsTrue (is_peer_name rest) × (name ≡ rest)
StepOf word None Seals = word ≡ codes "seal"
StepOf word (Some rest) Seals = ⊥
StepOf word None (Connects name) = ⊥
StepOf word (Some rest) (Connects name) = (word ≡ codes "connect") × IsTrue (is_peer_name rest) × (name ≡ rest)
StepOf word None (Acts number action) = ⊥
StepOf word (Some rest) (Acts number action) = SaysOn word rest number action
StepOf word None (Ticks moment) = ⊥
StepOf word (Some rest) (Ticks moment) = (word ≡ codes "tick") × (u64_of rest ≡ Some moment)
StepOf word None (Sheds name) = ⊥
StepOf word (Some rest) (Sheds name) = (word ≡ codes "shed") × IsTrue (is_peer_name rest) × (name ≡ rest)
StepOf word None (Rotates name) = ⊥
StepOf word (Some rest) (Rotates name) = (word ≡ codes "rotate") × IsTrue (is_peer_name rest) × (name ≡ rest)
StepOf word None (Imports name text) = ⊥
StepOf word (Some rest) (Imports name text) = (word ≡ codes "import") × NamesText IsWritten rest name text
StepOf word None Stops = word ≡ codes "stop"
StepOf word (Some rest) Stops = ⊥
StepOf word None (Arms armed) = ⊥
StepOf word (Some rest) (Arms armed) =
    (word ≡ codes "stop") × (request_of (slice_split (λ octet. octet == 32) rest) ≡ Some armed)
StepOf word None Restarts = word ≡ codes "restart"
StepOf word (Some rest) Restarts = ⊥

-- a word with the text after it says neither an action of a connection nor that a backlog file is taken in
pub record SaysNoneBehind (word rest : List ℕ) : Type 0 where
  pub acts : (number : ℕ) (action : ActionView) → SaysOn word rest number action → ⊥
  pub imports : word ≡ codes "import" → (name octets : List ℕ) → NamesText IsWritten rest name octets → ⊥
