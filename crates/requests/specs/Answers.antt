-- Answers (docs/FORMATS.md, profile): a line that says what was done, and then any text.
use Rattle.std.specs.Prelude.{◌≢◌, ℕ, List, ◌∷◌, ◌++◌, codes}
use Rattle.requests.specs.declared.answer.AnswerStatus.{AnswerStatus}
use Rattle.requests.specs.declared.answer.AnswerStatus.TheVariants.{Done, Refused, Begun}

-- the first line, without its LF
abbrev pub status_text : AnswerStatus → List ℕ
status_text Done = codes "done"
status_text Refused = codes "refused"
status_text Begun = codes "begun"

-- the octets of an answer
abbrev pub answer_text : AnswerStatus → List ℕ → List ℕ
answer_text status text = status_text status ++ 10 ∷ text

-- they are no answer
abbrev pub IsNoAnswer : List ℕ → Type 0
IsNoAnswer octets = (status : AnswerStatus) (text : List ℕ) → octets ≢ answer_text status text
