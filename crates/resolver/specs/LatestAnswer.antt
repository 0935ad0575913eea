-- The latest answer for a host (profile).
use Rattle.std.specs.Prelude.{◌≡◌, ℕ, ◌+◌, ◌-◌, ◌^◌, ◌⊎◌, min, Option, Some, None, string_bytes}
use Rattle.resolver.specs.declared.host.Answer.{Answer}
use Rattle.resolver.specs.declared.host.Answer.TheVariants.{Found, Unknown}
use Rattle.resolver.specs.declared.latest_answer.LatestAnswer.{LatestAnswer}

-- the two say the same
abbrev pub SaysSame : Answer → Answer → Type 0
SaysSame (Found some) (Found others) = some.items ≡ others.items
SaysSame (Unknown some) (Unknown other) = string_bytes some ≡ string_bytes other
SaysSame (Found some) (Unknown other) = ⊥
SaysSame (Unknown some) (Found others) = ⊥

-- there was no answer
abbrev pub nothing : LatestAnswer
nothing = record { count = 0; answer = None }

-- this answer is the latest; the count stops at the greatest number of its type
abbrev pub with_answer : LatestAnswer → Answer → LatestAnswer
with_answer latest answer = record { count = min (latest.count + 1) (2 ^ 64 - 1); answer = Some answer }

-- the answer says what the latest says
abbrev pub IsLatest : Option Answer → Answer → Type 0
IsLatest None answer = ⊥
IsLatest (Some latest) answer = SaysSame answer latest

-- what a caller who has seen this many answers gets: the latest and how many there were, unless there were exactly as
-- many
abbrev pub IsNews : LatestAnswer → ℕ → Option (ℕ × Answer) → Type 0
IsNews latest seen None = (latest.answer ≡ None) ⊎ (latest.count ≡ seen)
IsNews latest seen (Some (count, answer)) =
    (count ≡ latest.count) × ((count ≡ seen → ⊥) × IsLatest latest.answer answer)
