-- Suspects: articles at which connections failed, in this run or an earlier one (profile).
use Rattle.std.specs.Prelude.{◌+◌, ◌-◌, ◌^◌, ◌==◌, ◌&&◌, not, ℕ, Bool, true, false, min, nat_le, length}
use Rattle.std.specs.Prelude.{if◌then◌else◌, List, [], ◌∷◌, ◌++◌, Option, Some, None, drop, filter}
use Rattle.std.specs.Str.{bytes_eq}
use Rattle.connections.specs.declared.last_stage.ClaimStep.{ClaimStep}
use Rattle.connections.specs.declared.last_stage.ClaimStep.TheVariants.{Offer, PutOff}
use Rattle.connections.specs.declared.suspect_list.Suspect.{Suspect}
use Rattle.connections.specs.declared.suspect_list.SuspectState.{SuspectState}
use Rattle.connections.specs.declared.suspect_list.SuspectState.TheVariants.{Pending, Met}

-- The moment of the last stage at which the suspect with this place is offered: 4,096 moments before the last one.
abbrev pub stage_moment : (place : ℕ) → ℕ
stage_moment place = 2 ^ 64 - 4097 + min place 4095

-- What to do about a debt that was claimed, with its place if it is a suspect that was not offered in this run. In the
-- last stage such a suspect is offered, and nothing else is. Before it such a suspect waits for its moment of that
-- stage, or for a minute if the run goes on until it is ended.
abbrev pub claim_step : (now : ℕ) → (place : Option ℕ) → (is_lasting is_last_stage : Bool) → ClaimStep
claim_step now (Some place) is_lasting true = Offer
claim_step now None is_lasting true = PutOff (2 ^ 64 - 1)
claim_step now (Some place) true false = PutOff (min (now + 60) (2 ^ 64 - 1))
claim_step now (Some place) false false = PutOff (stage_moment place)
claim_step now None is_lasting false = Offer

-- whether a suspect is the article with this token and message-id
abbrev pub is_of : (token id : List ℕ) → Suspect → Bool
is_of token id suspect = bytes_eq suspect.token token && bytes_eq suspect.id id

-- the place of a suspect of an earlier run that was not offered in this one
abbrev pub place_of : SuspectState → Option ℕ
place_of (Pending place) = Some place
place_of (Met key) = None

-- whether it is such a suspect, with this place
abbrev pub is_at : ℕ → SuspectState → Bool
is_at place (Pending other) = other == place
is_at place (Met key) = false

-- whether a suspect's debt of this run has this key
abbrev pub has_key : ℕ → SuspectState → Bool
has_key key (Pending place) = false
has_key key (Met other) = other == key

-- the first number, or else the second
abbrev pub first_of : Option ℕ → Option ℕ → Option ℕ
first_of None second = second
first_of (Some number) second = Some number

-- the first place that these give
abbrev pub first_place_by : (Suspect → Option ℕ) → List Suspect → Option ℕ
first_place_by place_in [] = None
first_place_by place_in (suspect ∷ others) = first_of (place_in suspect) (first_place_by place_in others)

-- the place of the first of these that is pending
abbrev pub first_place : List Suspect → Option ℕ
first_place suspects = first_place_by (λ suspect. place_of suspect.state) suspects

-- the place of a suspect that is this article and pending
abbrev pub place_for : (token id : List ℕ) → Suspect → Option ℕ
place_for token id suspect = if is_of token id suspect then place_of suspect.state else None

-- the place of the first of these that is this article and pending
abbrev pub place : (token id : List ℕ) → List Suspect → Option ℕ
place token id suspects = first_place_by (place_for token id) suspects

abbrev pub has_some : Option ℕ → Bool
has_some None = false
has_some (Some number) = true

-- a suspect after the debt of this key, token and message-id was offered, or no longer waits for the last stage
abbrev pub met : ℕ → (token id : List ℕ) → Suspect → Suspect
met key token id suspect =
    if has_some (place_for token id suspect) then record suspect { state = Met key } else suspect

-- those that remain once the debt of this key has ended
abbrev pub without : (key : ℕ) → List Suspect → List Suspect
without key suspects = filter (λ suspect. not (has_key key suspect.state)) suspects

-- those that remain once nothing that waits is the pending suspect with this place
abbrev pub without_place : (place : ℕ) → List Suspect → List Suspect
without_place place suspects = filter (λ suspect. not (is_at place suspect.state)) suspects

-- those that are another article
abbrev pub without_article : (token id : List ℕ) → List Suspect → List Suspect
without_article token id suspects = filter (λ suspect. not (is_of token id suspect)) suspects

-- these, and then this one; if they are 4,096, without the first
abbrev pub then_latest : List Suspect → Suspect → List Suspect
then_latest suspects suspect = (if nat_le 4096 (length suspects) then drop 1 suspects else suspects) ++ suspect ∷ []

-- these without this one's article, and then this one
abbrev pub with_latest : List Suspect → Suspect → List Suspect
with_latest suspects suspect = then_latest (without_article suspect.token suspect.id suspects) suspect
