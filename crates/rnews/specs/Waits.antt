-- The tokens that wait for articles.
use Rattle.std.specs.Prelude.{◌≡◌, ◌≤◌, ◌∷◌, [], ℕ, Bool, List, Option, None, Some, length, map, filter}
use Rattle.std.specs.BTreeMap.{get_by}
use Rattle.std.specs.Cmp.Lexicographic.{slice_cmp}
use Rattle.std.specs.Ordering.{nat_cmp}
use Rattle.std.specs.Str.{bytes_eq}
use Rattle.std.specs.Vec.{vec_items}
use Rattle.rnews.specs.declared.waiting.Tokens.{Tokens}
use Rattle.rnews.specs.declared.waiting.Tokens.TheVariants.{One, Several}
use Rattle.rnews.specs.declared.waiting.Waiting.{Waiting}

-- A token, and the message-id of the article that it waits for.
pub record Wait : Type 0 where
  pub token : List ℕ
  pub id : List ℕ

-- whether it waits for the article with this message-id
abbrev pub is_for : List ℕ → Wait → Bool
is_for id wait = bytes_eq id wait.id

-- the tokens that wait for the article with this message-id
abbrev pub tokens_for : List ℕ → List Wait → List (List ℕ)
tokens_for id waits = map (λ wait. wait.token) (filter (is_for id) waits)

-- what is kept for a message-id, and the tokens that it is kept for
abbrev pub IsKeptFor : Option Tokens → List (List ℕ) → Type 0
IsKeptFor None tokens = tokens ≡ []
IsKeptFor (Some (One token)) tokens = tokens ≡ token ∷ []
IsKeptFor (Some Several) tokens = 2 ≤ length tokens

-- what is kept for the message-id
abbrev pub kept_at : Waiting → List ℕ → Option Tokens
kept_at waiting id = get_by (λ key. slice_cmp nat_cmp id (vec_items key)) waiting.by_id

-- These are the tokens that wait, each with its message-id, in the order in which they came.
pub record StandsFor (waiting : Waiting) (waits : List Wait) : Type 0 where
  pub kept : (id : List ℕ) → IsKeptFor (kept_at waiting id) (tokens_for id waits)
