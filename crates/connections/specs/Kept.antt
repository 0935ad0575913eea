-- Texts of articles that were read a short while ago, and are kept for other peers (profile).
use Rattle.std.specs.Prelude.{ℕ, ◌+◌, ◌-◌, ◌&&◌, List, [], ◌∷◌, Option, Some, None, length, map, take, nat_le, nat_lt}
use Rattle.std.specs.Prelude.{if◌then◌else◌}
use Rattle.std.specs.Global.{Vec}
use Rattle.std.specs.Map.{lookup, remove_entry}
use Rattle.std.specs.Option.{option_map_or}
use Rattle.std.specs.Str.{bytes_eq}
use Rattle.connections.specs.declared.kept_texts.KeptText.{KeptText}

-- the text, if it has this message-id and was read less than 10 seconds ago
abbrev pub text_if_for : (id : List ℕ) → (now : ℕ) → KeptText → Option (List ℕ)
text_if_for id now kept = if bytes_eq kept.id id && nat_lt (now - kept.read_at) 10 then Some kept.text else None

-- of the texts that are kept under their tokens: that of a token, if it has this message-id and is not too old
abbrev pub text_for : (token id : List ℕ) → (now : ℕ) → List (List ℕ × KeptText) → Option (List ℕ)
text_for token id now kept = option_map_or (text_if_for id now) (lookup (bytes_eq token) kept) None

-- under the tokens themselves
abbrev pub by_token : List (Vec ℕ × KeptText) → List (List ℕ × KeptText)
by_token kept = map (λ one. (one.0.items, one.1)) kept

-- how many octets the texts have in all
abbrev pub octets_in : {K : Type 0} → List (K × KeptText) → ℕ
octets_in [] = 0
octets_in (one ∷ rest) = length one.1.text + octets_in rest

abbrev pub octets_of : {K : Type 0} → Option (K × KeptText) → ℕ
octets_of None = 0
octets_of (Some one) = length one.1.text

-- the first of them: as many as have at most so many octets in all
unfoldable pub first_within : {K : Type 0} → ℕ → List (K × KeptText) → List (K × KeptText)
first_within most [] = []
first_within most (one ∷ rest) =
    if nat_le (length one.1.text) most then one ∷ first_within (most - length one.1.text) rest else []

-- with one more, under a token that has no other text then: the latest so many
unfoldable pub latest_with : ℕ → (token : List ℕ) → KeptText → List (List ℕ × KeptText) → List (List ℕ × KeptText)
latest_with most token one kept = take most ((token, one) ∷ remove_entry (bytes_eq token) kept)

-- The texts, the latest first, with one more, unless it alone is too long: the latest 4,096, as far as they have
-- 4,194,304 octets in all.
unfoldable pub kept_with : (token : List ℕ) → KeptText → List (List ℕ × KeptText) → List (List ℕ × KeptText)
kept_with token one kept =
    if nat_le (length one.text) 4194304 then first_within 4194304 (latest_with 4096 token one kept) else kept
