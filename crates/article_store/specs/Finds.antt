-- What a store hands out for a token.
use Rattle.std.specs.Prelude.{ℕ, List, Option, Some, None}
use Rattle.dot_codec.specs.Lines.{IsSendable}
use Rattle.article_store.specs.declared.store.Found.{Found}
use Rattle.article_store.specs.declared.store.Found.TheVariants.{Article, Gone, Unsendable}

-- an article that was found has a written form (profile)
abbrev pub IsFound : Found → Type 0
IsFound (Article text) = IsSendable text
IsFound Gone = Unit {0}
IsFound Unsendable = Unit {0}

-- What was found, if the store says this of the texts under the token: the very text, that there is none, or that
-- there is one without a written form (profile).
abbrev pub IsSaidBy : (Option (List ℕ) → Type 0) → Found → Type 0
IsSaidBy says (Article text) = says (Some text)
IsSaidBy says Gone = says None
IsSaidBy says Unsendable = (text : List ℕ) × says (Some text) × ¬ (IsSendable text)
