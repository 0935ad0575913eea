-- What a source of articles gave (profile).
use Rattle.std.specs.Prelude.{ℕ, List, Option, Some, None}
use Rattle.std.specs.List.{AllByRecursion}
use Rattle.article_store.specs.declared.store.Found.{Found}
use Rattle.article_store.specs.declared.store.Found.TheVariants.{Article}
use Rattle.connections.specs.declared.kept_texts.KeptText.{KeptText}

-- `gives` is what such a source says of what it gives
module _ {A : Type 0} (gives : A → (token id : List ℕ) → Found → Type 0) where
  -- a source of articles gave this, when it was asked for this token and this message-id
  abbrev pub IsGivenFor : (token id : List ℕ) → Found → Type 0
  IsGivenFor token id found = ∥ ((source : A) × gives source token id found) ∥₁

  -- a source gave a text that is kept, for the token and the message-id with which it is kept
  abbrev pub IsGiven : List ℕ × KeptText → Type 0
  IsGiven one = IsGivenFor one.0 one.1.id (Article one.1.text)

  abbrev pub AreGiven : Option (List (List ℕ × KeptText)) → Type 0
  AreGiven None = Unit {0}
  AreGiven (Some kept) = AllByRecursion IsGiven kept
