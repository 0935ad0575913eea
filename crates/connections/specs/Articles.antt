-- Which article is handed in for a debt: the one that was found for it (profile).
use Rattle.std.specs.Prelude.{◌≡◌, ◌⊎◌, ℕ, true, List, [], ◌∷◌, ◌++◌, Option, Some, None, slice_get}
use Rattle.std.specs.List.{AllByRecursion}
use Rattle.ledger_core.specs.State.{Owing}
use Rattle.article_store.specs.declared.store.Found.{Found}
use Rattle.article_store.specs.declared.store.Found.TheVariants.{Article}
use Rattle.conn_core.specs.Commands.{Ask, Handing}
use Rattle.conn_core.specs.History.{Event, Offered, Put, Came, Faulted, Handed, Sent, Tick, Broke, Leave, Taken}
use Rattle.conn_core.specs.History.{accepted, after, asks}
use Rattle.conn_core.specs.Receipt.{IsBlockOf, IsHandedAs}
use Rattle.conn_core.specs.Stands.{StandsFor}
use Rattle.conn_core.specs.State.{Holding}
use Rattle.conn_core.specs.declared.options.Options.{Options}
use Rattle.conn_laws.specs.Articles.{debt_served, has_article}
use Rattle.connections.specs.Sources.{IsGivenFor}

-- A source of articles gave this, when it was asked for the token and the message-id of the debt; `gives` is what such
-- a source says of what it gives.
abbrev pub IsFoundFor : {A : Type 0} → (gives : A → (token id : List ℕ) → Found → Type 0) → Owing → Found → Type 0
IsFoundFor gives debt found = IsGivenFor gives debt.1.0 debt.1.1 found

module _ (is_found : Owing → Found → Type 0) where
  -- what is handed in for a debt is what was found for it
  abbrev pub IsHandedFor : Option Owing → Handing → Type 0
  IsHandedFor None handing = ⊥
  IsHandedFor (Some debt) handing = (found : Found) × (is_found debt found × IsHandedAs found handing)

  -- each article that was handed in is what was found for the very debt
  abbrev pub AllAreFound : Options → List Event → Type 0
  AllAreFound options [] = Unit {0}
  AllAreFound options (Handed number handing ∷ h) = IsHandedFor (debt_served options h number) handing
      × AllAreFound options h
  AllAreFound options (Offered debt ∷ h) = AllAreFound options h
  AllAreFound options (Put command ∷ h) = AllAreFound options h
  AllAreFound options (Came reply ∷ h) = AllAreFound options h
  AllAreFound options (Faulted fault ∷ h) = AllAreFound options h
  AllAreFound options (Sent count ∷ h) = AllAreFound options h
  AllAreFound options (Tick now ∷ h) = AllAreFound options h
  AllAreFound options (Broke ∷ h) = AllAreFound options h
  AllAreFound options (Leave ∷ h) = AllAreFound options h
  AllAreFound options (Taken ∷ h) = AllAreFound options h

  -- if that is so of a transcript for which a connection stood, it is so of one for which it stands now
  abbrev pub AllStayFound : (old new : Holding) → Type 0
  AllStayFound old new =
      (options : Options) (unread : List ℕ) (h : List Event) → StandsFor options old unread h → AllAreFound options h
      → (left : List ℕ) × ((later : List Event) × (StandsFor options new left later × AllAreFound options later))

  -- The block of a command is the written form of the lines of a text that was found for the debt accepted at the
  -- command's ticket, whose message-id it names (RFC 3977, section 3.1.1).
  pub record SendsTextOf (h : List Event) (ask : Ask) : Type 0 where
    pub debt : Owing
    pub text : List ℕ
    pub own : slice_get (accepted h) ask.ticket ≡ Some debt
    pub named : ask.id ≡ debt.1.1
    pub found : is_found debt (Article text)
    pub block : IsBlockOf text ask.block

  -- and that of each command that has an article
  abbrev pub AllSendTextsOf : List Event → Type 0
  AllSendTextsOf h = AllByRecursion (λ (ask : Ask). has_article ask.verb ≡ true → SendsTextOf h ask) (asks h)

-- an event that hands in no article
abbrev pub IsNoArticle : Event → Type 0
IsNoArticle (Offered debt) = Unit {0}
IsNoArticle (Put command) = Unit {0}
IsNoArticle (Came reply) = Unit {0}
IsNoArticle (Faulted fault) = Unit {0}
IsNoArticle (Handed number handing) = ⊥
IsNoArticle (Sent count) = Unit {0}
IsNoArticle (Tick now) = Unit {0}
IsNoArticle Broke = Unit {0}
IsNoArticle Leave = Unit {0}
IsNoArticle Taken = Unit {0}

-- a connection stands for the transcript with further events, newest first, none of which hands in an article
abbrev pub GoesOn : Options → List Event → Holding → Type 0
GoesOn options h new =
    (left : List ℕ)
    × ((since : List Event) × (StandsFor options new left (since ++ h) × AllByRecursion IsNoArticle since))

-- no article is handed in
abbrev pub HandsInNothing : (old new : Holding) → Type 0
HandsInNothing old new =
    (options : Options) (unread : List ℕ) (h : List Event) → StandsFor options old unread h → GoesOn options h new

-- this is handed in with a key, or no article is
abbrev pub MayHandIn : (key : ℕ) → Found → (old new : Holding) → Type 0
MayHandIn key found old new =
    (options : Options) (unread : List ℕ) (h : List Event) → StandsFor options old unread h
    → ((handing : Handing)
    × (IsHandedAs found handing × StandsFor options new unread (after options h (Handed key handing))))
    ⊎ GoesOn options h new
