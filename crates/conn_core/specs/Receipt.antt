-- What octets that come in, and articles that are handed in, are to a connection.
use Rattle.std.specs.Prelude.{◌≡◌, ℕ, true, None, is_some, List, []}
use Rattle.dot_codec.specs.Lines.{HasLines, IsSendable}
use Rattle.dot_codec.specs.Block.{written}
use Rattle.article_store.specs.declared.store.Found.{Found}
use Rattle.article_store.specs.declared.store.Found.TheVariants.{Article, Gone as NotThere, Unsendable as Unfit}
use Rattle.reply_reader.specs.Stream.{Given, BeginsWithReply, BeginsWithNoReply, IsShort, IsTooLong}
use Rattle.reply_reader.specs.declared.fault.ReplyFault.{ReplyFault}
use Rattle.reply_reader.specs.declared.fault.ReplyFault.TheVariants.{TooLong, NoCode, NoMemory, Failed}
use Rattle.conn_core.specs.Commands.{Handing, Sendable, Gone, Unsendable}
use Rattle.conn_core.specs.History.{Event, Came, Faulted, reason, after}
use Rattle.conn_core.specs.declared.options.Options.{Options}

-- the octets are the block of a text: the written form of its lines (RFC 3977, section 3.1.1)
abbrev pub IsBlockOf : List ℕ → List ℕ → Type 0
IsBlockOf text block = IsSendable text × ((lines : List (List ℕ)) × HasLines text lines × (block ≡ written lines))

-- what is handed in with a found article: the text is tested, whoever found it (profile)
abbrev pub IsHandedAs : Found → Handing → Type 0
IsHandedAs (Article text) (Sendable block) = IsBlockOf text block
IsHandedAs (Article text) Gone = ⊥
IsHandedAs (Article text) Unsendable = ¬ (IsSendable text)
IsHandedAs NotThere (Sendable block) = ⊥
IsHandedAs NotThere Gone = Unit {0}
IsHandedAs NotThere Unsendable = ⊥
IsHandedAs Unfit (Sendable block) = ⊥
IsHandedAs Unfit Gone = ⊥
IsHandedAs Unfit Unsendable = Unit {0}

-- there is an article, and its text can be sent (profile)
abbrev pub IsSendableArticle : Found → Type 0
IsSendableArticle (Article text) = IsSendable text
IsSendableArticle NotThere = ⊥
IsSendableArticle Unfit = ⊥

-- the octets that wait begin with this fault (RFC 3977, section 3.1; the length: profile)
abbrev pub BeginsWithFault : List ℕ → ReplyFault → Type 0
BeginsWithFault waiting TooLong = IsTooLong waiting
BeginsWithFault waiting NoCode = BeginsWithNoReply waiting
BeginsWithFault waiting NoMemory = ⊥
BeginsWithFault waiting Failed = ⊥

-- What octets that wait to be read make of a transcript, and which of them are held back. The whole replies are taken
-- one after another, up to a fault or the close; after that nothing is taken and nothing held back. What is left is
-- part of a reply (RFC 3977, section 3.1).
pub data Receives (options : Options) : List ℕ → List Event → List Event → List ℕ → Type 0 where
  Is_closed : (waiting : List ℕ) (h : List Event) → is_some (reason options h) ≡ true → Receives options waiting h h []
  Waits : (waiting : List ℕ) (h : List Event) → reason options h ≡ None → IsShort waiting → Receives options waiting h h waiting
  Reads : (waiting rest left : List ℕ) (h later : List Event) (reply : Given) → reason options h ≡ None
      → BeginsWithReply waiting reply rest → Receives options rest (after options h (Came reply)) later left
      → Receives options waiting h later left
  Fails : (waiting : List ℕ) (h : List Event) (fault : ReplyFault) → reason options h ≡ None
      → BeginsWithFault waiting fault → Receives options waiting h (after options h (Faulted fault)) []

-- the transcript after some of the whole replies that wait, from the first on, while it is still open (profile)
pub data ReceivesSome (options : Options) : List ℕ → List Event → List Event → Type 0 where
  Stops : (waiting : List ℕ) (h : List Event) → reason options h ≡ None → ReceivesSome options waiting h h
  Reads_on : (waiting rest : List ℕ) (h later : List Event) (reply : Given) → reason options h ≡ None
      → BeginsWithReply waiting reply rest → ReceivesSome options rest (after options h (Came reply)) later
      → ReceivesSome options waiting h later
