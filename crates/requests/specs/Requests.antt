-- Requests (docs/FORMATS.md, profile): a word, its fields, and LF.
use Rattle.std.specs.Prelude.{◌≡◌, ◌==◌, ◌-◌, ◌&&◌, ◌<◌, ◌^◌, ◌⊎◌, ℕ, true, false, if◌then◌else◌, nat_le, nat_lt}
use Rattle.std.specs.Prelude.{List, [], ◌∷◌, ◌++◌, length, take, drop, decimal, slice_index, Option, Some, None}
use Rattle.std.specs.Prelude.{Result, Ok, Err, IsOk, IsTrue, unwrap_or}
use Rattle.funnel.specs.Names.{is_msg_id, is_peer_name}
use Rattle.requests.specs.Fields.{Texts, end_of, fault_of, fields_text, texts_in}
use Rattle.requests.specs.Numbers.{number_in}
use Rattle.requests.specs.Words.{word_in, word_text}
use Rattle.requests.specs.declared.faults.RequestFault.{RequestFault}
use Rattle.requests.specs.declared.faults.RequestFault.TheVariants.{TooLong, NoLineEnd, UnknownWord, NoMemory}
use Rattle.requests.specs.declared.request.Request.{Request}
use Rattle.requests.specs.declared.request.Request.TheVariants.{Status, Retry, LogVerbose, LogQuiet, LogReopen}
use Rattle.requests.specs.declared.request.Request.TheVariants.{Hold, Release, Purge, DropArticle, TakeIn, Reload}
use Rattle.requests.specs.declared.words.Word.{Word}
use Rattle.requests.specs.declared.words.Word.TheVariants.{Status as ForStatus, StatusJson as ForJson}
use Rattle.requests.specs.declared.words.Word.TheVariants.{Retry as ForRetry, LogVerbose as ForVerbose}
use Rattle.requests.specs.declared.words.Word.TheVariants.{LogQuiet as ForQuiet, LogReopen as ForReopen}
use Rattle.requests.specs.declared.words.Word.TheVariants.{Hold as ForHold, Release as ForRelease, Purge as ForPurge}
use Rattle.requests.specs.declared.words.Word.TheVariants.{DropArticle as ForDrop, TakeIn as ForTakeIn}
use Rattle.requests.specs.declared.words.Word.TheVariants.{Reload as ForReload}

-- the most octets of a request
abbrev pub longest_request : ℕ
longest_request = 1024

-- the word of a request
abbrev pub word_of : Request → Word
word_of (Status peer json) = if json then ForJson else ForStatus
word_of (Retry peer) = ForRetry
word_of LogVerbose = ForVerbose
word_of LogQuiet = ForQuiet
word_of LogReopen = ForReopen
word_of (Hold peer) = ForHold
word_of (Release peer) = ForRelease
word_of (Purge peer key) = ForPurge
word_of (DropArticle peer id) = ForDrop
word_of (TakeIn peer) = ForTakeIn
word_of Reload = ForReload

abbrev pub key_text : Option ℕ → Option (List ℕ)
key_text None = None
key_text (Some key) = Some (decimal key)

-- the fields with these values, and no rest
abbrev pub with_fields : (peer id key : Option (List ℕ)) → Texts
with_fields peer id key = record { peer = peer; id = id; key = key; rest = [] }

-- the fields of a request
abbrev pub texts_for : Request → Texts
texts_for (Status peer json) = with_fields peer None None
texts_for (Retry peer) = with_fields peer None None
texts_for LogVerbose = with_fields None None None
texts_for LogQuiet = with_fields None None None
texts_for LogReopen = with_fields None None None
texts_for (Hold peer) = with_fields (Some peer) None None
texts_for (Release peer) = with_fields (Some peer) None None
texts_for (Purge peer key) = with_fields (Some peer) None (key_text key)
texts_for (DropArticle peer id) = with_fields peer (Some id) None
texts_for (TakeIn peer) = with_fields peer None None
texts_for Reload = with_fields None None None

-- how a request is written: its word, its fields, and LF
abbrev pub request_text : Request → List ℕ
request_text request = word_text (word_of request) ++ (fields_text (texts_for request) ++ 10 ∷ [])

-- a name that is there is that of a peer
abbrev pub IsPeer : Option (List ℕ) → Type 0
IsPeer None = Unit {0}
IsPeer (Some peer) = IsTrue (is_peer_name peer)

abbrev pub IsKey : Option ℕ → Type 0
IsKey None = Unit {0}
IsKey (Some key) = key < 2 ^ 64

-- its names, its message-id and its number have their forms, as they have in each value of the type
abbrev pub HasForms : Request → Type 0
HasForms (Status peer json) = IsPeer peer
HasForms (Retry peer) = IsPeer peer
HasForms LogVerbose = Unit {0}
HasForms LogQuiet = Unit {0}
HasForms LogReopen = Unit {0}
HasForms (Hold peer) = IsPeer (Some peer)
HasForms (Release peer) = IsPeer (Some peer)
HasForms (Purge peer key) = IsPeer (Some peer) × IsKey key
HasForms (DropArticle peer id) = IsPeer peer × IsTrue (is_msg_id id)
HasForms (TakeIn peer) = IsPeer peer
HasForms Reload = Unit {0}

abbrev pub key_in : Option (List ℕ) → Option ℕ
key_in None = None
key_in (Some value) = number_in value

-- the request of a word with fields that fit it
abbrev pub built : Word → Texts → Request
built ForStatus texts = Status texts.peer false
built ForJson texts = Status texts.peer true
built ForRetry texts = Retry texts.peer
built ForVerbose texts = LogVerbose
built ForQuiet texts = LogQuiet
built ForReopen texts = LogReopen
built ForHold texts = Hold (unwrap_or texts.peer [])
built ForRelease texts = Release (unwrap_or texts.peer [])
built ForPurge texts = Purge (unwrap_or texts.peer []) (key_in texts.key)
built ForDrop texts = DropArticle texts.peer (unwrap_or texts.id [])
built ForTakeIn texts = TakeIn texts.peer
built ForReload texts = Reload

-- what comes before the LF that ends a text
abbrev pub line_of : List ℕ → Option (List ℕ)
line_of text =
    if nat_lt 0 (length text) && slice_index text (length text - 1) == 10
    then Some (take (length text - 1) text)
    else None

abbrev pub unless : Option RequestFault → Request → Result Request RequestFault
unless None request = Ok request
unless (Some fault) request = Err fault

abbrev pub asked_by : Option Word → Texts → Result Request RequestFault
asked_by None texts = Err UnknownWord
asked_by (Some word) texts = unless (fault_of word texts) (built word texts)

-- what a line asks: its word, up to the first space, and the fields behind it
abbrev pub line_asks : Option (List ℕ) → Result Request RequestFault
line_asks None = Err NoLineEnd
line_asks (Some line) = asked_by (word_in (take (end_of line) line)) (texts_in (drop (end_of line) line))

-- The request that a text is, or its first fault.
abbrev pub request_in : List ℕ → Result Request RequestFault
request_in text = if nat_le (length text) longest_request then line_asks (line_of text) else Err TooLong

-- the answer of a call that takes memory for the names of a request, and for nothing else
abbrev pub IsReadAs : (result meant : Result Request RequestFault) → Type 0
IsReadAs (Ok request) meant = meant ≡ Ok request
IsReadAs (Err fault) meant = (meant ≡ Err fault) ⊎ ((fault ≡ NoMemory) × IsOk meant)
