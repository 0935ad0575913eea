-- What octets of a file or a buffer are for the message-id of an article that is looked for.
use Rattle.std.specs.Prelude.{◌≡◌, ◌≢◌, ◌==◌, ◌⊎◌, ℕ, Bool, false, true, nat_eq, List, [], ◌∷◌, take}
use Rattle.std.specs.Prelude.{Option, None, Some}
use Rattle.std.specs.Prelude.{if◌then◌else◌}
use Rattle.std.specs.List.{ends_with, position}
use Rattle.dot_codec.specs.Lines.{IsSendable}
use Rattle.dot_codec.specs.Stored.{stored_text}
use Rattle.header_fields.specs.Header.{message_id_of}
use Rattle.article_store.specs.declared.store.Found.{Found}
use Rattle.article_store.specs.declared.store.Found.TheVariants.{Article, Gone, Unsendable}
use Rattle.innd_spool.specs.declared.texts.Form.{Form}
use Rattle.innd_spool.specs.declared.texts.Form.TheVariants.{Plain, Wire, ByFirstLine}

abbrev pub is_cr_before : List ℕ → Option ℕ → Bool
is_cr_before octets None = false
is_cr_before octets (Some at) = ends_with nat_eq (take at octets) (13 ∷ [])

-- a CR is directly before the first LF (INN's storage/tradspool tells articles in wire format by this)
abbrev pub begins_with_crlf_line : List ℕ → Bool
begins_with_crlf_line octets = is_cr_before octets (position (λ octet. octet == 10) octets)

-- whether octets that lie in this form are in wire format
abbrev pub is_in_wire_format : Form → List ℕ → Bool
is_in_wire_format Plain octets = false
is_in_wire_format Wire octets = true
is_in_wire_format ByFirstLine octets = begins_with_crlf_line octets

-- the text of an article that lies in this form; none if octets in wire format are not one whole block
abbrev pub text_in : Form → List ℕ → Option (List ℕ)
text_in form octets = if is_in_wire_format form octets then stored_text octets else Some octets

-- an article that is handed out has this message-id, and no other
abbrev pub IsNamed : List ℕ → Found → Type 0
IsNamed id (Article text) = message_id_of text ≡ Some id
IsNamed id Gone = Unit {0}
IsNamed id Unsendable = Unit {0}

-- a message-id, and not this one
abbrev pub IsAnother : List ℕ → Option (List ℕ) → Type 0
IsAnother id None = ⊥
IsAnother id (Some other) = other ≢ id

-- What a text is. It is gone if it is another article: if it has another message-id, or if it could be sent and has
-- none.
abbrev pub IsTextFor : List ℕ → List ℕ → Found → Type 0
IsTextFor id text (Article read) = (read ≡ text) × IsSendable text × (message_id_of text ≡ Some id)
IsTextFor id text Gone = IsAnother id (message_id_of text) ⊎ ((message_id_of text ≡ None) × IsSendable text)
IsTextFor id text Unsendable = (¬ (IsSendable text)) × (¬ (IsAnother id (message_id_of text)))

-- what octets are that should be a block and are none
abbrev pub IsCutFor : List ℕ → List ℕ → Found → Type 0
IsCutFor id octets (Article read) = ⊥
IsCutFor id octets Gone = IsAnother id (message_id_of octets)
IsCutFor id octets Unsendable = ¬ (IsAnother id (message_id_of octets))

-- what octets are, by their text if they have one
abbrev pub IsFor : List ℕ → List ℕ → Option (List ℕ) → Found → Type 0
IsFor id octets None found = IsCutFor id octets found
IsFor id octets (Some text) found = IsTextFor id text found

-- a text as an article, if it can be sent
abbrev pub IsSentIfSendable : List ℕ → Found → Type 0
IsSentIfSendable text (Article read) = (read ≡ text) × IsSendable text
IsSentIfSendable text Gone = ⊥
IsSentIfSendable text Unsendable = ¬ (IsSendable text)

-- a text without a message-id: another article if it could be sent
abbrev pub IsUnnamedFor : List ℕ → Found → Type 0
IsUnnamedFor text (Article read) = ⊥
IsUnnamedFor text Gone = IsSendable text
IsUnnamedFor text Unsendable = ¬ (IsSendable text)
