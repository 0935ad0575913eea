-- The fields of a request, as texts: ` KEY=VALUE`, in a fixed order (profile).
use Rattle.std.specs.Prelude.{◌==◌, ◌&&◌, ℕ, Bool, true, if◌then◌else◌, nat_eq, List, ◌++◌, length, take}
use Rattle.std.specs.Prelude.{drop, codes, Option, Some, None, is_some}
use Rattle.std.specs.List.{position_or_len, starts_with}
use Rattle.std.specs.Option.{option_map}
use Rattle.funnel.specs.Names.{is_msg_id, is_peer_name}
use Rattle.requests.specs.Numbers.{is_number}
use Rattle.requests.specs.Words.{allows, rules}
use Rattle.requests.specs.declared.faults.RequestFault.{RequestFault}
use Rattle.requests.specs.declared.faults.RequestFault.TheVariants.{BadField, BadPeer, BadId, BadNumber}
use Rattle.requests.specs.declared.fields.Fields.{Fields}
use Rattle.requests.specs.declared.words.Word.{Word}

-- The values of the fields, as they are written, and what follows the last one.
pub record Texts : Type 0 where
  pub peer : Option (List ℕ)
  pub id : Option (List ℕ)
  pub key : Option (List ℕ)
  pub rest : List ℕ

-- what the fields are as texts
abbrev pub texts_of : Fields → Texts
texts_of fields = record {
  peer = option_map (λ text. text.now) fields.peer;
  id = option_map (λ text. text.now) fields.id;
  key = option_map (λ text. text.now) fields.key;
  rest = fields.rest.now;
}

-- where a word or a value ends: at the first space, or at the end
abbrev pub end_of : List ℕ → ℕ
end_of text = position_or_len (λ octet. octet == 32) text

-- the value of the field that a text begins with, if its key is this
abbrev pub value_at : (key text : List ℕ) → Option (List ℕ)
value_at key text =
    if starts_with nat_eq text key
    then Some (take (end_of (drop (length key) text)) (drop (length key) text))
    else None

-- what follows that field
abbrev pub behind : (key text : List ℕ) → List ℕ
behind key text =
    if starts_with nat_eq text key
    then drop (end_of (drop (length key) text)) (drop (length key) text)
    else text

abbrev pub peer_key : List ℕ
peer_key = codes " peer="

abbrev pub id_key : List ℕ
id_key = codes " id="

abbrev pub key_key : List ℕ
key_key = codes " key="

-- the fields that a text begins with, in their order
abbrev pub texts_in : List ℕ → Texts
texts_in text =
    let after_peer = behind peer_key text in
    let after_id = behind id_key after_peer in
    record {
      peer = value_at peer_key text;
      id = value_at id_key after_peer;
      key = value_at key_key after_id;
      rest = behind key_key after_id;
    }

-- a field as it is written, before this text
abbrev pub field : (key : List ℕ) → Option (List ℕ) → List ℕ → List ℕ
field key None text = text
field key (Some value) text = key ++ (value ++ text)

-- the fields as they are written
abbrev pub fields_text : Texts → List ℕ
fields_text texts = field peer_key texts.peer (field id_key texts.id (field key_key texts.key texts.rest))

-- a value, if it is there, is good
abbrev pub good : (List ℕ → Bool) → Option (List ℕ) → Bool
good test None = true
good test (Some value) = test value

-- they are the fields of this word, and nothing else is there
abbrev pub fits : Word → Texts → Bool
fits word texts =
    allows (rules word).peer (is_some texts.peer)
    && allows (rules word).id (is_some texts.id)
    && allows (rules word).key (is_some texts.key)
    && length texts.rest == 0

-- what is wrong with them as the fields of this word, the first in this order
abbrev pub fault_of : Word → Texts → Option RequestFault
fault_of word texts =
    if fits word texts then (
    if good is_peer_name texts.peer then (
    if good is_msg_id texts.id then (
    if good is_number texts.key then None
    else Some BadNumber)
    else Some BadId)
    else Some BadPeer)
    else Some BadField
