-- Messages that explain a faulty configuration (docs/MANUAL.md).
use Rattle.std.specs.Prelude.{◌+◌, ◌-◌, ◌/◌, ℕ, Bool, true, false, List, [], ◌∷◌, ◌++◌, Option, None, Some}
use Rattle.std.specs.Prelude.{Result, Ok, Err, codes, decimal, filter, flat_map, get_or, map, not, if◌then◌else◌}
use Rattle.std.specs.Option.{is_some}
use Rattle.std.specs.Str.{bytes_eq}
use Rattle.feed_conf.specs.Items.{Item, Peer, Group, Closes, Uses, Stops, items_of}
use Rattle.feed_conf.specs.Items.{Stop, NoColon, NoBrace, NoName, LoneBrace, LoneQuote}
use Rattle.feed_conf.specs.Keys.{row_of, key_of}
use Rattle.feed_conf.specs.Reading.{lines_of}
use Rattle.feed_conf.specs.Values.{Taken, taken_of}
use Rattle.feed_conf.specs.declared.fault.ConfFault.{ConfFault}
use Rattle.feed_conf.specs.declared.fault.ConfFaultKind.{ConfFaultKind}
use Rattle.feed_conf.specs.declared.fault.ConfFaultKind.TheVariants.{NoValue, Unbalanced, BadPeerName, SamePeer}
use Rattle.feed_conf.specs.declared.fault.ConfFaultKind.TheVariants.{LowAboveHigh, NoCycbuffs, Range}
use Rattle.feed_conf.specs.declared.key.SettingKey.{SettingKey}
use Rattle.feed_conf.specs.declared.key.Kind.{Kind}
use Rattle.feed_conf.specs.declared.key.Kind.TheVariants.{AnyText, ShortText, Switch, Connections, Number, Whole}
use Rattle.feed_conf.specs.declared.key.Kind.TheVariants.{Fraction}

-- the file and the line number that a message begins with
abbrev pub place_text : List ℕ → ℕ → List ℕ
place_text file line = file ++ codes ":" ++ decimal line ++ codes ": "

-- that a value is not of this kind, and which are allowed
abbrev pub allowed_text : (value kind : List ℕ) → (least greatest : ℕ) → List ℕ
allowed_text value kind least greatest =
    value ++ kind ++ codes "; " ++ decimal least ++ codes " to " ++ decimal greatest ++ codes " are allowed"

-- why a number is not taken, and which are allowed
abbrev pub number_text : (value kind : List ℕ) → (least greatest : ℕ) → ConfFaultKind → List ℕ
number_text value kind least greatest Range = value ++ codes " is below " ++ decimal least
number_text value kind least greatest _ = allowed_text value kind least greatest

-- Why a value is not taken, and what is allowed. The bounds of a fraction are in hundredths.
abbrev pub reason_text : Kind → (value : List ℕ) → ConfFaultKind → List ℕ
reason_text AnyText value fault = value
reason_text ShortText value fault = codes "the value must have 1 to 255 octets"
reason_text Switch value fault = value ++ codes " is none of true, yes, on, false, no, off"
reason_text Connections value fault = number_text value (codes " is not a whole number") 0 64 fault
reason_text (Number least greatest) value fault =
    number_text value (codes " is not a whole number") least greatest fault
reason_text (Whole least greatest) value fault = number_text value (codes " is not a number") least greatest fault
reason_text (Fraction least greatest) value fault =
    number_text value (codes " is not a number") (least / 100) (greatest / 100) fault

-- the line on a value that was judged so: none if it was taken
abbrev pub taken_text : (file : List ℕ) → (line : ℕ) → (name : List ℕ) → Kind → (value : List ℕ)
    → Result Taken ConfFaultKind → List ℕ
taken_text file line name kind value (Ok taken) = []
taken_text file line name kind value (Err fault) =
    place_text file line ++ name ++ codes ": " ++ reason_text kind value fault ++ 10 ∷ []

-- the line on a use of a key
abbrev pub use_text : (file : List ℕ) → (line : ℕ) → (name value : List ℕ) → Option SettingKey → List ℕ
use_text file line name value None = []
use_text file line name value (Some key) =
    taken_text file line name (row_of key).kind value (taken_of (row_of key).kind value)

-- the line on one item
abbrev pub item_text : (file : List ℕ) → (line : ℕ) → Item → List ℕ
item_text file line (Uses name (Some value)) = use_text file line name value (key_of name)
item_text file line _ = []

-- the lines on the items of these lines, of which the first has this number
abbrev pub items_text : (file : List ℕ) → (line : ℕ) → List (List Item) → List ℕ
items_text file line [] = []
items_text file line (items ∷ lines) = flat_map (item_text file line) items ++ items_text file (line + 1) lines

-- that a word is no key, and the cure
abbrev pub colon_text : (word : List ℕ) → List ℕ
colon_text word =
    if bytes_eq word (codes "$INCLUDE") then codes "$INCLUDE is not read: put the lines of that file here" else
    word ++ codes ": no colon follows; write " ++ word ++ codes ":, without a blank before the colon"

-- why a line cannot be read further, and the cure
abbrev pub stop_text : Stop → List ℕ
stop_text (NoColon word) = colon_text word
stop_text (NoBrace name) = codes "group " ++ name ++ codes ": no brace follows; put it on the line of the name"
stop_text NoName = codes "group: no name follows; write group NAME and a brace"
stop_text LoneBrace = codes "{: no name is before it; put the brace on the line of its name"
stop_text LoneQuote = 34 ∷ codes ": the quote has no counterpart on its line"

-- what is wrong with a peer's declaration
abbrev pub peer_text : ConfFaultKind → (braced : Bool) → List ℕ
peer_text BadPeerName braced =
    codes "the name is missing or invalid; it has 1 to 64 letters, digits, '.', '-' and '_', the first not '.'"
peer_text SamePeer braced = codes "a peer of this name is declared above"
peer_text LowAboveHigh braced = codes "no-check-low is above no-check-high"
peer_text _ true = codes "this block is inside a peer, or has no closing brace"
peer_text _ false = codes "no brace follows; put it on the line of the name"

-- what is wrong with a use of a key
abbrev pub setting_text : ConfFaultKind → List ℕ
setting_text NoCycbuffs = codes "true needs innd-cycbuffs; name innd's cycbuff.conf, or leave sync-spool out"
setting_text _ = codes "no value follows; put it on the line of the key"

-- what is wrong with an item that has this fault
abbrev pub fault_words : ConfFaultKind → Item → List ℕ
fault_words kind (Peer name braced) = codes "peer " ++ name ++ codes ": " ++ peer_text kind braced
fault_words kind Group = codes "group: this block is inside a peer, or has no closing brace"
fault_words kind Closes = codes "}: no block is open"
fault_words kind (Uses key value) = key ++ codes ": " ++ setting_text kind
fault_words kind (Stops stop) = stop_text stop

abbrev pub is_peer : Item → Bool
is_peer (Peer name braced) = true
is_peer _ = false

-- whether an item is a use of `sync-spool`
abbrev pub is_sync : Item → Bool
is_sync (Uses key value) = bytes_eq key (codes "sync-spool")
is_sync _ = false

abbrev pub lacks_colon : Stop → Bool
lacks_colon (NoColon word) = true
lacks_colon _ = false

-- whether an item may be a setting without a value, or a word that is no setting
abbrev pub may_lack_value : Item → Bool
may_lack_value (Uses key None) = is_some (key_of key)
may_lack_value (Stops stop) = lacks_colon stop
may_lack_value _ = false

-- whether an item may be a quote or a brace without a counterpart, or a block inside a peer
abbrev pub may_be_unbalanced : Item → Bool
may_be_unbalanced (Uses key value) = false
may_be_unbalanced (Stops stop) = not (lacks_colon stop)
may_be_unbalanced _ = true

-- whether an item may have a fault of this kind
abbrev pub may_have : ConfFaultKind → Item → Bool
may_have NoValue item = may_lack_value item
may_have Unbalanced item = may_be_unbalanced item
may_have BadPeerName item = is_peer item
may_have SamePeer item = is_peer item
may_have LowAboveHigh item = is_peer item
may_have NoCycbuffs item = is_sync item
may_have _ item = false

-- the item, if there is only one
abbrev pub only : List Item → Option Item
only [] = None
only (item ∷ []) = Some item
only (item ∷ next ∷ items) = None

-- the line of this number, counted from 1, without its LF
abbrev pub line_at : ℕ → (text : List ℕ) → List ℕ
line_at line text = get_or (lines_of text) (line - 1) []

-- the item that has the fault: the only one of its line that may have a fault of that kind
abbrev pub item_at_fault : (text : List ℕ) → ConfFault → Option Item
item_at_fault text fault = only (filter (may_have fault.kind) (items_of (line_at fault.line text)))

-- the words for a fault that is not of a value, if it may be of several items of its line
abbrev pub words_of : ConfFaultKind → Option (List ℕ)
words_of NoValue = Some (codes "a setting has no value, or a word is not a setting")
words_of Unbalanced = Some (codes "a quote or a brace has no counterpart, or a block is inside a peer")
words_of BadPeerName = Some (codes "the name of the peer is missing or invalid")
words_of SamePeer = Some (codes "a peer of this name is declared above")
words_of LowAboveHigh = Some (codes "no-check-low of this peer is above its no-check-high")
words_of NoCycbuffs = Some (codes "sync-spool is true, and innd-cycbuffs is not given")
words_of _ = None

-- the line on a fault that is not of a value
abbrev pub words_text : (file : List ℕ) → (line : ℕ) → Option (List ℕ) → List ℕ
words_text file line None = []
words_text file line (Some words) = place_text file line ++ words ++ 10 ∷ []

-- the line on a fault that is not of a value, with the word that is at fault, if it is known
abbrev pub fault_text : (file : List ℕ) → ConfFault → Option Item → List ℕ
fault_text file fault None = words_text file fault.line (words_of fault.kind)
fault_text file fault (Some item) = place_text file fault.line ++ fault_words fault.kind item ++ 10 ∷ []

-- The lines on a configuration with this first fault: the fault itself unless it is of a value, and each value that
-- its key does not take, in reading order.
abbrev pub explanation : (file text : List ℕ) → ConfFault → List ℕ
explanation file text fault =
    fault_text file fault (item_at_fault text fault) ++ items_text file 1 (map items_of (lines_of text))
