-- What the lines of a configuration make, item by item, up to the first fault (profile).
use Rattle.std.specs.Prelude.{◌==◌, ◌+◌, ◌-◌, ◌&&◌, ℕ, Bool, true, false, not, List, [], ◌∷◌, ◌++◌, length, take, map}
use Rattle.std.specs.Prelude.{Option, None, Some, Result, Ok, Err, unwrap_or, if◌then◌else◌}
use Rattle.std.specs.List.{list_any, slice_get, slice_split}
use Rattle.std.specs.Str.{bytes_eq}
use Rattle.funnel.specs.Names.{is_peer_name}
use Rattle.feed_conf.specs.Lexemes.{Lexeme, HasLexemes}
use Rattle.feed_conf.specs.Items.{Item, Peer, Group, Closes, Uses, Stops, Nothing, items, stop_kind}
use Rattle.feed_conf.specs.Keys.{row_of, key_of}
use Rattle.feed_conf.specs.Values.{Value, Taken, taken_of}
use Rattle.feed_conf.specs.declared.key.SettingKey.{SettingKey}
use Rattle.feed_conf.specs.declared.reader.OpenBlock.{OpenBlock}
use Rattle.feed_conf.specs.declared.fault.ConfFault.{ConfFault}
use Rattle.feed_conf.specs.declared.fault.ConfFaultKind.{ConfFaultKind}
use Rattle.feed_conf.specs.declared.fault.ConfFaultKind.TheVariants.{NoValue, Unbalanced, BadPeerName, SamePeer}

-- A use of a key of the profile that counts, with its line and the number of its block, 0 for the scope of the file.
pub record Use : Type 0 where
  pub line : ℕ
  pub block : ℕ
  pub key : SettingKey
  pub value : Value

-- a declared peer, with the line of its declaration and the number of its own block
pub record Declared : Type 0 where
  pub name : List ℕ
  pub line : ℕ
  pub block : ℕ

-- a use that is reported as ignored or as limited
pub record Report : Type 0 where
  pub line : ℕ
  pub key : List ℕ
  -- as it is written; empty if there is none
  pub value : List ℕ
  pub limited : Bool

-- what was read so far
pub record State : Type 0 where
  -- the open blocks, outermost first
  pub around : List OpenBlock
  pub opened : ℕ
  -- for each block that was opened, in order, the number of the block around it, 0 for the scope of the file
  pub outer : List ℕ
  pub uses : List Use
  pub peers : List Declared
  pub reports : List Report

abbrev pub start : State
start = record { around = []; opened = 0; outer = []; uses = []; peers = []; reports = [] }

abbrev pub innermost : List OpenBlock → Option OpenBlock
innermost around = slice_get around (length around - 1)

abbrev pub number_in : Option OpenBlock → ℕ
number_in None = 0
number_in (Some block) = block.number

abbrev pub is_in_block : Option OpenBlock → Bool
is_in_block None = false
is_in_block (Some block) = true

abbrev pub is_in_peer : Option OpenBlock → Bool
is_in_peer None = false
is_in_peer (Some block) = block.is_peer

-- a block opened at this line: blocks are numbered from 1 in the order in which they are opened
abbrev pub block_at : State → ℕ → Bool → OpenBlock
block_at state line is_peer = record { number = state.opened + 1; line = line; is_peer = is_peer }

abbrev pub open_block : State → OpenBlock → State
open_block state block = record state {
  around = state.around ++ block ∷ [];
  opened = state.opened + 1;
  outer = state.outer ++ number_in (innermost state.around) ∷ [];
}

abbrev pub close_block : Option OpenBlock → State → Result State ConfFaultKind
close_block None state = Err Unbalanced
close_block (Some block) state = Ok (record state { around = take (length state.around - 1) state.around })

abbrev pub report : State → ℕ → (key value : List ℕ) → Bool → State
report state line key value limited =
    record state
    { reports = state.reports ++ record { line = line; key = key; value = value; limited = limited } ∷ [] }

abbrev pub is_declared : List ℕ → List Declared → Bool
is_declared name peers = list_any (λ (peer : Declared). bytes_eq name peer.name) peers

abbrev pub declare : State → ℕ → List ℕ → State
declare state line name =
    let block = block_at state line true in
    record (open_block state block)
    { peers = state.peers ++ record { name = name; line = line; block = block.number } ∷ [] }

-- the word `peer`: its place is tested first, then its name, and the brace last
abbrev pub declare_peer : State → ℕ → List ℕ → Bool → Result State ConfFaultKind
declare_peer state line name braced =
    if is_in_peer (innermost state.around) then Err Unbalanced else (
    if not (is_peer_name name) then Err BadPeerName else (
    if is_declared name state.peers then Err SamePeer else (
    if braced then Ok (declare state line name) else Err Unbalanced)))

abbrev pub use_taken : State → ℕ → (name value : List ℕ) → SettingKey → Result Taken ConfFaultKind
    → Result State ConfFaultKind
use_taken state line name value key (Err kind) = Err kind
use_taken state line name value key (Ok taken) =
    let next =
    record state {
      uses = state.uses ++ record
          { line = line; block = number_in (innermost state.around); key = key; value = taken.value } ∷ [];
    } in
    Ok (if taken.limited then report next line name value true else next)

abbrev pub use_value : State → ℕ → List ℕ → SettingKey → Option (List ℕ) → Result State ConfFaultKind
use_value state line name key None = Err NoValue
use_value state line name key (Some value) = use_taken state line name value key (taken_of (row_of key).kind value)

-- a key outside the profile is ignored, and so is a key of the file inside a block
abbrev pub use_key : State → ℕ → List ℕ → Option (List ℕ) → Option SettingKey → Result State ConfFaultKind
use_key state line name value None = Ok (report state line name (unwrap_or value []) false)
use_key state line name value (Some key) =
    if (row_of key).of_file && is_in_block (innermost state.around) then Ok
    (report state line name (unwrap_or value []) false) else use_value state line name key value

abbrev pub step : State → ℕ → Item → Result State ConfFaultKind
step state line (Peer name braced) = declare_peer state line name braced
step state line Group =
    if is_in_peer (innermost state.around) then Err Unbalanced else Ok (open_block state (block_at state line false))
step state line Closes = close_block (innermost state.around) state
step state line (Uses name value) = use_key state line name value (key_of name)
step state line (Stops stop) = Err (stop_kind stop)

-- what follows if there was no fault
abbrev pub at_line : ℕ → Result State ConfFaultKind → (State → Result State ConfFault) → Result State ConfFault
at_line line (Ok state) next = next state
at_line line (Err kind) next = Err (record { line = line; kind = kind })

abbrev pub then_on : Result State ConfFault → (State → Result State ConfFault) → Result State ConfFault
then_on (Ok state) next = next state
then_on (Err fault) next = Err fault

-- the items of one line
abbrev pub run_line : List Item → State → ℕ → Result State ConfFault
run_line [] state line = Ok state
run_line (item ∷ items) state line = at_line line (step state line item) (λ next. run_line items next line)

-- the items of the lines, of which the first has this number
abbrev pub run_lines : List (List Item) → State → ℕ → Result State ConfFault
run_lines [] state line = Ok state
run_lines (items ∷ lines) state line = then_on (run_line items state line) (λ next. run_lines lines next (line + 1))

-- at the end no block may be open
abbrev pub closed : Option OpenBlock → State → Result State ConfFault
closed None state = Ok state
closed (Some block) state = Err (record { line = block.line; kind = Unbalanced })

abbrev pub finish : State → Result State ConfFault
finish state = closed (innermost state.around) state

-- the lines of a text, without the LF that ends each of them but the last
abbrev pub lines_of : List ℕ → List (List ℕ)
lines_of text = slice_split (λ octet. octet == 10) text

-- each line has these lexemes
abbrev pub HaveLexemes : List (List ℕ) → List (List Lexeme) → Type 0
HaveLexemes [] [] = Unit {0}
HaveLexemes [] (lexemes ∷ rest) = ⊥
HaveLexemes (line ∷ lines) [] = ⊥
HaveLexemes (line ∷ lines) (lexemes ∷ rest) = HasLexemes line lexemes × HaveLexemes lines rest

-- what lines with these lexemes make, or their first fault in reading order
abbrev pub reading : List (List Lexeme) → Result State ConfFault
reading lines = then_on (run_lines (map (λ lexemes. items lexemes Nothing) lines) start 1) finish
