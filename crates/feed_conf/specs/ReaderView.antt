-- The state of the definition that a reader stands for.
use Rattle.std.specs.Prelude.{◌≡◌, ◌≢◌, ◌+◌, ℕ, List, [], ◌∷◌, map, Option, None, Some, Result, Ok, Err, MatchResult, if◌then◌else◌}
use Rattle.std.specs.BTreeMap.{get_by_text}
use Rattle.std.specs.Option.{option_map}
use Rattle.std.specs.Str.{bytes_eq}
use Rattle.feed_conf.specs.Reading.{State, Use, Declared, Report}
use Rattle.feed_conf.specs.ValueView.{value_view}
use Rattle.feed_conf.specs.declared.reader.Use.{Use as HeldUse}
use Rattle.feed_conf.specs.declared.reader.Declared.{Declared as HeldPeer}
use Rattle.feed_conf.specs.declared.conf.Ignored.{Ignored}
use Rattle.feed_conf.specs.declared.reader.Reader.{Reader}
use Rattle.feed_conf.specs.declared.fault.ConfFault.{ConfFault}
use Rattle.feed_conf.specs.declared.fault.ConfFaultKind.{ConfFaultKind}
use Rattle.feed_conf.specs.declared.fault.ConfFaultKind.TheVariants.{NoMemory}

abbrev pub use_view : HeldUse → Use
use_view held = record { line = held.line; block = held.block; key = held.key; value = value_view held.value }

abbrev pub declared_view : HeldPeer → Declared
declared_view peer = record { name = peer.name; line = peer.line; block = peer.block }

abbrev pub report_view : Ignored → Report
report_view report = record {
  line = report.line;
  key = report.key.items;
  value = report.value.items;
  limited = report.limited;
}

abbrev pub reader_view : Reader → State
reader_view reader = record {
  around = reader.around.items;
  opened = reader.opened;
  outer = reader.outer.items;
  uses = map use_view reader.uses.items;
  peers = map declared_view reader.peers.items;
  reports = map report_view reader.ignored.items;
}

-- the index of the first of these names that is these octets
abbrev pub index_of : List ℕ → List (List ℕ) → Option ℕ
index_of octets [] = None
index_of octets (name ∷ names) = if bytes_eq octets name then Some 0 else option_map (λ index. index + 1) (index_of octets names)

-- the reader finds each peer by its name
abbrev pub IsNamed : Reader → Type 0
IsNamed reader =
    (octets : List ℕ) → get_by_text reader.names octets ≡ index_of octets (map (λ (peer : Declared). peer.name) (map declared_view reader.peers.items))

-- the result is the defined one, or memory was refused
abbrev pub Steps : Result State ConfFaultKind → Result Reader ConfFaultKind → Type 0
Steps wanted made = MatchResult made (λ reader. wanted ≡ Ok (reader_view reader)) (λ kind. kind ≢ NoMemory → wanted ≡ Err kind)

-- the same for a fault with its line
abbrev pub Runs : Result State ConfFault → Result Reader ConfFault → Type 0
Runs wanted made = MatchResult made (λ reader. wanted ≡ Ok (reader_view reader)) (λ fault. fault.kind ≢ NoMemory → wanted ≡ Err fault)
