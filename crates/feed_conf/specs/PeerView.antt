-- The records of the definition that the values of peers stand for.
use Rattle.std.specs.Prelude.{◌≡◌, ◌≢◌, ℕ, List, map, None, Some, Result, MatchResult}
use Rattle.std.specs.List.{find}
use Rattle.std.specs.BTreeMap.{BTreeMap, get_by_text}
use Rattle.std.specs.declared.string.String.{String}
use Rattle.std.specs.declared.vec.Vec.{Vec}
use Rattle.std.specs.declared.alloc.Global.{Global}
use Rattle.feed_conf.specs.Reading.{Use, Declared}
use Rattle.feed_conf.specs.ReaderView.{index_of}
use Rattle.feed_conf.specs.Settings.{Settings, settings_of, is_low_above_high}
use Rattle.feed_conf.specs.declared.conf.PeerConf.{PeerConf}
use Rattle.feed_conf.specs.declared.fault.ConfFault.{ConfFault}
use Rattle.feed_conf.specs.declared.fault.ConfFaultKind.TheVariants.{NoMemory, LowAboveHigh}

abbrev pub settings_view : PeerConf → Settings
settings_view conf = record {
  name = conf.name;
  ip_name = conf.ip_name.items;
  port = conf.port;
  streaming = conf.streaming;
  max_connections = conf.max_connections;
  max_queue = conf.max_queue;
  check_high = conf.check_high;
  check_low = conf.check_low;
  check_filter = conf.check_filter;
  response_timeout = conf.response_timeout;
  first_wait = conf.first_wait;
  most_wait = conf.most_wait;
  drop_deferred = conf.drop_deferred;
  backlog_limit = conf.backlog_limit;
  backlog_high = conf.backlog_high;
}

-- all peers get their values, or the first whose shares are crossed is the fault, or memory was refused
abbrev pub Judges : List Use → (outer : List ℕ) → List Declared → Result (Vec PeerConf Global) ConfFault → Type 0
Judges uses outer peers made = MatchResult made
    (λ confs. (map settings_view confs.items ≡ map (settings_of uses outer) peers) × (find (is_low_above_high uses outer) peers ≡ None))
    (λ fault. fault.kind ≢ NoMemory → (peer : Declared) × (find (is_low_above_high uses outer) peers ≡ Some peer) × (fault ≡ record { line = peer.line; kind = LowAboveHigh }))

-- the map finds each peer by its name
abbrev pub FindsNames : BTreeMap (String Global) ℕ → List Settings → Type 0
FindsNames names peers = (octets : List ℕ) → get_by_text names octets ≡ index_of octets (map (λ (peer : Settings). peer.name) peers)
