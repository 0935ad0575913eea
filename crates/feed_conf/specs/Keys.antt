-- The keys of the profile: for each its name, how its value is written, and its default.
use Rattle.std.specs.Prelude.{ℕ, Bool, true, false, List, [], ◌∷◌, Option, codes}
use Rattle.std.specs.List.{find}
use Rattle.std.specs.Str.{bytes_eq}
use Rattle.feed_conf.specs.Values.{Value, TextOf, SwitchOf, NumberOf}
use Rattle.feed_conf.specs.declared.key.SettingKey.{SettingKey}
use Rattle.feed_conf.specs.declared.key.SettingKey.TheVariants.{IpName, PortNumber, Streaming, MaxConnections}
use Rattle.feed_conf.specs.declared.key.SettingKey.TheVariants.{MaxQueueSize, NoCheckHigh, NoCheckLow, NoCheckFilter}
use Rattle.feed_conf.specs.declared.key.SettingKey.TheVariants.{ResponseTimeout, InitialReconnectTime}
use Rattle.feed_conf.specs.declared.key.SettingKey.TheVariants.{MaxReconnectTime, DropDeferred, BacklogLimit}
use Rattle.feed_conf.specs.declared.key.SettingKey.TheVariants.{BacklogLimitHighwater, BacklogFactor, NewsSpool}
use Rattle.feed_conf.specs.declared.key.SettingKey.TheVariants.{BacklogDirectory, StatusFile, UnknownLimit}
use Rattle.feed_conf.specs.declared.key.SettingKey.TheVariants.{InndSpool, InndCycbuffs, SyncSpool}
use Rattle.feed_conf.specs.declared.key.SettingKey.TheVariants.{AuthinfoFile, StatusJson, MetricsFile, StatusPeriod}
use Rattle.feed_conf.specs.declared.key.Kind.{Kind}
use Rattle.feed_conf.specs.declared.key.Kind.TheVariants.{AnyText, ShortText, Switch, Connections, Number, Whole, Fraction}

pub record Row : Type 0 where
  -- its index in this table
  pub index : ℕ
  pub name : List ℕ
  -- how its value is written, with the least and the greatest value
  pub kind : Kind
  -- whether it is allowed only outside all blocks
  pub of_file : Bool
  -- its value at a peer of this name, if no use of the key counts
  pub default : List ℕ → Value

abbrev pub row_of : SettingKey → Row
row_of IpName = record { index = 0; name = codes "ip-name"; kind = ShortText; of_file = false; default = λ peer. TextOf peer }
row_of PortNumber = record { index = 1; name = codes "port-number"; kind = Number 1 65535; of_file = false; default = λ peer. NumberOf 119 }
row_of Streaming = record { index = 2; name = codes "streaming"; kind = Switch; of_file = false; default = λ peer. SwitchOf true }
row_of MaxConnections = record { index = 3; name = codes "max-connections"; kind = Connections; of_file = false; default = λ peer. NumberOf 2 }
row_of MaxQueueSize = record { index = 4; name = codes "max-queue-size"; kind = Number 1 1000; of_file = false; default = λ peer. NumberOf 20 }
row_of NoCheckHigh = record { index = 5; name = codes "no-check-high"; kind = Fraction 0 10000; of_file = false; default = λ peer. NumberOf 9500 }
row_of NoCheckLow = record { index = 6; name = codes "no-check-low"; kind = Fraction 0 10000; of_file = false; default = λ peer. NumberOf 9000 }
row_of NoCheckFilter = record { index = 7; name = codes "no-check-filter"; kind = Whole 1 1000; of_file = false; default = λ peer. NumberOf 50 }
row_of ResponseTimeout = record { index = 8; name = codes "response-timeout"; kind = Number 1 86400; of_file = false; default = λ peer. NumberOf 300 }
row_of InitialReconnectTime = record { index = 9; name = codes "initial-reconnect-time"; kind = Number 1 86400; of_file = false; default = λ peer. NumberOf 30 }
row_of MaxReconnectTime = record { index = 10; name = codes "max-reconnect-time"; kind = Number 1 86400; of_file = false; default = λ peer. NumberOf 3600 }
row_of DropDeferred = record { index = 11; name = codes "drop-deferred"; kind = Switch; of_file = false; default = λ peer. SwitchOf false }
row_of BacklogLimit = record { index = 12; name = codes "backlog-limit"; kind = Number 0 4294967296; of_file = false; default = λ peer. NumberOf 0 }
row_of BacklogLimitHighwater = record { index = 13; name = codes "backlog-limit-highwater"; kind = Number 0 4294967296; of_file = false; default = λ peer. NumberOf 0 }
row_of BacklogFactor = record { index = 14; name = codes "backlog-factor"; kind = Fraction 100 10000; of_file = false; default = λ peer. NumberOf 110 }
row_of NewsSpool = record { index = 15; name = codes "news-spool"; kind = AnyText; of_file = true; default = λ peer. TextOf (codes "articles") }
row_of BacklogDirectory = record { index = 16; name = codes "backlog-directory"; kind = AnyText; of_file = true; default = λ peer. TextOf (codes "innfeed") }
row_of StatusFile = record { index = 17; name = codes "status-file"; kind = AnyText; of_file = true; default = λ peer. TextOf (codes "innfeed.status") }
row_of UnknownLimit = record { index = 18; name = codes "unknown-limit"; kind = Number 0 4294967296; of_file = true; default = λ peer. NumberOf 67108864 }
row_of InndSpool =
    record { index = 19; name = codes "innd-spool"; kind = AnyText; of_file = true; default = λ peer. TextOf [] }
row_of InndCycbuffs =
    record { index = 20; name = codes "innd-cycbuffs"; kind = AnyText; of_file = true; default = λ peer. TextOf [] }
row_of SyncSpool =
    record { index = 21; name = codes "sync-spool"; kind = Switch; of_file = true; default = λ peer. SwitchOf false }
row_of AuthinfoFile =
    record { index = 22; name = codes "authinfo-file"; kind = AnyText; of_file = true; default = λ peer. TextOf [] }
row_of StatusJson =
    record { index = 23; name = codes "status-json"; kind = AnyText; of_file = true; default = λ peer. TextOf [] }
row_of MetricsFile =
    record { index = 24; name = codes "metrics-file"; kind = AnyText; of_file = true; default = λ peer. TextOf [] }
row_of StatusPeriod = record {
  index = 25;
  name = codes "status-period";
  kind = Number 1 86400;
  of_file = true;
  default = λ peer. NumberOf 60;
}

abbrev pub all_keys : List SettingKey
all_keys =
    IpName ∷ PortNumber ∷ Streaming ∷ MaxConnections ∷ MaxQueueSize ∷ NoCheckHigh ∷ NoCheckLow ∷ NoCheckFilter
    ∷ ResponseTimeout ∷ InitialReconnectTime ∷ MaxReconnectTime ∷ DropDeferred ∷ BacklogLimit ∷ BacklogLimitHighwater
    ∷ BacklogFactor ∷ NewsSpool ∷ BacklogDirectory ∷ StatusFile ∷ UnknownLimit ∷ InndSpool ∷ InndCycbuffs ∷ SyncSpool
    ∷ AuthinfoFile ∷ StatusJson ∷ MetricsFile ∷ StatusPeriod ∷ []

abbrev pub key_of : List ℕ → Option SettingKey
key_of name = find (λ key. bytes_eq (row_of key).name name) all_keys
