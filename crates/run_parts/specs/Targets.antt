-- Where each peer is and how it is fed, by the settings.
use Rattle.std.specs.Prelude.{◌≡◌, ◌⊎◌, ◌+◌, ℕ, List, [], ◌∷◌, min, string_bytes}
use Rattle.std.specs.Option.{option_map}
use Rattle.std.specs.Str.{IsUtf8}
use Rattle.login.specs.Accounts.{first_entry, lines_of, login_of, parts_of}
use Rattle.conn_core.specs.declared.options.Options.{Options}
use Rattle.feed_conf.specs.declared.conf.PeerConf.{PeerConf}
use Rattle.connections.specs.declared.target.PeerTarget.{PeerTarget}
use Rattle.resolver.specs.declared.host.Host.{Host}

-- Where the peer with these settings is. A name that is not UTF-8 is left empty.
pub record IsHostOf (conf : PeerConf) (host : Host) : Type 0 where
  pub name : (IsUtf8 conf.ip_name.items × (string_bytes host.name ≡ conf.ip_name.items))
      ⊎ ((IsUtf8 conf.ip_name.items → ⊥) × (string_bytes host.name ≡ []))
  pub port : host.port ≡ min conf.port 65535

-- a host for each peer, in order
abbrev pub AreHosts : List PeerConf → List Host → Type 0
AreHosts [] [] = Unit {0}
AreHosts (conf ∷ confs) (host ∷ hosts) = IsHostOf conf host × AreHosts confs hosts
AreHosts [] (host ∷ hosts) = ⊥
AreHosts (conf ∷ confs) [] = ⊥

-- how each connection to a peer works
abbrev pub options_of : PeerConf → Options
options_of conf = record {
  streaming = conf.streaming;
  max_queue = conf.max_queue;
  check_high = conf.check_high;
  check_low = conf.check_low;
  check_filter = conf.check_filter;
  response_timeout = conf.response_timeout;
}

-- The target of the peer with these settings, whose station has this index, if a peer may have `most` connections. The
-- accounts are the text of their file: the peer is logged in to with the first of its host.
pub record IsTargetOf (most : ℕ) (accounts : List ℕ) (index : ℕ) (conf : PeerConf) (target : PeerTarget) : Type 0 where
  pub station : target.peer ≡ index
  pub name : target.name ≡ conf.name
  pub addresses : target.addresses.items ≡ []
  pub account : option_map parts_of target.account
      ≡ option_map login_of (first_entry conf.ip_name.items (lines_of accounts))
  pub connections : target.connections ≡ min conf.max_connections most
  pub waits : (target.first_wait ≡ conf.first_wait) × (target.most_wait ≡ conf.most_wait)
  pub options : target.options ≡ options_of conf

-- a target for each peer, in order, the first for the station with this index
abbrev pub AreTargetsFrom : ℕ → List ℕ → ℕ → List PeerConf → List PeerTarget → Type 0
AreTargetsFrom most accounts index [] [] = Unit {0}
AreTargetsFrom most accounts index (conf ∷ confs) (target ∷ targets) =
    IsTargetOf most accounts index conf target × AreTargetsFrom most accounts (index + 1) confs targets
AreTargetsFrom most accounts index [] (target ∷ targets) = ⊥
AreTargetsFrom most accounts index (conf ∷ confs) [] = ⊥
