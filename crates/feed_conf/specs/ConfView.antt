-- The record of the definition that a configuration stands for.
use Rattle.std.specs.Prelude.{◌≡◌, ◌≢◌, ℕ, List, map, Option, Result, Ok, Err, MatchResult}
use Rattle.std.specs.List.{find}
use Rattle.std.specs.Str.{bytes_eq}
use Rattle.feed_conf.specs.ReaderView.{report_view}
use Rattle.feed_conf.specs.Settings.{Settings, Outcome, path_in}
use Rattle.feed_conf.specs.PeerView.{settings_view}
use Rattle.feed_conf.specs.declared.conf.Conf.{Conf}
use Rattle.feed_conf.specs.declared.fault.ConfFault.{ConfFault}
use Rattle.feed_conf.specs.declared.fault.ConfFaultKind.TheVariants.{NoMemory}

abbrev pub conf_view : Conf → Outcome
conf_view conf = record {
  news_spool = conf.news_spool.items;
  backlog_directory = conf.backlog_directory.items;
  status_file = conf.status_file.items;
  unknown_limit = conf.unknown_limit;
  innd_spool = path_in conf.innd_spool.items;
  innd_cycbuffs = path_in conf.innd_cycbuffs.items;
  sync_spool = conf.sync_spool;
  authinfo_file = path_in conf.authinfo_file.items;
  status_json = path_in conf.status_json.items;
  metrics_file = path_in conf.metrics_file.items;
  status_period = conf.status_period;
  peers = map settings_view conf.peers.items;
  reports = map report_view conf.ignored.items;
}

-- the values of the first peer of this name
abbrev pub find_settings : List ℕ → List Settings → Option Settings
find_settings name peers = find (λ (peer : Settings). bytes_eq name peer.name) peers

-- the result is the defined one, or memory was refused
abbrev pub Makes : Result Outcome ConfFault → Result Conf ConfFault → Type 0
Makes wanted made = MatchResult made (λ conf. wanted ≡ Ok (conf_view conf)) (λ fault. fault.kind ≢ NoMemory → wanted ≡ Err fault)
