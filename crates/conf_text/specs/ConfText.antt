-- The text of a configuration with all its settings in force, in the form of innfeed.conf(5).
use Rattle.std.specs.Prelude.{◌+◌, ◌-◌, ◌*◌, ◌/◌, ◌%◌, ◌&&◌, ◌==◌, ℕ, Bool, true, false, List, [], ◌∷◌, ◌++◌, codes}
use Rattle.std.specs.Prelude.{Option, None, Some, decimal, flat_map, length, nat_le, nat_lt, not, if◌then◌else◌}
use Rattle.std.specs.List.{list_all}
use Rattle.feed_conf.specs.Lexemes.{is_word_octet}
use Rattle.feed_conf.specs.Settings.{Outcome, Settings}

-- a line with a key and its value, after this indent
abbrev pub line : (indent key value : List ℕ) → List ℕ
line indent key value = indent ++ key ++ codes ": " ++ value ++ 10 ∷ []

-- no indent, for the settings of the file
abbrev pub outside : List ℕ
outside = []

-- the indent of the settings of a peer
abbrev pub inside : List ℕ
inside = codes "    "

-- a text may stand without quotes: it is not empty, and has no blank and no mark
abbrev pub is_word : List ℕ → Bool
is_word octets = not (length octets == 0) && list_all is_word_octet octets

-- a text, in quotes if it needs them
abbrev pub text_value : List ℕ → List ℕ
text_value octets = if is_word octets then octets else 34 ∷ (octets ++ 34 ∷ [])

abbrev pub switch_value : Bool → List ℕ
switch_value true = codes "true"
switch_value false = codes "false"

-- hundredths as a fraction with two decimals
abbrev pub fraction_value : ℕ → List ℕ
fraction_value hundredths =
    decimal (hundredths / 100) ++ codes "." ++ decimal (hundredths / 10 % 10) ++ decimal (hundredths % 10)

-- a path of the file, if it is given
abbrev pub path_text : (key : List ℕ) → (path : Option (List ℕ)) → List ℕ
path_text key None = []
path_text key (Some path) = line outside key (text_value path)

-- whether innd's CNFS buffers are synced, if they are
abbrev pub sync_text : (on : Bool) → List ℕ
sync_text false = []
sync_text true = line outside (codes "sync-spool") (switch_value true)

-- every how many seconds the state of the peers is written, unless it is the default
abbrev pub period_text : (period : ℕ) → List ℕ
period_text period = if period == 60 then [] else line outside (codes "status-period") (decimal period)

-- the settings of innd's spool: its paths if they are given, and whether its CNFS buffers are synced if they are
abbrev pub innd_text : Outcome → List ℕ
innd_text outcome =
    path_text (codes "innd-spool") outcome.innd_spool ++ path_text (codes "innd-cycbuffs") outcome.innd_cycbuffs
    ++ sync_text outcome.sync_spool

-- the file of accounts at peers, if it is given
abbrev pub login_text : Outcome → List ℕ
login_text outcome = path_text (codes "authinfo-file") outcome.authinfo_file

-- the settings of the peers' state: its files if they are given, and when they are written unless it is the default
abbrev pub state_text : Outcome → List ℕ
state_text outcome =
    path_text (codes "status-json") outcome.status_json ++ path_text (codes "metrics-file") outcome.metrics_file
    ++ period_text outcome.status_period

-- the settings of the file that are always printed
abbrev pub file_text : Outcome → List ℕ
file_text outcome =
    line outside (codes "news-spool") (text_value outcome.news_spool)
    ++ line outside (codes "backlog-directory") (text_value outcome.backlog_directory)
    ++ line outside (codes "status-file") (text_value outcome.status_file)
    ++ line outside (codes "unknown-limit") (decimal outcome.unknown_limit)

-- the settings of a peer: where and how many connections there are
abbrev pub connections_text : Settings → List ℕ
connections_text peer =
    line inside (codes "ip-name") (text_value peer.ip_name) ++ line inside (codes "port-number") (decimal peer.port)
    ++ line inside (codes "streaming") (switch_value peer.streaming)
    ++ line inside (codes "max-connections") (decimal peer.max_connections)
    ++ line inside (codes "max-queue-size") (decimal peer.max_queue)

-- when CHECK is left out
abbrev pub check_text : Settings → List ℕ
check_text peer =
    line inside (codes "no-check-high") (fraction_value peer.check_high)
    ++ line inside (codes "no-check-low") (fraction_value peer.check_low)
    ++ line inside (codes "no-check-filter") (decimal peer.check_filter)

-- how long it waits
abbrev pub waits_text : Settings → List ℕ
waits_text peer =
    line inside (codes "response-timeout") (decimal peer.response_timeout)
    ++ line inside (codes "initial-reconnect-time") (decimal peer.first_wait)
    ++ line inside (codes "max-reconnect-time") (decimal peer.most_wait)
    ++ line inside (codes "drop-deferred") (switch_value peer.drop_deferred)

-- the least factor, in hundredths, by which the limit comes to the high water
abbrev pub least_factor : (limit high : ℕ) → ℕ
least_factor limit high = (high * 100 + (limit - 1)) / limit

-- a high water that its key cannot have was made by a factor
abbrev pub is_made : (limit high : ℕ) → Bool
is_made limit high = nat_lt 4294967296 high && nat_le high 429496729600 && nat_le 1 limit && nat_le limit 4294967296

-- the high water of a backlog, or the least factor that makes it
abbrev pub high_text : (limit high : ℕ) → List ℕ
high_text limit high =
    if is_made limit high
    then line inside (codes "backlog-factor") (fraction_value (least_factor limit high))
    else line inside (codes "backlog-limit-highwater") (decimal high)

abbrev pub backlog_text : Settings → List ℕ
backlog_text peer =
    line inside (codes "backlog-limit") (decimal peer.backlog_limit) ++ high_text peer.backlog_limit peer.backlog_high

-- the line that opens a peer's block
abbrev pub head_text : (name : List ℕ) → List ℕ
head_text name = codes "peer " ++ name ++ codes " {" ++ 10 ∷ []

-- the last settings of a peer, and the end of its block
abbrev pub rest_text : Settings → List ℕ
rest_text peer = waits_text peer ++ backlog_text peer ++ 125 ∷ 10 ∷ []

-- a peer's block
abbrev pub peer_text : Settings → List ℕ
peer_text peer = head_text peer.name ++ connections_text peer ++ check_text peer ++ rest_text peer

-- The settings of the file, each with its value in force, and then each peer's block with all its settings.
abbrev pub conf_text : Outcome → List ℕ
conf_text outcome =
    file_text outcome ++ innd_text outcome ++ login_text outcome ++ state_text outcome
    ++ flat_map peer_text outcome.peers
