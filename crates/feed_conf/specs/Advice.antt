-- Messages on settings that are ignored, limited or without effect, and on a configuration without peers
-- (docs/MANUAL.md).
use Rattle.std.specs.Prelude.{◌&&◌, ◌||◌, ℕ, Bool, true, false, List, [], ◌∷◌, ◌++◌, Option, None, Some}
use Rattle.std.specs.Prelude.{codes, flat_map, if◌then◌else◌}
use Rattle.std.specs.Str.{bytes_eq}
use Rattle.feed_conf.specs.Explanation.{place_text}
use Rattle.feed_conf.specs.Keys.{key_of}
use Rattle.feed_conf.specs.Reading.{Report}
use Rattle.feed_conf.specs.Settings.{Outcome, Settings}
use Rattle.feed_conf.specs.Values.{spells_false}
use Rattle.feed_conf.specs.declared.key.SettingKey.{SettingKey}

-- settings of INN by which a connection logs in
abbrev pub is_login : List ℕ → Bool
is_login name = bytes_eq name (codes "username") || bytes_eq name (codes "password")

-- settings of INN that choose the source address of a connection
abbrev pub is_source : List ℕ → Bool
is_source name =
    bytes_eq name (codes "bindaddress") || bytes_eq name (codes "bindaddress6") || bytes_eq name (codes "force-ipv4")

-- settings of INN that let the number of connections grow
abbrev pub is_growth : List ℕ → Bool
is_growth name =
    bytes_eq name (codes "initial-connections") || bytes_eq name (codes "dynamic-method")
    || bytes_eq name (codes "dynamic-backlog-low") || bytes_eq name (codes "dynamic-backlog-high")
    || bytes_eq name (codes "dynamic-backlog-filter") || bytes_eq name (codes "min-queue-connection")

-- settings of INN that close connections after a time
abbrev pub is_closing : List ℕ → Bool
is_closing name = bytes_eq name (codes "close-period") || bytes_eq name (codes "article-timeout")

-- settings of INN's own logs, status pages and files, and of its process
abbrev pub is_house : List ℕ → Bool
is_house name =
    bytes_eq name (codes "pid-file") || bytes_eq name (codes "log-file") || bytes_eq name (codes "log-time-format")
    || bytes_eq name (codes "debug-level") || bytes_eq name (codes "debug-shrinking")
    || bytes_eq name (codes "gen-html") || bytes_eq name (codes "connection-stats")
    || bytes_eq name (codes "stats-period") || bytes_eq name (codes "stats-reset")
    || bytes_eq name (codes "fast-exit") || bytes_eq name (codes "use-mmap") || bytes_eq name (codes "stdio-fdmax")

-- settings of INN that say how often it looks for backlog files while it runs
abbrev pub is_import : List ℕ → Bool
is_import name = bytes_eq name (codes "backlog-rotate-period") || bytes_eq name (codes "backlog-newfile-period")

-- settings of INN that say when its files and names are renewed, and what waits in memory
abbrev pub is_timing : List ℕ → Bool
is_timing name =
    bytes_eq name (codes "backlog-ckpt-period") || bytes_eq name (codes "backlog-highwater")
    || bytes_eq name (codes "host-queue-highwater") || bytes_eq name (codes "initial-sleep")
    || bytes_eq name (codes "dns-retry") || bytes_eq name (codes "dns-expire")

-- settings of INN for mail, which its innfeed does not use
abbrev pub is_mail : List ℕ → Bool
is_mail name =
    bytes_eq name (codes "deliver-authname") || bytes_eq name (codes "deliver-password")
    || bytes_eq name (codes "deliver-username") || bytes_eq name (codes "deliver-realm")
    || bytes_eq name (codes "deliver-rcpt-to") || bytes_eq name (codes "deliver-to-header")

-- settings of INN that are off by default
abbrev pub is_off_by_default : List ℕ → Bool
is_off_by_default name =
    bytes_eq name (codes "force-ipv4") || bytes_eq name (codes "min-queue-connection")
    || bytes_eq name (codes "no-backlog") || bytes_eq name (codes "backlog-feed-first")

-- settings of INN for the address of a connection
abbrev pub is_address : List ℕ → Bool
is_address name = bytes_eq name (codes "bindaddress") || bytes_eq name (codes "bindaddress6")

-- INN's default addresses
abbrev pub is_default_address : (name value : List ℕ) → Bool
is_default_address name value = is_address name && bytes_eq value (codes "any")

-- settings of INN whose default is ten minutes
abbrev pub is_ten_minutes : List ℕ → Bool
is_ten_minutes name = bytes_eq name (codes "article-timeout") || bytes_eq name (codes "backlog-newfile-period")

-- INN's default times, in seconds
abbrev pub is_default_time : (name value : List ℕ) → Bool
is_default_time name value =
    (is_ten_minutes name && bytes_eq value (codes "600"))
    || (bytes_eq name (codes "backlog-rotate-period") && bytes_eq value (codes "60"))
    || (bytes_eq name (codes "close-period") && bytes_eq value (codes "86400"))

-- INN's defaults for the waters of a queue by which the number of connections grows
abbrev pub is_default_water : (name value : List ℕ) → Bool
is_default_water name value =
    (bytes_eq name (codes "dynamic-backlog-low") && bytes_eq value (codes "20.0"))
    || (bytes_eq name (codes "dynamic-backlog-high") && bytes_eq value (codes "50.0"))
    || (bytes_eq name (codes "dynamic-backlog-filter") && bytes_eq value (codes "0.7"))

-- INN's defaults for how the number of connections grows
abbrev pub is_default_growth : (name value : List ℕ) → Bool
is_default_growth name value =
    (bytes_eq name (codes "initial-connections") && bytes_eq value (codes "1"))
    || (bytes_eq name (codes "dynamic-method") && bytes_eq value (codes "3")) || is_default_water name value

-- INN's default for a setting that would change the feed (innfeed.conf(5))
abbrev pub is_inn_default : (name value : List ℕ) → Bool
is_inn_default name value =
    (is_off_by_default name && spells_false value) || is_default_address name value || is_default_time name value
    || is_default_growth name value

-- what it means for the feed that a setting is ignored whose name the profile does not have, unless the value is INN's
-- default
abbrev pub changed_text : List ℕ → List ℕ
changed_text name =
    if is_login name then codes "changes the feed: innfeed does not log in to its peers" else (
    if is_source name then codes "changes the feed: the system chooses the addresses of connections" else (
    if is_growth name then codes "changes the feed: connections are opened as the queue grows" else (
    if is_closing name
    then codes "changes the feed: no connection closes for its age; idle ones do with --follow" else (
    if bytes_eq name (codes "no-backlog") then codes "changes the feed: what a peer does not take stays queued" else (
    if bytes_eq name (codes "backlog-feed-first")
    then codes "changes the feed: the oldest article is offered first" else (
    if is_import name then codes "changes the feed: backlog files are taken in at the start alone" else (
    if bytes_eq name (codes "input-file") then codes "changes the feed: FUNNEL is an argument" else (
    if is_house name || is_timing name || is_mail name then codes "does not change the feed" else
    codes "innfeed.conf(5) has no such setting"))))))))

-- the same for any value
abbrev pub foreign_text : (name value : List ℕ) → List ℕ
foreign_text name value =
    if is_inn_default name value then codes "does not change the feed: this is INN's default" else changed_text name

-- what it means that a setting of this name is ignored
abbrev pub effect_text : (name value : List ℕ) → Option SettingKey → List ℕ
effect_text name value None = foreign_text name value
effect_text name value (Some key) = codes "belongs outside all blocks"

-- what became of a setting
abbrev pub advice_text : Report → Bool → List ℕ
advice_text report true = codes ": limited; the greatest value that is allowed is taken"
advice_text report false = codes ": ignored; " ++ effect_text report.key report.value (key_of report.key)

-- the line on a setting that is ignored or limited
abbrev pub report_text : (file : List ℕ) → Report → List ℕ
report_text file report = place_text file report.line ++ report.key ++ advice_text report report.limited ++ 10 ∷ []

-- the line on a list of CNFS buffers without innd's spool
abbrev pub lone_cycbuffs_text : (file : List ℕ) → List ℕ
lone_cycbuffs_text file = file ++ codes ": innd-cycbuffs has no effect without innd-spool" ++ 10 ∷ []

-- the line on innd's spool and its list of CNFS buffers: the latter is used only beside the former
abbrev pub cycbuffs_text : (file : List ℕ) → (spool cycbuffs : Option (List ℕ)) → List ℕ
cycbuffs_text file None (Some cycbuffs) = lone_cycbuffs_text file
cycbuffs_text file None None = []
cycbuffs_text file (Some spool) cycbuffs = []

-- the line on a configuration without peers
abbrev pub no_peers_text : (file : List ℕ) → List ℕ
no_peers_text file = file ++ codes ": no peers; nothing will be fed" ++ 10 ∷ []

-- the line on a configuration with these peers
abbrev pub peers_text : (file : List ℕ) → List Settings → List ℕ
peers_text file [] = no_peers_text file
peers_text file (peer ∷ peers) = []

-- The lines on settings: one for each that is ignored or limited, in reading order, one if innd's list of CNFS
-- buffers is given without its spool, and one if there are no peers.
abbrev pub advice : (file : List ℕ) → Outcome → List ℕ
advice file outcome =
    flat_map (report_text file) outcome.reports ++ cycbuffs_text file outcome.innd_spool outcome.innd_cycbuffs
    ++ peers_text file outcome.peers
