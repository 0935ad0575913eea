-- The values of a peer, computed from the uses of keys (profile).
use Rattle.std.specs.Prelude.{◌==◌, ◌&&◌, ◌-◌, ◌*◌, ◌/◌, ℕ, suc, zero, Bool, false, true, List, [], ◌∷◌}
use Rattle.std.specs.Prelude.{is_none, nat_lt, map, reverse, Option, None, Some, Result, Ok, Err, unwrap_or}
use Rattle.std.specs.Prelude.{if◌then◌else◌}
use Rattle.std.specs.List.{find, slice_index}
use Rattle.std.specs.Option.{option_map}
use Rattle.feed_conf.specs.Lexemes.{Lexeme}
use Rattle.feed_conf.specs.Keys.{row_of}
use Rattle.feed_conf.specs.Values.{Value, TextOf, SwitchOf, NumberOf}
use Rattle.feed_conf.specs.Reading.{Use, Declared, Report, State, reading}
use Rattle.feed_conf.specs.declared.key.SettingKey.{SettingKey}
use Rattle.feed_conf.specs.declared.key.SettingKey.TheVariants.{IpName, PortNumber, Streaming, MaxConnections}
use Rattle.feed_conf.specs.declared.key.SettingKey.TheVariants.{MaxQueueSize}
use Rattle.feed_conf.specs.declared.key.SettingKey.TheVariants.{NoCheckHigh, NoCheckLow, NoCheckFilter, ResponseTimeout}
use Rattle.feed_conf.specs.declared.key.SettingKey.TheVariants.{InitialReconnectTime, MaxReconnectTime, DropDeferred}
use Rattle.feed_conf.specs.declared.key.SettingKey.TheVariants.{BacklogLimit, BacklogLimitHighwater, BacklogFactor}
use Rattle.feed_conf.specs.declared.key.SettingKey.TheVariants.{NewsSpool}
use Rattle.feed_conf.specs.declared.key.SettingKey.TheVariants.{BacklogDirectory, StatusFile, UnknownLimit}
use Rattle.feed_conf.specs.declared.key.SettingKey.TheVariants.{InndSpool, InndCycbuffs, SyncSpool}
use Rattle.feed_conf.specs.declared.key.SettingKey.TheVariants.{AuthinfoFile, StatusJson, MetricsFile, StatusPeriod}
use Rattle.feed_conf.specs.declared.fault.ConfFault.{ConfFault}
use Rattle.feed_conf.specs.declared.fault.ConfFaultKind.TheVariants.{LowAboveHigh, NoCycbuffs}

-- the later of two values, if there is one
abbrev pub later : Option Value → Option Value → Option Value
later None earlier = earlier
later (Some value) earlier = Some value

-- the value of a use, if it is one of this key in this block; a key is known by its index in the table
abbrev pub value_at : ℕ → ℕ → Use → Option Value
value_at block index entry =
    if entry.block == block && (row_of entry.key).index == index then Some entry.value else None

-- the value of the last use in a block
abbrev pub last_value : ℕ → ℕ → List Use → Option Value
last_value block index [] = None
last_value block index (entry ∷ uses) = later (last_value block index uses) (value_at block index entry)

-- the number of the block around this one, 0 for the scope of the file
abbrev pub block_around : List ℕ → ℕ → ℕ
block_around outer block = slice_index outer (block - 1)

-- a block and at most this many of those around it, from the inside out
abbrev pub path_within : (most : ℕ) → List ℕ → ℕ → List ℕ
path_within zero outer block = []
path_within (suc most) outer zero = []
path_within (suc most) outer (suc block) = suc block ∷ path_within most outer (block_around outer (suc block))

-- a block and all those around it: each has a smaller number, so its own number bounds how many there are
abbrev pub path_of : List ℕ → ℕ → List ℕ
path_of outer block = path_within block outer block

-- The value along these blocks, from the inside out: the first block that has one counts. The scope of the file,
-- block 0, comes last.
abbrev pub value_along : ℕ → List Use → List ℕ → Option Value
value_along index uses [] = last_value 0 index uses
value_along index uses (block ∷ outer) = later (last_value block index uses) (value_along index uses outer)

-- The value of a key at a peer: the last use in its own block, otherwise in the innermost group around it, and so
-- outward, otherwise in the scope of the file, otherwise the default.
abbrev pub value_of : List Use → (outer : List ℕ) → Declared → SettingKey → Value
value_of uses outer peer key =
    unwrap_or (value_along (row_of key).index uses (path_of outer peer.block)) ((row_of key).default peer.name)

-- the value of a key that is allowed only outside all blocks
abbrev pub value_in_file : List Use → SettingKey → Value
value_in_file uses key = unwrap_or (last_value 0 (row_of key).index uses) ((row_of key).default [])

-- whether a use is one of this key in the scope of the file
abbrev pub is_in_file : SettingKey → Use → Bool
is_in_file key entry = entry.block == 0 && (row_of entry.key).index == (row_of key).index

-- the line of the last use of a key in the scope of the file, 0 if there is none
abbrev pub last_line : SettingKey → List Use → ℕ
last_line key uses = unwrap_or (option_map (λ (entry : Use). entry.line) (find (is_in_file key) (reverse uses))) 0

-- the content of a value (each key has values of one kind alone)
abbrev pub number : Value → ℕ
number (TextOf octets) = 0
number (SwitchOf on) = 0
number (NumberOf n) = n

abbrev pub switch : Value → Bool
switch (TextOf octets) = false
switch (SwitchOf on) = on
switch (NumberOf number) = false

abbrev pub text : Value → List ℕ
text (TextOf octets) = octets
text (SwitchOf on) = []
text (NumberOf number) = []

-- the path that a text is; an empty text is none
abbrev pub path_in : List ℕ → Option (List ℕ)
path_in [] = None
path_in (octet ∷ octets) = Some (octet ∷ octets)

-- The high water of a backlog: as written, or if that is 0 the limit times the factor, rounded down. The factor is in
-- hundredths.
abbrev pub high_water : ℕ → ℕ → ℕ → ℕ
high_water written limit factor = if written == 0 then limit * factor / 100 else written

-- the values of a peer: shares in hundredths of a per cent, times in seconds, the backlog in octets
pub record Settings : Type 0 where
  pub name : List ℕ
  pub ip_name : List ℕ
  pub port : ℕ
  pub streaming : Bool
  pub max_connections : ℕ
  pub max_queue : ℕ
  pub check_high : ℕ
  pub check_low : ℕ
  pub check_filter : ℕ
  pub response_timeout : ℕ
  pub first_wait : ℕ
  pub most_wait : ℕ
  pub drop_deferred : Bool
  pub backlog_limit : ℕ
  pub backlog_high : ℕ

abbrev pub settings_of : List Use → (outer : List ℕ) → Declared → Settings
settings_of uses outer peer =
    let value = value_of uses outer peer in
    record {
      name = peer.name;
      ip_name = text (value IpName);
      port = number (value PortNumber);
      streaming = switch (value Streaming);
      max_connections = number (value MaxConnections);
      max_queue = number (value MaxQueueSize);
      check_high = number (value NoCheckHigh);
      check_low = number (value NoCheckLow);
      check_filter = number (value NoCheckFilter);
      response_timeout = number (value ResponseTimeout);
      first_wait = number (value InitialReconnectTime);
      most_wait = number (value MaxReconnectTime);
      drop_deferred = switch (value DropDeferred);
      backlog_limit = number (value BacklogLimit);
      backlog_high =
          high_water (number (value BacklogLimitHighwater)) (number (value BacklogLimit))
          (number (value BacklogFactor));
    }

-- a peer whose low share is above its high share
abbrev pub is_low_above_high : List Use → (outer : List ℕ) → Declared → Bool
is_low_above_high uses outer peer =
    nat_lt (number (value_of uses outer peer NoCheckHigh)) (number (value_of uses outer peer NoCheckLow))

-- CNFS buffers are to be synced, and innd's list of them is not given
abbrev pub lacks_cycbuffs : List Use → Bool
lacks_cycbuffs uses =
    switch (value_in_file uses SyncSpool) && is_none (path_in (text (value_in_file uses InndCycbuffs)))

pub record Outcome : Type 0 where
  pub news_spool : List ℕ
  pub backlog_directory : List ℕ
  pub status_file : List ℕ
  -- the most octets that are kept of lines that name unknown peers
  pub unknown_limit : ℕ
  -- innd's spool and its list of CNFS buffers, if they are given
  pub innd_spool : Option (List ℕ)
  pub innd_cycbuffs : Option (List ℕ)
  -- whether innd's CNFS buffers are synced before lines are acknowledged
  pub sync_spool : Bool
  -- the file of accounts at peers, if it is given
  pub authinfo_file : Option (List ℕ)
  -- the files into which the state of all peers is written, if they are given, and every how many seconds that is
  pub status_json : Option (List ℕ)
  pub metrics_file : Option (List ℕ)
  pub status_period : ℕ
  -- the peers in the order of their declarations
  pub peers : List Settings
  -- what is ignored or limited, in reading order
  pub reports : List Report

abbrev pub outcome_of : State → Outcome
outcome_of state = record {
  news_spool = text (value_in_file state.uses NewsSpool);
  backlog_directory = text (value_in_file state.uses BacklogDirectory);
  status_file = text (value_in_file state.uses StatusFile);
  unknown_limit = number (value_in_file state.uses UnknownLimit);
  innd_spool = path_in (text (value_in_file state.uses InndSpool));
  innd_cycbuffs = path_in (text (value_in_file state.uses InndCycbuffs));
  sync_spool = switch (value_in_file state.uses SyncSpool);
  authinfo_file = path_in (text (value_in_file state.uses AuthinfoFile));
  status_json = path_in (text (value_in_file state.uses StatusJson));
  metrics_file = path_in (text (value_in_file state.uses MetricsFile));
  status_period = number (value_in_file state.uses StatusPeriod);
  peers = map (settings_of state.uses state.outer) state.peers;
  reports = state.reports;
}

-- After the whole text, the first peer whose shares are crossed is a fault, at the line of its declaration. If there is
-- none, a list of CNFS buffers that is lacking is a fault, at the line of the last use of `sync-spool`.
abbrev pub judged_by : Option Declared → (lacks_cycbuffs : Bool) → State → Result Outcome ConfFault
judged_by None false state = Ok (outcome_of state)
judged_by None true state = Err (record { line = last_line SyncSpool state.uses; kind = NoCycbuffs })
judged_by (Some peer) lacks_cycbuffs state = Err (record { line = peer.line; kind = LowAboveHigh })

abbrev pub judged : Result State ConfFault → Result Outcome ConfFault
judged (Ok state) =
    judged_by (find (is_low_above_high state.uses state.outer) state.peers) (lacks_cycbuffs state.uses) state
judged (Err fault) = Err fault

-- what lines with these lexemes mean, or their first fault
abbrev pub meaning : List (List Lexeme) → Result Outcome ConfFault
meaning lines = judged (reading lines)
