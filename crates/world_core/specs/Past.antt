-- What a world has been through (profile): its state at a moment, which nothing stores.
use Rattle.std.specs.Prelude.{◌==◌, ℕ, Bool, Option, if◌then◌else◌, List, map, position, slice_set}
use Rattle.std.specs.Map.{lookup}
use Rattle.std.specs.Str.{bytes_eq}
use Rattle.disk_model.specs.declared.choice.Choice.{Choice}
use Rattle.feed_conf.specs.declared.conf.PeerConf.{PeerConf}
use Rattle.conn_core.specs.History.{Event as Happening}
use Rattle.conn_core.specs.declared.options.Options.{Options}
use Rattle.peer_queue.specs.DebtPlace.{Places}
use Rattle.peer_queue.specs.declared.limits.Limits.{Limits}
use Rattle.sections.specs.Tapes.{TapePast}

-- A peer: its settings, its tape, the place of each number that it is owed, and whether it was flushed since a number
-- was kept.
pub record PeerPast : Type 0 where
  pub conf : PeerConf
  pub tape : TapePast
  pub places : Places
  pub parted : Bool

-- All tapes: the peers' in byte order of their names, and the intake's; the number of the last line; and the number
-- that is kept to be sealed.
pub record Past : Type 0 where
  pub peers : List PeerPast
  pub intake : TapePast
  pub last : ℕ
  pub begun : Option ℕ

-- A connection: the rank of its peer, the octets of a reply that it holds back, its transcript, newest first, and how
-- many of its outcomes have gone to its peer.
pub record ConnPast : Type 0 where
  pub rank : ℕ
  pub unread : List ℕ
  pub transcript : List Happening
  pub settled : ℕ

-- A stop that is armed: at which tape (a peer's, by its rank, or the intake's), at which call, and what it leaves.
pub record Armed : Type 0 where
  pub rank : Option ℕ
  pub call : ℕ
  pub choice : Choice

-- A world: all tapes, the connections by rising numbers, how many were ever made, the moment, the armed stop, and
-- whether it runs.
pub record Life : Type 0 where
  pub past : Past
  pub conns : List (ℕ × ConnPast)
  pub connected : ℕ
  pub now : ℕ
  pub armed : Option Armed
  pub running : Bool

-- ---- what is looked up in it

-- the rank of the first peer of this name
abbrev pub rank_of : Past → List ℕ → Option ℕ
rank_of past name = position (λ (peer : PeerPast). bytes_eq peer.conf.name name) past.peers

-- the connection of this number
abbrev pub conn_at : List (ℕ × ConnPast) → ℕ → Option ConnPast
conn_at conns id = lookup (λ (other : ℕ). other == id) conns

-- how a connection to a peer of these settings behaves (innfeed.conf(5))
abbrev pub options_of : PeerConf → Options
options_of conf = record {
  streaming = conf.streaming;
  max_queue = conf.max_queue;
  check_high = conf.check_high;
  check_low = conf.check_low;
  check_filter = conf.check_filter;
  response_timeout = conf.response_timeout;
}

-- the limits of a peer's backlog (innfeed.conf(5))
abbrev pub limits_of : PeerConf → Limits
limits_of conf = record {
  backlog_limit = conf.backlog_limit;
  backlog_high = conf.backlog_high;
  drop_deferred = conf.drop_deferred;
}

-- ---- what is put into it: all else stays

abbrev pub with_tape : PeerPast → TapePast → PeerPast
with_tape peer tape = record peer { tape = tape }

abbrev pub with_places : PeerPast → Places → PeerPast
with_places peer places = record peer { places = places }

-- the peer at this rank is replaced
abbrev pub with_peer : Past → ℕ → PeerPast → Past
with_peer past rank peer = record past { peers = slice_set past.peers rank peer }

abbrev pub with_intake : Past → TapePast → Past
with_intake past tape = record past { intake = tape }

abbrev pub with_last : Past → ℕ → Past
with_last past number = record past { last = number }

abbrev pub with_past : Life → Past → Life
with_past life past = record life { past = past }

-- the connection of this number is replaced
abbrev pub with_conn : Life → ℕ → ConnPast → Life
with_conn life id conn = record life {
  conns = map (λ (entry : ℕ × ConnPast). if entry.0 == id then (id, conn) else entry) life.conns;
}
