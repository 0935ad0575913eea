-- What holds of each world that steps have made, stopped or running.
use Rattle.std.specs.Prelude.{◌≡◌, ◌↔◌, ◌<◌, ◌≤◌, ◌==◌, ◌^◌, ◌++◌, ℕ, true, false, Some, List, [], ◌∷◌, map, slice_get}
use Rattle.std.specs.Prelude.{Contains}
use Rattle.std.specs.Cmp.Lexicographic.{slice_cmp}
use Rattle.std.specs.List.{AllByRecursion, IsDistinct}
use Rattle.std.specs.List.Sorted.{IsStrictlyIncreasing}
use Rattle.std.specs.Ordering.{nat_cmp}
use Rattle.std.specs.declared.cmp.Ordering.TheVariants.{Less}
use Rattle.conn_core.specs.Commands.{Held}
use Rattle.conn_core.specs.History.{held}
use Rattle.conn_core.specs.Stands.{Arises}
use Rattle.conn_core.specs.declared.options.Options.{Options}
use Rattle.peer_queue.specs.DebtPlace.{IsHeldBy}
use Rattle.peer_queue.specs.Settled.{key_in}
use Rattle.sections.specs.Tapes.{mark_at}
use Rattle.world_core.specs.Past.{ConnPast, Life, Past, PeerPast, conn_at, options_of}
use Rattle.world_core.specs.Safe.{HasAcknowledged}
use Rattle.world_core.specs.Exchange.{unsettled}

-- ---- all tapes

-- in byte order, the first comes before the second
abbrev pub IsBefore : List ℕ → List ℕ → Type 0
IsBefore one other = slice_cmp nat_cmp one other ≡ Less

-- each name comes before all that follow it
abbrev pub NamesRise : List (List ℕ) → Type 0
NamesRise [] = Unit {0}
NamesRise (name ∷ names) = AllByRecursion (IsBefore name) names × NamesRise names

-- the names of peers, in order
abbrev pub names_of : List PeerPast → List (List ℕ)
names_of peers = map (λ (peer : PeerPast). peer.conf.name) peers

-- a peer that was flushed since this number was kept has acknowledged all that the lines up to it made
abbrev pub HasParted : ℕ → PeerPast → Type 0
HasParted number peer = peer.parted ≡ true → HasAcknowledged number peer

-- The names rise; the marks and numbers are in order; and what the intake has noted, or is about to note, is
-- acknowledged at the peers.
pub record IsSound (past : Past) : Type 0 where
  pub names : NamesRise (names_of past.peers)
  pub fits : past.last < 2 ^ 64
  pub marked : mark_at past.intake ≤ past.last
  pub acknowledged : AllByRecursion (HasAcknowledged (mark_at past.intake)) past.peers
  pub kept : (number : ℕ) → past.begun ≡ Some number → number ≤ past.last
  pub parted : (number : ℕ) → past.begun ≡ Some number → AllByRecursion (HasParted number) past.peers

-- ---- connections

-- the numbers that a connection has: those of outcomes that have not gone to its peer yet, and of debts that it holds
abbrev pub numbers_at : Options → ConnPast → List ℕ
numbers_at options conn =
    map key_in (unsettled options conn) ++ map (λ (x : Held). x.debt.0) (held options conn.transcript)

-- the connection has a peer, its transcript can have come about, and it has no number twice
pub record IsSoundConn (peers : List PeerPast) (conn : ConnPast) : Type 0 where
  pub peer : PeerPast
  pub here : slice_get peers conn.rank ≡ Some peer
  pub arises : Arises (options_of peer.conf) conn.transcript
  pub once : IsDistinct (λ one other. one == other) (numbers_at (options_of peer.conf) conn)

-- a connection of this number, to the peer at this rank, has this number of a debt
pub record HasNumber (life : Life) (rank : ℕ) (peer : PeerPast) (id number : ℕ) : Type 0 where
  pub conn : ConnPast
  pub here : conn_at life.conns id ≡ Some conn
  pub its : conn.rank ≡ rank
  pub has : Contains (numbers_at (options_of peer.conf) conn) number

-- Connections rise by their numbers, which are all of connections that were made. A connection holds a number at its
-- peer's station exactly if it has the number, so that no outcome has a number that is not held. A world that has
-- stopped has no connections.
pub record AreTied (life : Life) : Type 0 where
  pub rising : IsStrictlyIncreasing (map (λ (entry : ℕ × ConnPast). entry.0) life.conns)
  pub made : AllByRecursion (λ (entry : ℕ × ConnPast). entry.0 ≤ life.connected) life.conns
  pub each : AllByRecursion (λ (entry : ℕ × ConnPast). IsSoundConn life.past.peers entry.1) life.conns
  pub held : (rank id number : ℕ) (peer : PeerPast) → slice_get life.past.peers rank ≡ Some peer
      → IsHeldBy peer.places id number ↔ HasNumber life rank peer id number
  pub none : life.running ≡ false → life.conns ≡ []

pub record IsSoundLife (life : Life) : Type 0 where
  pub past : IsSound life.past
  pub conns : AreTied life
