-- What is seen of a post.
use Rattle.std.specs.Prelude.{◌≡◌, ℕ, List, map, sum_by, length}
use Rattle.disk_model.specs.declared.Disk.{Ghosts}
use Rattle.ledger_core.specs.Shape.{Shape}
use Rattle.ledger_core.specs.State.{State}
use Rattle.peer_queue.specs.Front.{front_shape}
use Rattle.peer_queue.specs.Words.{ledger_of}
use Rattle.flusher.specs.Names.{Counts, Names, Pair}
use Rattle.flusher.specs.declared.naming.BlankPair.{BlankPair}
use Rattle.flusher.specs.declared.naming.BlankQueue.{BlankQueue}
use Rattle.flusher.specs.declared.naming.Blanks.{Blanks}
use Rattle.flusher.specs.declared.peer.PostPeer.{PostPeer}
use Rattle.flusher.specs.declared.peer.Sums.{Sums}
use Rattle.flusher.specs.declared.closing.ClosedPeer.{ClosedPeer}

-- the names of the peers, and what their stations had counted when it was made
pub record View : Type 0 where
  pub names : List (List ℕ)
  pub opened : List Sums

-- what the ledger of a tape counts
abbrev pub sums_of : State → Sums
sums_of state = record { taken = state.taken; answered = state.answered; dropped = state.dropped }

-- what the ledger of a tape counts, by its shape
abbrev pub sums_of_shape : Shape → Sums
sums_of_shape shape = record { taken = shape.taken; answered = shape.answered; dropped = shape.dropped }

-- all of these added up
abbrev pub total : List Sums → Counts
total sums = record {
  taken = sum_by (λ (s : Sums). s.taken) sums;
  answered = sum_by (λ (s : Sums). s.answered) sums;
  dropped = sum_by (λ (s : Sums). s.dropped) sums;
}

abbrev pub pair_of : BlankPair → Pair
pair_of pair = record { workers = pair.workers.name; stations = pair.stations.name }

-- Unused token ledgers, and queues, for `peers` peers. A token ledger has as many parts as there are holders of a
-- share of it: the intake alone for what is taken; two feeders and the flusher for the other two counts; each station.
pub record IsFor (peers : ℕ) (blanks : Blanks) : Type 0 where
  pub taken : (blanks.taken.workers.parts ≡ 1) × (blanks.taken.stations.parts ≡ peers)
  pub answered : (blanks.answered.workers.parts ≡ 3) × (blanks.answered.stations.parts ≡ peers)
  pub dropped : (blanks.dropped.workers.parts ≡ 3) × (blanks.dropped.stations.parts ≡ peers)
  pub queues : length blanks.queues.items ≡ peers

module _ {D : Type 0} {g : Ghosts D} where
  -- what the station of a peer counts
  abbrev pub sums_at : PostPeer D g → Sums
  sums_at peer = sums_of (ledger_of peer.station)

  -- the names of these token ledgers and queues, for these peers
  abbrev pub names_of : Blanks → List (PostPeer D g) → Names
  names_of blanks peers =
      record {
        taken = pair_of blanks.taken;
        answered = pair_of blanks.answered;
        dropped = pair_of blanks.dropped;
        peers = length peers;
        opened = total (map sums_at peers);
        tables = map (λ (q : BlankQueue). q.queue.table.shared.table_id) blanks.queues.items;
      }

  -- what the front counts, of a peer that was taken from a post
  abbrev pub sums_in : ClosedPeer D g → Sums
  sums_in peer = sums_of_shape (front_shape peer.ends.front)
