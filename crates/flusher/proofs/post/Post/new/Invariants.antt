use Rattle.std.specs.Prelude.{◌≡◌, ◌+◌, ◌≤◌, ◌++◌, map, length}
use Rattle.std.specs.List.{All}
use Rattle.std.specs.Vec.{vec_capacity}
use Rattle.peer_queue.specs.Words.{ledger_of}
use Rattle.flusher.specs.Post.{sums_at, total}
use Rattle.flusher.specs.Sealed.{IsFlushed}
use Rattle.flusher.proofs.post.Post.new.Given as goal

abbrev pub invariant-loop-peer : goal.invariant-loop-peer
invariant-loop-peer g l =
    let left = l.peer-iterator.rest.items in
    let sums = total (map (λ q. q.opened) l.made.items) in
    (goal.iterator-loop-peer g).can_next l.peer-iterator
    × (goal.iterator-loop-peer g).is_finite l.peer-iterator
    × (map (λ q. q.name) l.made.items ++ map (λ p. p.name) left ≡ map (λ p. p.name) l.fn.peers.items)
    × (map (λ q. q.opened) l.made.items ++ map sums_at left ≡ map sums_at l.fn.peers.items)
    × (l.marks.items ++ map (λ p. (ledger_of p.station).mark) left
    ≡ map (λ p. (ledger_of p.station).mark) l.fn.peers.items)
    × (length l.made.items + length left ≡ length l.fn.peers.items)
    × (length l.marks.items + length left ≡ length l.fn.peers.items)
    × (length l.fn.peers.items ≤ vec_capacity l.made)
    × (length l.fn.peers.items ≤ vec_capacity l.marks)
    × (l.openings.taken.rest.parts ≡ length left)
    × (l.openings.answered.rest.parts ≡ length left)
    × (l.openings.dropped.rest.parts ≡ length left)
    × (l.openings.taken.rest.amount ≡ 0)
    × (l.openings.answered.rest.amount ≡ 0)
    × (l.openings.dropped.rest.amount ≡ 0)
    × (l.openings.taken.book.total ≡ sums.taken)
    × (l.openings.answered.book.total ≡ sums.answered)
    × (l.openings.dropped.book.total ≡ sums.dropped)
    × (map (λ q. q.queue.table.shared.table_id) l.made.items
    ++ map (λ q. q.queue.table.shared.table_id) l.queues.rest.items ≡ g.N.Naming.names.tables)
    × (length l.queues.rest.items ≡ length left)
    × (l.place ≡ length l.made.items)
    × All (λ p. IsFlushed p.station) left
