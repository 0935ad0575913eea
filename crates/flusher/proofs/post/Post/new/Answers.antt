use Rattle.std.proofs.Common.{◌≡◌, ◌+◌, ◌++◌, ℕ, List, [], map, length, ap, sym, ◌∙◌, subst, arith, rules}
use Rattle.std.specs.Prelude.{Some, slice_get}
use Rattle.std.specs.List.{All}
use Rattle.std.proofs.lemmas.List.Elements.{All-head, All-rest, All-same}
use Rattle.peer_queue.specs.Words.{ledger_of}
use Rattle.flusher.specs.Post.{sums_at, total}
use Rattle.flusher.specs.Sealed.{IsFlushed}
use Rattle.flusher.proofs.Lists.{nothing, moved, moved_plain, sum_snoc, length_snoc, all_moved, at_moved}
use Rattle.flusher.proofs.post.Post.new.Goals as goal

pub loop-peer-init : goal.loop-peer-init
loop-peer-init g c =
    let peers = c.args.peers.items in
    let gives = c.into_iter-peer-iterator.ensures.into_iter_gives.0 in
    let left = c.into_iter-peer-iterator.result.rest.items in
    let queues = c.into_iter-queues.ensures.rest in
    let none : c.reserve.new.self.items ≡ [] = c.in_ok-reserve.ensures.items ∙ c.new-made.ensures.items in
    let none_marks : c.reserve-2.new.self.items ≡ [] = c.in_ok-reserve-2.ensures.items ∙ c.new-marks.ensures.items in
    let some : length left ≡ length peers = ap length gives in
    let here : g.N.Naming.names.peers ≡ length peers = ap (λ n. n.peers) c.requires.names in
    let zero : length c.reserve.new.self.items ≡ 0 = ap length none in
    let zero_marks : length c.reserve-2.new.self.items ≡ 0 = ap length none_marks in (
      tt,
      tt,
      (λ i. map (λ q. q.name) (none i) ++ map (λ p. p.name) (gives i)),
      (λ i. map (λ q. q.opened) (none i) ++ map sums_at (gives i)),
      (λ i. none_marks i ++ map (λ p. (ledger_of p.station).mark) (gives i)),
      omega (arith, some, zero),
      omega (arith, some, zero_marks),
      omega (arith, c.in_ok-reserve.ensures.ok, c.len.ensures),
      omega (arith, c.in_ok-reserve-2.ensures.ok, c.len-2.ensures),
      c.new.ensures.1 ∙ (here ∙ sym some),
      c.new-2.ensures.1 ∙ (here ∙ sym some),
      c.new-3.ensures.1 ∙ (here ∙ sym some),
      c.new.ensures.2,
      c.new-2.ensures.2,
      c.new-3.ensures.2,
      c.new.ensures.0 ∙ sym (ap (λ m. (total (map (λ q. q.opened) m)).taken) none),
      c.new-2.ensures.0 ∙ sym (ap (λ m. (total (map (λ q. q.opened) m)).answered) none),
      c.new-3.ensures.0 ∙ sym (ap (λ m. (total (map (λ q. q.opened) m)).dropped) none),
      (λ i. map (λ q. q.queue.table.shared.table_id) (none i) ++ map (λ q. q.queue.table.shared.table_id) (queues i))
          ∙ sym (ap (λ n. n.tables) c.requires.names),
      ap length queues ∙ (c.requires.blanks.queues ∙ sym some),
      sym zero,
      All-same (λ p. IsFlushed p.station) left peers gives c.requires.flushed,
    )

pub loop-peer-preserved : goal.loop-peer-preserved
loop-peer-preserved g c =
    let l = c.loop-peer in
    let was = l.invariant in
    let step = c.in-Some.ensures.steps.0 in
    let left = c.next.new.self.rest.items in
    let peer = c.in-Some.peer in
    let blank = c.in-Some-next.blank in
    let step_queues = c.in-Some-next.ensures.items in
    let left_queues = c.next-in-loop-peer.new.self.rest.items in
    let one = c.in_ok-desk.field-0 in
    let d = c.in_ok-desk.ensures in
    let made = c.push_reserved-in-loop-peer.ensures.items in
    let marks = c.push_reserved.ensures.items in
    let fewer : length l.peer-iterator.rest.items ≡ length left + 1 = ap length step ∙ omega arith in
    let more : length c.push_reserved-in-loop-peer.new.self.items ≡ length l.made.items + 1 = ap length made
    ∙ length_snoc _ _ in
    let more_marks : length c.push_reserved.new.self.items ≡ length l.marks.items + 1 = ap length marks
    ∙ length_snoc _ _ in
    let fewer_queues : length l.queues.rest.items ≡ length left_queues + 1 = ap length step_queues ∙ omega arith in (
      tt,
      tt,
      ap (λ m. map (λ q. q.name) m ++ map (λ p. p.name) left) made
          ∙ (moved (λ p. p.name) (λ q. q.name) l.made.items one peer left d.name
          ∙ (sym (ap (λ r. map (λ q. q.name) l.made.items ++ map (λ p. p.name) r) step) ∙ was.2)),
      ap (λ m. map (λ q. q.opened) m ++ map sums_at left) made
          ∙ (moved sums_at (λ q. q.opened) l.made.items one peer left d.opened
          ∙ (sym (ap (λ r. map (λ q. q.opened) l.made.items ++ map sums_at r) step) ∙ was.3)),
      ap (λ m. m ++ map (λ p. (ledger_of p.station).mark) left) marks
          ∙ (moved_plain (λ p. (ledger_of p.station).mark) l.marks.items c.mark.result peer left c.mark.ensures
          ∙ (sym (ap (λ r. l.marks.items ++ map (λ p. (ledger_of p.station).mark) r) step) ∙ was.4)),
      omega (arith, more, fewer, was.5),
      omega (arith, more_marks, fewer, was.6),
      search rules,
      search rules,
      omega (arith, fewer, d.parts.0, was.9),
      omega (arith, fewer, d.parts.1, was.10),
      omega (arith, fewer, d.parts.2, was.11),
      d.nothing.0,
      d.nothing.1,
      d.nothing.2,
      d.totals.0 ∙ (ap (λ n. n + one.opened.taken) was.15
          ∙ sym (ap (λ m. (total (map (λ q. q.opened) m)).taken) made
          ∙ sum_snoc (λ s. s.taken) (λ q. q.opened) l.made.items one)),
      d.totals.1 ∙ (ap (λ n. n + one.opened.answered) was.16
          ∙ sym (ap (λ m. (total (map (λ q. q.opened) m)).answered) made
          ∙ sum_snoc (λ s. s.answered) (λ q. q.opened) l.made.items one)),
      d.totals.2 ∙ (ap (λ n. n + one.opened.dropped) was.17
          ∙ sym (ap (λ m. (total (map (λ q. q.opened) m)).dropped) made
          ∙ sum_snoc (λ s. s.dropped) (λ q. q.opened) l.made.items one)),
      ap (λ m. map (λ q. q.queue.table.shared.table_id) m ++ map (λ q. q.queue.table.shared.table_id) left_queues) made
          ∙ (moved (λ q. q.queue.table.shared.table_id) (λ q. q.queue.table.shared.table_id) l.made.items one blank
          left_queues d.queue ∙ (sym (ap (λ r. map (λ q. q.queue.table.shared.table_id) l.made.items
          ++ map (λ q. q.queue.table.shared.table_id) r) step_queues) ∙ was.18)),
      omega (arith, fewer, fewer_queues, was.19),
      omega (arith, more, was.20),
      All-rest (λ p. IsFlushed p.station) peer left l.peer-iterator.rest.items step was.21,
    )

pub desk-requires-clause-parts : goal.desk-requires-clause-parts
desk-requires-clause-parts g c =
    let was = c.loop-peer.invariant in
    let fewer : length c.loop-peer.peer-iterator.rest.items ≡ length c.next.new.self.rest.items + 1 =
    ap length c.in-Some.ensures.steps.0 ∙ omega arith in
    (omega (arith, fewer, was.9), omega (arith, fewer, was.10), omega (arith, fewer, was.11))

pub desk-requires-clause-flushed : goal.desk-requires-clause-flushed
desk-requires-clause-flushed g c =
    All-head (λ p. IsFlushed p.station) c.in-Some.peer c.next.new.self.rest.items
    (subst (λ (ps : List _). All (λ p. IsFlushed p.station) ps) c.in-Some.ensures.steps.0 c.loop-peer.invariant.21)

pub desk-requires-clause-tied : goal.desk-requires-clause-tied
desk-requires-clause-tied g c =
    let l = c.loop-peer in
    let blank = c.in-Some-next.blank in
    let tables = g.N.Naming.names.tables in
    subst (λ (n : ℕ). slice_get tables n ≡ Some blank.queue.table.shared.table_id) (sym l.invariant.20)
    (at_moved (λ q. q.queue.table.shared.table_id) (λ q. q.queue.table.shared.table_id) l.made.items
    c.next-in-loop-peer.new.self.rest.items blank tables
    (sym (ap (λ r. map (λ q. q.queue.table.shared.table_id) l.made.items
    ++ map (λ q. q.queue.table.shared.table_id) r) c.in-Some-next.ensures.items) ∙ l.invariant.18))

pub invariant_of-post : goal.invariant_of-post
invariant_of-post g c =
    let l = c.loop-peer in
    let none : l.peer-iterator.rest.items ≡ [] = nothing _ (search rules) in
    let zero : length l.peer-iterator.rest.items ≡ 0 = ap length none in
    let all : length l.made.items ≡ length c.args.peers.items = omega (arith, zero, l.invariant.5) in
    let opened : map (λ q. q.opened) l.made.items ≡ map sums_at c.args.peers.items = sym (all_moved _)
    ∙ (sym (ap (λ r. map (λ q. q.opened) l.made.items ++ map sums_at r) none) ∙ l.invariant.3) in
    let none_queues : l.queues.rest.items ≡ [] = nothing _ (omega (arith, zero, l.invariant.19)) in (
      all ∙ sym (ap (λ n. n.peers) c.requires.names),
      ap total opened ∙ sym (ap (λ n. n.opened) c.requires.names),
      sym (all_moved _) ∙ (sym (ap (λ r. map (λ q. q.queue.table.shared.table_id) l.made.items
          ++ map (λ q. q.queue.table.shared.table_id) r) none_queues) ∙ l.invariant.18),
    )

pub close-requires-3-clause-total : goal.close-requires-3-clause-total
close-requires-3-clause-total g c =
    let l = c.loop-peer in
    let none : l.peer-iterator.rest.items ≡ [] = nothing _ (search rules) in
    let opened : map (λ q. q.opened) l.made.items ≡ map sums_at c.args.peers.items = sym (all_moved _)
    ∙ (sym (ap (λ r. map (λ q. q.opened) l.made.items ++ map sums_at r) none) ∙ l.invariant.3) in
    l.invariant.15 ∙ (ap (λ m. (total m).taken) opened ∙ sym (ap (λ n. n.opened.taken) c.requires.names))

pub close-requires-clause-total : goal.close-requires-clause-total
close-requires-clause-total g c =
    let l = c.loop-peer in
    let none : l.peer-iterator.rest.items ≡ [] = nothing _ (search rules) in
    let opened : map (λ q. q.opened) l.made.items ≡ map sums_at c.args.peers.items = sym (all_moved _)
    ∙ (sym (ap (λ r. map (λ q. q.opened) l.made.items ++ map sums_at r) none) ∙ l.invariant.3) in
    l.invariant.16 ∙ (ap (λ m. (total m).answered) opened ∙ sym (ap (λ n. n.opened.answered) c.requires.names))

pub close-requires-2-clause-total : goal.close-requires-2-clause-total
close-requires-2-clause-total g c =
    let l = c.loop-peer in
    let none : l.peer-iterator.rest.items ≡ [] = nothing _ (search rules) in
    let opened : map (λ q. q.opened) l.made.items ≡ map sums_at c.args.peers.items = sym (all_moved _)
    ∙ (sym (ap (λ r. map (λ q. q.opened) l.made.items ++ map sums_at r) none) ∙ l.invariant.3) in
    l.invariant.17 ∙ (ap (λ m. (total m).dropped) opened ∙ sym (ap (λ n. n.opened.dropped) c.requires.names))

pub invariant_of-result : goal.invariant_of-result
invariant_of-result g c =
    let l = c.loop-peer in
    let none : l.peer-iterator.rest.items ≡ [] = nothing _ (search rules) in
    let zero : length l.peer-iterator.rest.items ≡ 0 = ap length none in
    let peers : length c.args.peers.items ≡ g.N.Naming.names.peers = sym (ap (λ n. n.peers) c.requires.names) in
    (c.open-taken.ensures.parts, omega (arith, zero, peers, l.invariant.6))

pub returns-clause-post : goal.returns-clause-post
returns-clause-post g c =
    let l = c.loop-peer in
    let none : l.peer-iterator.rest.items ≡ [] = nothing _ (search rules) in
    let names : map (λ q. q.name) l.made.items ≡ map (λ p. p.name) c.args.peers.items = sym (all_moved _)
    ∙ (sym (ap (λ r. map (λ q. q.name) l.made.items ++ map (λ p. p.name) r) none) ∙ l.invariant.2) in
    let opened : map (λ q. q.opened) l.made.items ≡ map sums_at c.args.peers.items = sym (all_moved _)
    ∙ (sym (ap (λ r. map (λ q. q.opened) l.made.items ++ map sums_at r) none) ∙ l.invariant.3) in
    λ i. record { names = names i; opened = opened i }

pub returns-clause-marks : goal.returns-clause-marks
returns-clause-marks g c =
    let l = c.loop-peer in
    let none : l.peer-iterator.rest.items ≡ [] = nothing _ (search rules) in
    sym (all_moved _) ∙ (sym (ap (λ r. l.marks.items ++ map (λ p. (ledger_of p.station).mark) r) none) ∙ l.invariant.4)
