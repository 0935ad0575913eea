use Rattle.std.proofs.Common.{◌≡◌, ◌+◌, ◌++◌, [], ◌∷◌, map, length, refl, ap, sym, ◌∙◌, arith, rules}
use Rattle.std.proofs.lemmas.List.Elements.{All-nil, All-push, All-same}
use Rattle.note_queue.specs.Folds.{Folds}
use Rattle.peer_queue.specs.Front.{front_shape}
use Rattle.flusher.specs.Post.{sums_in, total}
use Rattle.flusher.specs.Shares.{IntakeCount}
use Rattle.flusher.proofs.Lists.{all_moved, at_drop, drop_next, fewer_made, length_snoc, made_first, moved, nothing}
use Rattle.flusher.proofs.Lists.{sum_snoc}
use Rattle.flusher.proofs.post.Post.close.Goals as goal

pub loop-peer-init : goal.loop-peer-init
loop-peer-init g c =
    let peers = c.self.inside.peers.items in
    let gives = c.into_iter-peer-iterator.ensures.into_iter_gives.0 in
    let left = c.into_iter-peer-iterator.result.rest.items in
    let none : c.in-Ok.closed.items ≡ [] = c.in-Ok.ensures.peers.0 in
    let zero : length c.in-Ok.closed.items ≡ 0 = ap length none in
    let some : length left ≡ length peers = ap length gives in
    let t = c.parts-taken.ensures.rest in
    let a = c.parts-answered.ensures.rest in
    let d = c.parts-dropped.ensures.rest in (
      tt,
      tt,
      (λ i. map (λ p. p.name) (none i) ++ map (λ q. q.name) (gives i)) ∙ ap (λ v. v.names) c.self.view_is,
      (λ i. map (λ p. p.opened) (none i) ++ map (λ q. q.opened) (gives i)) ∙ ap (λ v. v.opened) c.self.view_is,
      omega (arith, zero, some, c.self.invariant.0),
      omega (arith, c.in-Ok.ensures.peers.1, c.len.ensures, c.self.inside.peers.ok.0, c.self.invariant.0),
      t.0 ∙ sym zero,
      a.0 ∙ sym zero,
      d.0 ∙ sym zero,
      t.1 ∙ sym (ap (λ m. (total (map sums_in m)).taken) none),
      a.1 ∙ sym (ap (λ m. (total (map sums_in m)).answered) none),
      d.1 ∙ sym (ap (λ m. (total (map sums_in m)).dropped) none),
      sym zero,
      sym c.self.invariant.2 ∙ sym (ap (λ m. map (λ q. q.queue.table.shared.table_id) m) gives),
      omega (arith, c.in-Ok.ensures.rooms, c.len.ensures, c.self.inside.peers.ok.0, some),
      All-same (λ p. Folds p.ends) c.in-Ok.closed.items [] none (All-nil (λ p. Folds p.ends)),
    )

pub peer-requires : goal.peer-requires
peer-requires g c =
    record {
      tied = at_drop g.N.Naming.names.tables (map (λ q. q.queue.table.shared.table_id) c.next.new.self.rest.items)
          c.loop-peer.place c.in-Some.peer.queue.table.shared.table_id
          (c.loop-peer.invariant.13 ∙ ap (λ m. map (λ q. q.queue.table.shared.table_id) m) c.in-Some.ensures.steps.0);
    }

pub loop-peer-preserved : goal.loop-peer-preserved
loop-peer-preserved g c =
    let l = c.loop-peer in
    let was = l.invariant in
    let step = c.in-Some.ensures.steps.0 in
    let left = c.next.new.self.rest.items in
    let peer = c.in-Some.peer in
    let one = c.in-Ok-peer.ended in
    let e = c.in-Ok-peer.ensures in
    let parts = e.parts in
    let made = c.push_reserved.ensures.items in
    let fewer : length l.peer-iterator.rest.items ≡ length left + 1 = ap length step ∙ omega arith in
    let more : length c.push_reserved.new.self.items ≡ length l.closed.items + 1 = ap length made
    ∙ length_snoc _ _ in
    let fewer_rooms : length l.rooms.items ≡ length c.pop.new.self.items + 1 = ap length c.in-Some-pop.ensures.items
    ∙ length_snoc _ _ in (
      tt,
      tt,
      ap (λ m. map (λ p. p.name) m ++ map (λ q. q.name) left) made
          ∙ (moved (λ q. q.name) (λ p. p.name) l.closed.items one peer left e.name.0
          ∙ (sym (ap (λ r. map (λ p. p.name) l.closed.items ++ map (λ q. q.name) r) step) ∙ was.2)),
      ap (λ m. map (λ p. p.opened) m ++ map (λ q. q.opened) left) made
          ∙ (moved (λ q. q.opened) (λ p. p.opened) l.closed.items one peer left e.name.1
          ∙ (sym (ap (λ r. map (λ p. p.opened) l.closed.items ++ map (λ q. q.opened) r) step) ∙ was.3)),
      omega (arith, more, fewer, was.4),
      search rules,
      omega (arith, parts.0, more, was.6),
      omega (arith, parts.1, more, was.7),
      omega (arith, parts.2, more, was.8),
      e.amounts.0 ∙ (ap (λ n. n + (front_shape one.ends.front).taken) was.9
          ∙ sym (ap (λ m. (total (map sums_in m)).taken) made ∙ sum_snoc (λ s. s.taken) sums_in l.closed.items one)),
      e.amounts.1 ∙ (ap (λ n. n + (front_shape one.ends.front).answered) was.10
          ∙ sym (ap (λ m. (total (map sums_in m)).answered) made
          ∙ sum_snoc (λ s. s.answered) sums_in l.closed.items one)),
      e.amounts.2 ∙ (ap (λ n. n + (front_shape one.ends.front).dropped) was.11
          ∙ sym (ap (λ m. (total (map sums_in m)).dropped) made
          ∙ sum_snoc (λ s. s.dropped) sums_in l.closed.items one)),
      omega (arith, more, was.12),
      drop_next g.N.Naming.names.tables (map (λ q. q.queue.table.shared.table_id) left) l.place
          peer.queue.table.shared.table_id (was.13 ∙ ap (λ m. map (λ q. q.queue.table.shared.table_id) m) step),
      omega (arith, fewer, was.14, fewer_rooms),
      All-same (λ p. Folds p.ends) c.push_reserved.new.self.items _ made
          (All-push (λ p. Folds p.ends) l.closed.items one was.15 e.folds),
    )

-- the peers before a stray one are closed
pub returns-in-Err-clause-returned : goal.returns-in-Err-clause-returned
returns-in-Err-clause-returned g c =
    let l = c.loop-peer in
    let step = c.in-Some.ensures.steps.0 in
    let left = c.next.new.self.rest.items in
    let peer = c.in-Some.peer in
    let stray = c.in-Err.stray in
    let place : stray.place ≡ length l.closed.items = c.in-Err.ensures.stray ∙ l.invariant.12 in
    let names : map (λ p. p.name) l.closed.items ++ map (λ q. q.name) (peer ∷ left) ≡ c.args.self.names =
    sym (ap (λ r. map (λ p. p.name) l.closed.items ++ map (λ q. q.name) r) step) ∙ l.invariant.2 in
    let opened : map (λ p. p.opened) l.closed.items ++ map (λ q. q.opened) (peer ∷ left) ≡ c.args.self.opened =
    sym (ap (λ r. map (λ p. p.opened) l.closed.items ++ map (λ q. q.opened) r) step) ∙ l.invariant.3 in
    record {
      mismatch = stray.mismatch;
      within = fewer_made (λ q. q.name) (λ p. p.name) l.closed.items peer left c.args.self.names stray.place names
          place;
      names = made_first (λ q. q.name) (λ p. p.name) l.closed.items (peer ∷ left) c.args.self.names stray.place names
          place;
      opened = made_first (λ q. q.opened) (λ p. p.opened) l.closed.items (peer ∷ left) c.args.self.opened stray.place
          opened place;
      folds = l.invariant.15;
    }

-- what the shares have is what the workers' books count, and by that the stations' books have risen
pub returns-clause-closes : goal.returns-clause-closes
returns-clause-closes g c =
    let l = c.loop-peer in
    let none : l.peer-iterator.rest.items ≡ [] = nothing _ (search rules) in
    let zero : length l.peer-iterator.rest.items ≡ 0 = search rules in
    let opened = sym (ap (λ v. total v.opened) c.self.view_is) ∙ c.self.invariant.1 in
    let taken = sym c.parts-taken.ensures.count.1
    ∙ (sym (c.audit-4.ensures.whole c.intake.invariant.0) ∙ ap (λ (s : IntakeCount). s.taken) c.intake.view_is) in
    let answered = sym c.parts-answered.ensures.count.1
    ∙ (sym (c.audit-5.ensures.whole c.joined-told_answered.ensures.answered.0)
    ∙ c.joined-told_answered.ensures.answered.1) in
    let dropped = sym c.parts-dropped.ensures.count.1
    ∙ (sym (c.audit-6.ensures.whole c.joined-told_answered.ensures.dropped.0)
    ∙ c.joined-told_answered.ensures.dropped.1) in
    let all_taken : l.all.taken.parts ≡ g.N.Naming.names.peers = omega (arith, zero, l.invariant.4, l.invariant.6) in
    let all_answered : l.all.answered.parts ≡ g.N.Naming.names.peers =
    omega (arith, zero, l.invariant.4, l.invariant.7) in
    let all_dropped : l.all.dropped.parts ≡ g.N.Naming.names.peers =
    omega (arith, zero, l.invariant.4, l.invariant.8) in
    record {
      taken = sym l.invariant.9 ∙ (c.audit.ensures.whole all_taken
          ∙ (c.parts-taken.ensures.stations ∙ (λ i. (sym opened i).taken + taken i)));
      answered = sym l.invariant.10 ∙ (c.audit-2.ensures.whole all_answered
          ∙ (c.parts-answered.ensures.stations ∙ (λ i. (sym opened i).answered + answered i)));
      dropped = sym l.invariant.11 ∙ (c.audit-3.ensures.whole all_dropped
          ∙ (c.parts-dropped.ensures.stations ∙ (λ i. (sym opened i).dropped + dropped i)));
      sums = (
        c.parts-taken.ensures.count.0 ∙ taken,
        c.parts-answered.ensures.count.0 ∙ answered,
        c.parts-dropped.ensures.count.0 ∙ dropped,
      );
      names = (
        sym (all_moved _) ∙ (sym (ap (λ r. map (λ p. p.name) l.closed.items ++ map (λ q. q.name) r) none)
            ∙ l.invariant.2),
        sym (all_moved _) ∙ (sym (ap (λ r. map (λ p. p.opened) l.closed.items ++ map (λ q. q.opened) r) none)
            ∙ l.invariant.3),
      );
      folds = l.invariant.15;
    }
