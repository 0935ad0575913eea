use Rattle.std.proofs.Common.{◌≡◌, ℕ, ◌≤◌, ◌<◌, ◌^◌, List, length, take, sym, ap, ◌∙◌, subst, arith, rules}
use Rattle.std.specs.Prelude.{nat_lt}
use Rattle.std.proofs.lemmas.List.{length-take}
use Rattle.ledger_core.specs.Shape.{Shape, keys_sized}
use Rattle.peer_queue.specs.Front.{front_shape, pending_of, places_of}
use Rattle.peer_queue.specs.DebtPlace.{AreUnheld, all_gone, placed}
use Rattle.peer_queue.specs.Shed.{IsShedByShape, sized_without}
use Rattle.ledger_core.specs.Shape.{octets_sized}
use Rattle.peer_queue.specs.ShedLaws.{set_unheld}
use Rattle.peer_queue.proofs.Cuts.{cut_again, cut_shed}
use Rattle.peer_queue.proofs.Shaped.{drops_fit, placed_after}
use Rattle.peer_queue.proofs.front.Front.shed.Goals as goal

pub drop_all-requires-clause-legal : goal.drop_all-requires-clause-legal
drop_all-requires-clause-legal c =
    let front = c.args.self.now in
    let shape = front_shape front in
    let places = places_of front in
    let found = c.in_ok-keys.ensures.set in
    let set = found.0 in
    let room = c.room-room.result in
    let again = cut_again room c.in_ok-keys.keys.items set found.2 in
    let cut : c.deref.result.now ≡ take room set = c.deref.ensures.value ∙ (c.truncate.ensures.items ∙ again) in
    let unheld : AreUnheld places c.deref.result.now = subst (λ (l : List ℕ). AreUnheld places l) (sym cut)
    (set_unheld front.limits (octets_sized shape.sizes) (sized_without shape.sizes) places set room
    c.in_ok-keys.ensures.rising found.1) in
    let fits : c.totals-totals.result.taken < 2 ^ 64 = omega arith in
    drops_fit places shape c.deref.result.now c.totals-totals.result front.all_placed unheld
    c.totals-totals.ensures.counts c.totals-totals.ensures.sum fits

pub drop_all-requires-clause-room : goal.drop_all-requires-clause-room
drop_all-requires-clause-room c =
    let found = c.in_ok-keys.ensures.set in
    let room = c.room-room.result in
    let again = cut_again room c.in_ok-keys.keys.items found.0 found.2 in
    let cut : c.deref.result.now ≡ take room found.0 = c.deref.ensures.value ∙ (c.truncate.ensures.items ∙ again) in
    let few : length c.deref.result.now ≤ room =
    omega (arith, ap (λ (l : List ℕ). length l) cut, length-take room found.0) in
    omega (arith, few, c.room-room.ensures)

pub remove_all-requires : goal.remove_all-requires
remove_all-requires c =
    let front = c.args.self.now in
    let shape = front_shape front in
    let places = places_of front in
    let found = c.in_ok-keys.ensures.set in
    let set = found.0 in
    let room = c.room-room.result in
    let again = cut_again room c.in_ok-keys.keys.items set found.2 in
    let cut : c.deref-2.result.now ≡ take room set = c.deref-2.ensures.value ∙ (c.truncate.ensures.items ∙ again) in
    subst (λ (l : List ℕ). AreUnheld places l) (sym cut)
    (set_unheld front.limits (octets_sized shape.sizes) (sized_without shape.sizes) places set room
    c.in_ok-keys.ensures.rising found.1)

pub invariant_of-self-2 : goal.invariant_of-self-2
invariant_of-self-2 c =
    let front = c.args.self.now in
    let shape = front_shape front in
    let l = c.deref.result.now in
    let same : c.deref-2.result.now ≡ l = c.deref-2.ensures.value ∙ sym c.deref.ensures.value in
    record {
      all_placed =
          ap placed (c.remove_all.ensures ∙ ap (λ (k : List ℕ). all_gone (places_of front) k) same)
          ∙ (placed_after (places_of front) shape l front.all_placed
          ∙ sym (ap (λ (s : Shape). keys_sized s.sizes) c.in_ok-drop_all.ensures.ok.shape));
    }

pub returns-clause-ok : goal.returns-clause-ok
returns-clause-ok c =
    let front = c.args.self.now in
    let room = c.room-room.result in
    let found = c.in_ok-keys.keys.items in
    let many : c.len.result ≡ length found = omega (arith, c.len.ensures) in
    record {
      set =
          cut_shed (IsShedByShape front.limits (front_shape front) (places_of front)) (pending_of front) room found
          c.room-room.ensures c.in_ok-keys.ensures.set c.truncate.ensures.items (ap (λ (n : ℕ). nat_lt room n) many);
      notes = search rules;
      places = search rules;
    }
