use Rattle.std.proofs.Common.{◌≡◌, ℕ, ◌≤◌, List, [], length, take, inr, sym, ap, ◌∙◌, subst, arith, rules}
use Rattle.std.specs.Prelude.{Err, nat_lt}
use Rattle.std.proofs.lemmas.Bool.{iff_false}
use Rattle.std.proofs.lemmas.List.{length-take}
use Rattle.ledger_core.specs.State.{State, keys, after}
use Rattle.recovery.specs.Notes.{AreOwed}
use Rattle.recovery.specs.declared.fault.TapeFault.{TapeFault}
use Rattle.recovery.specs.Words.{ledger_of as tape_ledger}
use Rattle.peer_queue.specs.DebtPlace.{AreUnheld, all_gone, placed}
use Rattle.peer_queue.specs.Shed.{IsShedSet, dropped}
use Rattle.peer_queue.specs.Words.{ledger_of, pending_of, places_of}
use Rattle.peer_queue.specs.ShedLaws.{shed_unheld}
use Rattle.peer_queue.proofs.Cuts.{cut_again, cut_shed}
use Rattle.peer_queue.proofs.Sheds.{drop_fault, placed_dropped, shed_owed}
use Rattle.peer_queue.proofs.station.Station.shed.Goals as goal

pub returns-in-Err-clause-kinds : goal.returns-in-Err-clause-kinds
returns-in-Err-clause-kinds g c =
    let station = c.args.self.now in
    let state = ledger_of station in
    let places = places_of station in
    let found = c.in_ok-keys.ensures.set in
    let set = found.0 in
    let room = c.room-room.result in
    let again = cut_again room c.in_ok-keys.keys.items set found.2 in
    let cut : c.deref.result.now ≡ take room set = c.deref.ensures.value ∙ (c.truncate.ensures.items ∙ again) in
    let rising = c.in_ok-keys.ensures.rising in
    let owed : AreOwed state [] c.deref.result.now =
    subst (λ (l : List ℕ). AreOwed state [] l) (sym cut)
    (shed_owed station.limits state places set room rising station.all_placed found.1) in
    let few : length c.deref.result.now ≤ room = omega (arith, ap (λ (l : List ℕ). length l) cut, length-take room set) in
    inr (c.station_fault.ensures ∙ drop_fault c.in-Err.fault c.in-Err.ensures.refuses.kinds
    (λ e. iff_false c.is_broken.ensures c.if-is_broken.false (c.in-Err.ensures.refuses.broken.0 (ap (λ (f : TapeFault). Err f) e)))
    (λ e. (c.in-Err.ensures.refuses.not_owed.0 (ap (λ (f : TapeFault). Err f) e)).1 owed)
    (λ e. let over = (c.in-Err.ensures.refuses.pending_full.0 (ap (λ (f : TapeFault). Err f) e)).2 in omega (arith, over, few, c.room-room.ensures)))

pub remove_all-requires : goal.remove_all-requires
remove_all-requires g c =
    let station = c.args.self.now in
    let places = places_of station in
    let found = c.in_ok-keys.ensures.set in
    let set = found.0 in
    let room = c.room-room.result in
    let again = cut_again room c.in_ok-keys.keys.items set found.2 in
    let cut : c.deref-2.result.now ≡ take room set = c.deref-2.ensures.value ∙ (c.truncate.ensures.items ∙ again) in
    subst (λ (l : List ℕ). AreUnheld places l) (sym cut)
    (shed_unheld station.limits (ledger_of station) places set room c.in_ok-keys.ensures.rising found.1)

pub invariant_of-self-2 : goal.invariant_of-self-2
invariant_of-self-2 g c =
    let station = c.args.self.now in
    let state = ledger_of station in
    let l = c.deref.result.now in
    let same : c.deref-2.result.now ≡ l = c.deref-2.ensures.value ∙ sym c.deref.ensures.value in
    let ledger : tape_ledger c.drop_all.new.self ≡ after state (dropped l) = c.in_default.ensures.ledger in
    record {
      all_placed =
          ap placed (c.remove_all.ensures ∙ ap (λ (k : List ℕ). all_gone (places_of station) k) same)
          ∙ (placed_dropped (places_of station) state l station.all_placed ∙ sym (ap (λ (s : State). keys s) ledger));
      unplaced = c.in_default.ensures.place ∙ station.unplaced;
    }

pub returns-clause-ok : goal.returns-clause-ok
returns-clause-ok g c =
    let station = c.args.self.now in
    let room = c.room-room.result in
    let found = c.in_ok-keys.keys.items in
    let many : c.len.result ≡ length found = omega (arith, c.len.ensures) in
    record {
      set =
          cut_shed (IsShedSet station.limits (ledger_of station) (places_of station)) (pending_of station) room found
          c.room-room.ensures c.in_ok-keys.ensures.set c.truncate.ensures.items (ap (λ (n : ℕ). nat_lt room n) many);
      notes = search rules;
      ledger = search rules;
      places = search rules;
      pends = search rules;
    }
