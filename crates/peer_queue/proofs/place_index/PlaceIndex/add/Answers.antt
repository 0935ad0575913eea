use Rattle.std.proofs.Common.{◌≡◌, ℕ, Bool, Some, None, sym, subst}
use Rattle.std.specs.Prelude.{OnOk}
use Rattle.deferral.specs.Due.{due_of}
use Rattle.peer_queue.specs.DebtPlace.{Places, Ready, place_at, with_place}
use Rattle.peer_queue.specs.Index.{Holders, holder_in, holds, places_by}
use Rattle.peer_queue.proofs.Kept as kept
use Rattle.peer_queue.proofs.Moves as moves
use Rattle.peer_queue.proofs.place_index.PlaceIndex.add.Goals as goal

pub put-requires : goal.put-requires
put-requires c =
    let n = c.args.key in
    moves.absent_due (holder_in c.self.inside.held.keys) c.self.inside.agenda n
    (subst (λ (p : Places). place_at p n ≡ None) (sym c.self.view_is) c.requires)

pub invariant_of-self : goal.invariant_of-self
invariant_of-self c =
    let agenda = c.self.inside.agenda in
    let h : Holders = holder_in c.self.inside.held.keys in
    let k : ℕ → ℕ → Bool = holds c.self.inside.held in
    let n = c.args.key in
    let none : due_of agenda n ≡ None =
    moves.absent_due h agenda n (subst (λ (p : Places). place_at p n ≡ None) (sym c.self.view_is) c.requires) in
    let ok = moves.ready_put c.put.result agenda c.put.new.self n c.due_at.result c.due_at.ensures c.put.ensures.ok in
    kept.kept_put c.put.result agenda c.put.new.self h k n c.self.invariant none ok c.put.ensures.unchanged
    (λ m. c.after_put.ensures.moments agenda n m (Some 0) none)
    (c.after_put.ensures.order agenda n (Some 0) c.self.invariant.rising)

pub returns-clause-ok : goal.returns-clause-ok
returns-clause-ok c =
    let agenda = c.self.inside.agenda in
    let h : Holders = holder_in c.self.inside.held.keys in
    let n = c.args.key in
    let ok = moves.ready_put c.put.result agenda c.put.new.self n c.due_at.result c.due_at.ensures c.put.ensures.ok in
    subst (λ (p : Places). OnOk c.put.result (places_by h c.put.new.self ≡ with_place p n Ready)) c.self.view_is
    (moves.places_put c.put.result agenda c.put.new.self h n ok)
